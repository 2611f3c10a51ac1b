use Rattle.std.proofs.Common.{◌≡◌, ℕ, ◌+◌, ◌<◌, inl, inr, get_or, subst, true, arith, IsTrue, None}
use Rattle.std.proofs.lemmas.Bool.{cases_lt}
use Rattle.std.proofs.lemmas.List.Elements.{All-from_get_or, All-get_or}
use Rattle.cmm_bitset.specs.Sets.{has}
use Rattle.cmm_graph.specs.declared.number.NodeId.{NodeId}
use Rattle.cmm_emit.proofs.Between.{both_behind, none_behind}
use Rattle.cmm_emit.specs.Naming.{has_node}
use Rattle.cmm_emit.proofs.node_code.lay_each.Goals as goal

-- what holds below a number and of it holds below the next
up_to : (P : ℕ → Type 0) (n : ℕ) → ((k : ℕ) → k < n → P k) → P n → (k : ℕ) → k < n + 1 → P k
up_to P n before here k less = elim (cases_lt k n) [
  | inl below ↦ before k below
  | inr is ↦ subst P (omega (arith, less, is)) here
]

pub loop-node-init : goal.loop-node-init
loop-node-init c = record {
  between = c.requires.between;
  each = λ k less. absurd (omega (arith, less));
  behind = none_behind c.args.context.now c.args.targets.now c.args.graph.now c.args.asm.now.labels c.args.placed.now c.args.asm.now.parts;
}

pub loop-node-preserved : goal.loop-node-preserved
loop-node-preserved c =
    let e = c.in_ok-lay_from.ensures in
    let inv = c.loop-node.invariant in
    record {
      between = e.between;
      each = λ k less. up_to (λ k. has c.lay_from.new.placed (get_or c.args.nodes.now k (record { number = 0 })).number ≡ true) c.loop-node.node-index
          (λ k before. e.behind.grows (get_or c.args.nodes.now k (record { number = 0 })).number (inv.each k before)) e.first k (omega (arith, less));
      behind = both_behind c.args.context.now c.args.targets.now c.args.graph.now None c.args.asm.now.labels c.loop-node.asm.labels c.lay_from.new.asm.labels c.args.placed.now c.loop-node.placed
          c.lay_from.new.placed c.args.asm.now.parts c.loop-node.asm.parts c.lay_from.new.asm.parts inv.behind e.behind;
    }

pub lay_from-requires-clause-first : goal.lay_from-requires-clause-first
lay_from-requires-clause-first c =
    All-get_or (λ (n : NodeId). IsTrue (has_node c.args.context.now n)) c.args.nodes.now c.loop-node.node-index (record { number = 0 }) c.loop-node-test.true c.requires.nodes

pub returns-clause-each : goal.returns-clause-each
returns-clause-each c =
    let past = c.loop-node-test.false in
    All-from_get_or (λ (n : NodeId). has c.loop-node.placed n.number ≡ true) c.args.nodes.now (record { number = 0 })
    (λ k less. c.loop-node.invariant.each k (omega (arith, less, past)))
