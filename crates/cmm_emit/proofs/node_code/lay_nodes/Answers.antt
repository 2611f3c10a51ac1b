use Rattle.std.proofs.Common.{◌≡◌, ℕ, ◌-◌, ◌<◌, ◌≤◌, ◌∙◌, Bool, List, None, ap, arith, false, inl, inr, length, subst, sym, true}
use Rattle.std.specs.Prelude.{replicate}
use Rattle.std.proofs.lemmas.Bool.{cases_lt}
use Rattle.std.proofs.lemmas.Option.{slice_get_within}
use Rattle.rv_asm.proofs.Shared.{appends_then, appends_weaker}
use Rattle.cmm_bitset.proofs.Shared.{has-replicate}
use Rattle.cmm_bitset.specs.Sets.{has}
use Rattle.cmm_emit.proofs.Between.{both_behind, none_behind}
use Rattle.cmm_emit.proofs.Own.{own_then}
use Rattle.cmm_emit.proofs.Summing.{come_few}
use Rattle.cmm_emit.proofs.WaitingSites.{none_placed}
use Rattle.cmm_emit.specs.LaidNodes.{AreLaid}
use Rattle.cmm_emit.proofs.node_code.lay_nodes.Goals as goal

-- what holds from a number on, and just below it, holds from there on
from_below : (P : ℕ → Type 0) (n end : ℕ) → ((k : ℕ) → n ≤ k → k < end → P k) → P (n - 1) → (k : ℕ) → n - 1 ≤ k → k < end → P k
from_below P n end above here k least less = elim (cases_lt k n) [
  | inl below ↦ subst P (omega (arith, below, least)) here
  | inr is ↦ above k is less
]

pub lay_from-requires-clause-between : goal.lay_from-requires-clause-between
lay_from-requires-clause-between c =
    let p = c.args.context.now in
    let y = c.args.targets.now in
    let g = c.args.graph.now in
    let placed = c.in_ok-placed.placed in
    let is : placed ≡ replicate (length g.nodes) false = c.in_ok-placed.ensures ∙ ap (λ n. replicate n false) c.len.ensures in
    let none : (k : ℕ) → has placed k ≡ true → ⊥ =
    λ k there. let not = ap (λ (s : List Bool). has s k) is ∙ has-replicate (length g.nodes) k in absurd (cc) in
    record {
      ready = c.requires.ready;
      laid = subst (λ (s : List Bool). AreLaid c.args.asm.now.labels p s) (sym is) c.requires.laid;
      waits = none_placed p y g c.requires.kinds c.args.asm.now.labels placed c.requires.unplaced;
      have = λ k there. absurd (none k there);
      stand = λ k node at there. absurd (none k there);
    }

pub returns-clause-added : goal.returns-clause-added
returns-clause-added c =
    appends_weaker (appends_then c.in_ok-lay_from.ensures.behind.added (appends_then c.in_ok-lay_each.ensures.behind.added c.loop-number.invariant.behind.added)) (λ x from to does. tt)

pub returns-clause-places : goal.returns-clause-places
returns-clause-places c =
    let p = c.args.context.now in
    own_then p c.args.asm.now.labels c.lay_from.new.asm.labels c.loop-number.asm.labels c.in_ok-lay_from.ensures.behind.places
    (own_then p c.lay_from.new.asm.labels c.lay_each.new.asm.labels c.loop-number.asm.labels c.in_ok-lay_each.ensures.behind.places c.loop-number.invariant.behind.places)

pub loop-number-init : goal.loop-number-init
loop-number-init c = record {
  between = c.in_ok-lay_each.ensures.between;
  from = λ k least less. absurd (omega (arith, least, less));
  behind = none_behind c.args.context.now c.args.targets.now c.args.graph.now c.lay_each.new.asm.labels c.lay_each.new.placed c.lay_each.new.asm.parts;
}

pub loop-number-preserved : goal.loop-number-preserved
loop-number-preserved c =
    let e = c.in_ok-lay_from-2.ensures in
    let inv = c.loop-number.invariant in
    record {
      between = e.between;
      from = from_below (λ k. has c.lay_from-in-loop-number.new.placed k ≡ true) c.loop-number.number _ (λ k least less. e.behind.grows k (inv.from k least less)) e.first;
      behind = both_behind c.args.context.now c.args.targets.now c.args.graph.now None c.lay_each.new.asm.labels c.loop-number.asm.labels c.lay_from-in-loop-number.new.asm.labels
          c.lay_each.new.placed c.loop-number.placed c.lay_from-in-loop-number.new.placed c.lay_each.new.asm.parts c.loop-number.asm.parts c.lay_from-in-loop-number.new.asm.parts inv.behind e.behind;
    }

pub returns-clause-code : goal.returns-clause-code
returns-clause-code c k less = c.loop-number.invariant.between.have k (c.loop-number.invariant.from k (omega arith) less)

pub returns-clause-size : goal.returns-clause-size
returns-clause-size c =
    let p = c.args.context.now in
    let first = c.in_ok-lay_from.ensures.behind.size in
    let each = c.in_ok-lay_each.ensures.behind.size in
    let rest = c.loop-number.invariant.behind.size in
    omega (arith, first, each, rest, come_few p c.args.targets.now c.in_ok-placed.placed None c.args.graph.now.nodes)

pub returns-clause-sites : goal.returns-clause-sites
returns-clause-sites c k node is =
    c.loop-number.invariant.between.stand k node is
    (c.loop-number.invariant.from k (omega arith) (slice_get_within c.args.graph.now.nodes k node is))

pub lay_each-requires-clause-nodes : goal.lay_each-requires-clause-nodes
lay_each-requires-clause-nodes c = rw c.as_slice-landings.ensures c.requires.landings
