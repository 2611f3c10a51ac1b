use Rattle.std.proofs.Common.{[], length, get_or, ap, ◌∙◌}
use Rattle.std.proofs.lemmas.List.{get_or_default}
use Rattle.cmm_live.proofs.Unions.{union_more, union_skip}
use Rattle.cmm_live.proofs.equation.union_before.Goals.{in-Some, in_default}
use Rattle.cmm_live.proofs.equation.union_before.Goals as goal

pub loop-node-preserved : goal.loop-node-preserved
loop-node-preserved c =
    let nodes = c.args.nodes.now in
    let i = c.loop-node.node-index in
    let n = get_or nodes i (record { number = 0 }) in
    elim c.match-get.branch [
      | in-Some w ↦
          let there = w.in-Some.ensures.lookup.3 in
          rw (w.set-is ∙ w.join.ensures.joined) (union_more c.args.g.now c.args.before.now nodes i n c.loop-node.set w.in-Some.other.now c.loop-node-test.true
          (get_or_default _ _ _ _ c.loop-node-test.true) c.loop-node.invariant (there.1 []) (ap length (there.1 []) ∙ c.requires.sized n.number there.0))
      | in_default w ↦ rw w.set-is (union_skip c.args.g.now c.args.before.now nodes i n c.loop-node.set c.loop-node-test.true
          (get_or_default _ _ _ _ c.loop-node-test.true) c.loop-node.invariant w.in_default.ensures.lookup.3)
    ]
