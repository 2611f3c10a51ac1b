use Rattle.std.proofs.Common.{[], length, get_or, ap, ◌∙◌}
use Rattle.std.proofs.lemmas.List.{get_or_default}
use Rattle.cmm_allocate.proofs.Classing.{before_more, before_skip}
use Rattle.cmm_allocate.proofs.classes.join_before.Goals.{in-Some, in_default}
use Rattle.cmm_allocate.proofs.classes.join_before.Goals as goal

pub loop-node-preserved : goal.loop-node-preserved
loop-node-preserved c =
    let before = c.args.before.now in
    let nodes = c.args.nodes.now in
    let i = c.loop-node.node-index in
    let n = get_or nodes i (record { number = 0 }) in
    elim c.match-get.branch [
      | in-Some w ↦
          let there = w.in-Some.ensures.lookup.3 in
          rw (w.all-is ∙ w.join.ensures.joined) (before_more before nodes i n c.args.all.now c.loop-node.all w.in-Some.set.now c.loop-node-test.true
          (get_or_default _ _ _ _ c.loop-node-test.true) (there.1 []) (ap length (there.1 []) ∙ c.requires n.number [] there.0) c.loop-node.invariant)
      | in_default w ↦ rw w.all-is (before_skip before nodes i n c.args.all.now c.loop-node.all c.loop-node-test.true
          (get_or_default _ _ _ _ c.loop-node-test.true) w.in_default.ensures.lookup.3 c.loop-node.invariant)
    ]
