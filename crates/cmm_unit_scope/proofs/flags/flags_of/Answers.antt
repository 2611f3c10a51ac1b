use Rattle.std.proofs.Common.{true, ◌∙◌, ap, length}
use Rattle.std.proofs.lemmas.List.{length-set}
use Rattle.cmm_unit_scope.specs.inside.Evaluating.{flag_at}
use Rattle.cmm_unit_scope.proofs.Loops.{mark_next, node_within}
use Rattle.cmm_unit_scope.proofs.flags.flags_of.Goals as goal

pub loop-node-preserved : goal.loop-node-preserved
loop-node-preserved c =
    let k = c.loop-node.node-index in
    let nodes = c.args.nodes.now in (
      ap length c.set.ensures ∙ length-set c.loop-node.flags _ true ∙ c.loop-node.invariant.0,
      λ v.
          ap (λ q. flag_at q v) c.set.ensures
          ∙ mark_next c.loop-node.flags nodes k c.loop-node-test.true (node_within nodes k c.args.count c.loop-node.flags c.requires c.loop-node-test.true c.loop-node.invariant.0) c.loop-node.invariant.1 v,
    )
