use Rattle.std.proofs.Common.{◌≡◌, ◌<◌, ◌-◌, ◌∙◌, ap, arith, get_or, length, List, subst}
use Rattle.cmm_graph.specs.declared.node.Node.{Node}
use Rattle.cmm_hoist.proofs.Named.{node_is_within}
use Rattle.cmm_hoist.specs.Graphs.{all_operands}
use Rattle.cmm_hoist.proofs.worth.constants_in_loops.Goals.{then-eq+in_ok-keep_of, else-eq}
use Rattle.cmm_hoist.proofs.worth.constants_in_loops.Goals as goal

pub loop-before-preserved : goal.loop-before-preserved
loop-before-preserved c =
    elim c.if-eq.branch [
      | then-eq+in_ok-keep_of w ↦
          let g = c.args.g.now in
          let nodes = c.as_slice-nodes.result.now in
          let i = length nodes - 1 - c.loop-before.before in
          let node = w.index-nodes-index.result in
          let same : nodes ≡ g.nodes = c.as_slice-nodes.ensures in
          let is : node ≡ get_or g.nodes i node = w.index-nodes-index.is ∙ ap (λ (ns : List Node). get_or ns i node) same in
          let less : i < length g.nodes = subst (λ (ns : List Node). i < length ns) same (omega (arith, c.loop-before-test.true)) in
          record {
            named = rw w.kept-is (w.in_ok-keep_of.ensures.named (all_operands g) (node_is_within g i node less is) c.loop-before.invariant.named);
            few = rw w.kept-is (w.in_ok-keep_of.ensures.few c.loop-before.invariant.few);
          }
      | else-eq w ↦ rw w.kept-is c.loop-before.invariant
    ]
