use Rattle.std.proofs.Common.{List, ◌+◌, ◌∙◌, sym, subst, take}
use Rattle.std.specs.Prelude.{All}
use Rattle.std.proofs.lemmas.List.{take_all}
use Rattle.cmm_graph.specs.declared.node.Node.{Node}
use Rattle.cmm_live.proofs.Gathering.{IsCounted, counted_site, counted_none}
use Rattle.cmm_live.proofs.sites.site_count.Goals.{in-Some, in_default}
use Rattle.cmm_live.proofs.sites.site_count.Goals as goal

pub loop-node-preserved : goal.loop-node-preserved
loop-node-preserved c = elim c.match-site_of.branch [
  | in-Some w ↦ counted_site c.args.nodes.now c.loop-node.node-index c.loop-node.count c.match-site_of.count c.node-item.result w.in-Some.site
      c.loop-node-test.true c.node-item.is (sym c.site_of.ensures ∙ w.in-Some.is) (w.count-is ∙ w.max-count.ensures) c.loop-node.invariant
  | in_default w ↦ subst (λ count. All (IsCounted count) (take (c.loop-node.node-index + 1) c.args.nodes.now)) (sym w.count-is)
      (counted_none c.args.nodes.now c.loop-node.node-index c.loop-node.count c.node-item.result
      c.loop-node-test.true c.node-item.is (sym c.site_of.ensures ∙ w.in_default.is) c.loop-node.invariant)
]

pub returns : goal.returns
returns c = subst (λ (ns : List Node). All (IsCounted c.loop-node.count) ns) (take_all c.loop-node.node-index c.args.nodes.now c.loop-node-test.false)
    c.loop-node.invariant
