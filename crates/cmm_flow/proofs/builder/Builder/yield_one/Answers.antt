use Rattle.std.proofs.Common.{IfOk, ap, refl, slice_get, subst}
use Rattle.cmm_graph.specs.declared.node.NodeKind.TheVariants as kinds
use Rattle.cmm_flow.specs.inside.Laying.{LaysNode}
use Rattle.cmm_flow.proofs.Begins.{normal_leads}
use Rattle.cmm_flow.proofs.Laying.{lays_after}
use Rattle.cmm_flow.proofs.NodeLists.{same_node}
use Rattle.cmm_flow.proofs.Passing.{lead_stays}
use Rattle.cmm_flow.proofs.builder.Builder.yield_one.Goals as goal

pub returns : goal.returns
returns c =
    let there = slice_get c.args.q.now.sites c.args.site in let exits = c.in_ok-exits.exits in
    let kinds_are = ap (λ vs. kinds.Yield record { number = c.args.site } vs exits) c.in_ok-values.ensures in
    lays_after _ _ _ _ _ _ _ _ c.push.result c.in_ok-exits.ensures (λ nodes more. lead_stays nodes more there exits c.args.next)
    (subst (λ node. IfOk c.push.result (λ n. LaysNode node c.exits_at.new.self c.push.new.self n)) (same_node refl kinds_are) c.push.ensures) refl
    (λ g is steps normal. (refl, normal_leads g exits.normal is.1)) (λ n nodes normal is. (exits, is, normal.0))
