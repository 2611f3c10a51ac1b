use Rattle.std.proofs.Common.{◌≡◌, ◌<◌, sym, ◌∙◌, ap, arith, List, [], ◌∷◌, ◌++◌, get_or, length, take}
use Rattle.cmm_emit.proofs.Making.{there_is}
use Rattle.rv_asm.specs.declared.part.Label.{Label}
use Rattle.cmm_graph.specs.declared.graph.Graph.{Graph}
use Rattle.cmm_emit.specs.declared.context.Context.{Context}
use Rattle.cmm_emit.specs.Naming.{label_at}
use Rattle.cmm_emit.proofs.Making.{entries_more}
use Rattle.cmm_emit.specs.Contexts.{entry_labels}
use Rattle.cmm_emit.proofs.contexts.entry_labels.Goals as goal

pub loop-number-preserved : goal.loop-number-preserved
loop-number-preserved c =
    let ps = c.args.contexts.now in
    let gs = c.args.graphs.now in
    let n = c.loop-number.number in
    let p = c.index-contexts-number.result in
    let g = c.index-graphs-number.result in
    let less : n < length ps = omega (arith, c.loop-number-test.true) in
    let is_p = there_is ps n p less c.index-contexts-number.is in
    let is_g = there_is gs n g (omega (arith, less, c.requires)) c.index-graphs-number.is in
    let same_p : get_or ps n p ≡ p = sym c.index-contexts-number.is in
    let same_g : get_or gs n g ≡ g = sym c.index-graphs-number.is in
    let label = c.node_label.ensures
    ∙ (ap (λ (ls : List Label). label_at ls (get_or gs n g).first.number) c.as_slice.ensures
    ∙ (ap (λ (z : Context). label_at z.nodes (get_or gs n g).first.number) same_p ∙ ap (λ (z : Graph). label_at p.nodes z.first.number) same_g))
    in
    c.in_ok-push.ensures.ok
    ∙ (ap (λ (ls : List Label). ls ++ c.node_label.result ∷ []) c.loop-number.invariant
    ∙ (ap (λ (l : Label). entry_labels (take n ps) (take n gs) ++ l ∷ []) label ∙ sym (entries_more ps gs n p g is_p is_g)))
