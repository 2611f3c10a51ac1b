use Rattle.std.proofs.Common.{◌∙◌, ◌∷◌, ◌++◌, [], List, ap, sym, take}
use Rattle.std.proofs.lemmas.List.{take_more}
use Rattle.cmm_graph.specs.declared.node.Arm.{Arm}
use Rattle.cmm_program.specs.declared.statement.Range.{Range}
use Rattle.cmm_select.proofs.Spans.{spans_of_more}
use Rattle.cmm_select.specs.Switches.{label_of}
use Rattle.cmm_select.specs.inside.Searches.{spans_in, spans_of}
use Rattle.cmm_select.specs.declared.span.Span.{Span}
use Rattle.cmm_select.proofs.span.spans_of.Goals as goal

pub loop-arm-preserved : goal.loop-arm-preserved
loop-arm-preserved c =
    let arms = c.args.arms.now in
    let labels = c.args.labels.now in
    let i = c.loop-arm.arm-index in
    let arm = c.arm-item.result in
    c.in_ok-add_spans.ensures ∙ ap (λ (ss : List Span). ss ++ spans_in (label_of labels arm.to) c.as_slice.result.now) c.loop-arm.invariant
    ∙ ap (λ (rs : List Range). spans_of labels (take i arms) ++ spans_in (label_of labels arm.to) rs) c.as_slice.ensures
    ∙ sym (spans_of_more labels (take i arms) arm)
    ∙ ap (spans_of labels) (sym (take_more arms i arm c.loop-arm-test.true ∙ ap (λ (y : Arm). take i arms ++ y ∷ []) (sym c.arm-item.is)))
