use Rattle.std.proofs.Common.{◌++◌, flat_map, ℕ, List, sym, ap, subst, ◌∙◌, append_assoc}
use Rattle.cmm_outside.specs.Output.{WritesAll}
use Rattle.cmm_image.specs.declared.rows.SiteRow.{SiteRow}
use Rattle.cmm_image.specs.declared.rows.SpanRow.{SpanRow}
use Rattle.cmm_script.specs.Walk.{variable_lines}
use Rattle.cmm_image_machine.specs.Walks.{element_shown}
use Rattle.cmm_walk.specs.Activations.{element_of}
use Rattle.rv_memory.specs.States.{state_of}
use Rattle.cmm_walk.specs.inside.Lines.{heading, spanned}
use Rattle.cmm_walk.proofs.VariableTexts.{pieces_are}
use Rattle.cmm_report.proofs.Shared.{writes_fails}
use Rattle.cmm_walk.proofs.Writes.{joined, written_ok, written_then}
use Rattle.cmm_walk.proofs.lines.put_activation.Goals as goal

pub returns-in_err-put_heading : goal.returns-in_err-put_heading
returns-in_err-put_heading g c =
    let s = state_of c.args.r.now c.args.m.now in
    let e = element_of c.args.i.now c.args.a.now in
    let head = heading c.args.number e in
    let spans = flat_map spanned e.site.spans in
    let vars = variable_lines 0 (element_shown s e).variables in
    subst (λ (t : List ℕ). WritesAll g.E.Sink.taken g.E.Sink.faults c.args.to.now c.put_heading.new.to t c.from_residual.result)
    (sym (append_assoc head spans vars) ∙ sym (pieces_are s c.args.number e))
    (writes_fails g.E.Sink.taken g.E.Sink.faults c.args.to.now c.put_heading.new.to head (spans ++ vars) _ c.put_heading.result c.from_residual.result c.in_err-put_heading.was c.from_residual.ensures.0 c.put_heading.ensures)

pub returns-in_err-put_spans : goal.returns-in_err-put_spans
returns-in_err-put_spans g c =
    let taken = g.E.Sink.taken in
    let faults = g.E.Sink.faults in
    let s = state_of c.args.r.now c.args.m.now in
    let e = element_of c.args.i.now c.args.a.now in
    let head = heading c.args.number e in
    let vars = variable_lines 0 (element_shown s e).variables in
    let is = c.as_slice.ensures ∙ ap (λ (t : SiteRow). t.spans) c.site_at.ensures.row in
    let first = written_ok taken faults c.args.to.now c.put_heading.new.to head c.put_heading.result _ c.in_ok-put_heading.was c.put_heading.ensures in
    let second = subst (λ (xs : List SpanRow). WritesAll taken faults c.put_heading.new.to c.put_spans.new.to (flat_map spanned xs) c.put_spans.result) is c.put_spans.ensures in
    subst (λ (t : List ℕ). WritesAll taken faults c.args.to.now c.put_spans.new.to t c.from_residual-in_err-put_spans.result)
    (sym (pieces_are s c.args.number e))
    (writes_fails taken faults c.args.to.now c.put_spans.new.to (head ++ flat_map spanned e.site.spans) vars _ c.put_spans.result c.from_residual-in_err-put_spans.result c.in_err-put_spans.was c.from_residual-in_err-put_spans.ensures.0
    (written_then taken faults c.args.to.now c.put_heading.new.to c.put_spans.new.to head (flat_map spanned e.site.spans) c.put_spans.result first second))

pub returns : goal.returns
returns g c =
    let taken = g.E.Sink.taken in
    let faults = g.E.Sink.faults in
    let s = state_of c.args.r.now c.args.m.now in
    let e = element_of c.args.i.now c.args.a.now in
    let head = heading c.args.number e in
    let spans = flat_map spanned e.site.spans in
    let vars = variable_lines 0 (element_shown s e).variables in
    let is = c.as_slice.ensures ∙ ap (λ (t : SiteRow). t.spans) c.site_at.ensures.row in
    let first = written_ok taken faults c.args.to.now c.put_heading.new.to head c.put_heading.result _ c.in_ok-put_heading.was c.put_heading.ensures in
    let second = written_ok taken faults c.put_heading.new.to c.put_spans.new.to spans c.put_spans.result _ c.in_ok-put_spans.was
    (subst (λ (xs : List SpanRow). WritesAll taken faults c.put_heading.new.to c.put_spans.new.to (flat_map spanned xs) c.put_spans.result) is c.put_spans.ensures) in
    subst (λ (t : List ℕ). WritesAll taken faults c.args.to.now c.put_variables.new.to t c.put_variables.result)
    (sym (pieces_are s c.args.number e))
    (written_then taken faults c.args.to.now c.put_spans.new.to c.put_variables.new.to (head ++ spans) vars c.put_variables.result
    (joined taken faults c.args.to.now c.put_heading.new.to c.put_spans.new.to head spans first second) c.put_variables.ensures)
