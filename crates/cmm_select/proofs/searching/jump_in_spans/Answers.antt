use Rattle.std.proofs.Common.{◌≡◌, ◌-◌, ◌*◌, length, map, List, subst, sym, ◌∙◌, arith}
use Rattle.std.specs.List.{All}
use Rattle.std.proofs.lemmas.List.{length-map}
use Rattle.rv_asm.specs.Assembly.{IsInner}
use Rattle.rv_asm.specs.declared.part.Label.{Label}
use Rattle.cmm_effects.proofs.Shared.{adds_weaker, by_last}
use Rattle.cmm_effects.specs.Pieces.{Adds}
use Rattle.cmm_select.proofs.Halving.{goes_by_run}
use Rattle.cmm_select.proofs.Spans.{all_labels}
use Rattle.cmm_select.specs.inside.NumberRuns.{GoesInRun}
use Rattle.cmm_select.specs.declared.span.Span.{Span}
use Rattle.cmm_select.proofs.searching.jump_in_spans.Goals as goal

pub jump_by_table-requires-clause-inner : goal.jump_by_table-requires-clause-inner
jump_by_table-requires-clause-inner c =
    let ss = c.args.spans.now in
    let labels = c.args.asm.now.labels in
    let whole : c.deref.result.now ≡ map (λ (s : Span). s.label) ss = c.deref.ensures.value ∙ c.in_ok-labels.ensures in
    subst (λ (ls : List Label). All (IsInner labels) ls) (sym whole) (all_labels (IsInner labels) ss c.requires.inner)

pub returns-clause-goes : goal.returns-clause-goes
returns-clause-goes c =
    by_last c.jump_by_table.result c.jump_by_table.ensures.goes
    (λ h.
    let ss = c.args.spans.now in
    let end = c.args.end in
    let whole : c.deref.result.now ≡ map (λ (s : Span). s.label) ss = c.deref.ensures.value ∙ c.in_ok-labels.ensures in
    let count : length (map (λ (s : Span). s.label) ss) ≡ length ss = length-map ss (λ s. s.label) in
    let goes : Adds (20 * length (map (λ (s : Span). s.label) ss)) c.args.asm.now.parts c.jump_by_table.new.asm.parts
    (GoesInRun 20 (map (λ (s : Span). s.label) ss) (end - length (map (λ (s : Span). s.label) ss))) =
    rw whole at h in
    adds_weaker goes (omega (arith, count)) (λ x from on does. goes_by_run x 20 end ss from on c.requires.apart c.requires.some c.requires.behind c.requires.run does))
