use Rattle.std.proofs.Common.{◌≡◌, ◌≤◌, ℕ, None, length, ap, ◌∙◌, subst, sym}
use Rattle.cmm_program.specs.Bodies.{AtLabel}
use Rattle.cmm_flow.specs.inside.Fronts.{IsNew}
use Rattle.cmm_flow.specs.Relation.{AreAll}
use Rattle.cmm_flow.specs.inside.LayingBlocks.{LaysBlock, has_labels_below}
use Rattle.cmm_flow.specs.inside.Marks.{after_list}
use Rattle.cmm_flow.proofs.Laying.{if_ok}
use Rattle.cmm_flow.proofs.Whole.{is_answered}
use Rattle.cmm_flow.proofs.procedure.flow.Goals as goal

pub returns : goal.returns
returns c =
    let p = c.args.p.now in
    let labels = c.in_ok-labels.labels in
    let builder = c.in_ok-builder.builder in
    let next = c.in_ok-next.next in
    let many : c.in_ok-as_number.field-0 ≡ length p.conts = c.in_ok-as_number.ensures ∙ c.len.ensures in
    let new : IsNew labels (length p.conts) builder = subst (λ n. IsNew labels n builder) many c.in_ok-builder.ensures in
    let lacked : (l : ℕ) → labels ≤ l → after_list (AtLabel l) p.body ≡ None =
    λ l more. ap (after_list (AtLabel l)) (sym c.as_slice.ensures) ∙ c.in_ok-labels.ensures.lacks l more in
    let few : (limit : ℕ) → AreAll (has_labels_below limit) p.body → labels ≤ limit =
    λ limit all. c.in_ok-labels.ensures.least limit (subst (AreAll (has_labels_below limit)) (sym c.as_slice.ensures) all) in
    let laid : LaysBlock builder c.block.new.self p p.body next builder.stop =
    subst (λ xs. LaysBlock builder c.block.new.self p xs next builder.stop) c.as_slice-2.ensures c.in_ok-next.ensures in
    if_ok c.finish.result
    (λ g finished. is_answered p labels builder c.block.new.self c.push.new.self g c.in_ok-formals.formals next c.in_ok-first.first new lacked few laid
    c.in_ok-first.ensures finished c.in_ok-formals.ensures)
    c.finish.ensures
