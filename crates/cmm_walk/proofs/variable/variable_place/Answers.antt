use Rattle.std.proofs.Common.{◌≡◌, slice_get, Some, option_copied, sym, ap, subst, ◌∙◌, arith}
use Rattle.cmm_image.specs.declared.rows.VariablePlace.TheVariants.{Slot, Register}
use Rattle.cmm_image.specs.ImageFormat.{procedure_at}
use Rattle.cmm_image_machine.specs.Laws.{IsInStack}
use Rattle.cmm_image.specs.Sites.{site_numbered}
use Rattle.cmm_walk.proofs.Points.{frame_lies}
use Rattle.cmm_walk.proofs.Tables.{activation_keeps}
use Rattle.cmm_walk.proofs.Variables.{place_at, slot_fits}
use Rattle.cmm_walk.proofs.variable.variable_place.Goals as goal

pub overflow_add-result : goal.overflow_add-result
overflow_add-result c =
    let keeps = activation_keeps c.args.i.now c.site_at.ensures.kept c.args.a.now c.requires.there in
    let is : slice_get (site_numbered c.args.i.now.sites c.args.a.now.site).variables c.args.n ≡ Some (Slot c.in-Some-Slot.offset) =
    rw (← c.site_at.ensures.row) (sym c.get.ensures.value ∙ ap option_copied c.in-Some-Slot.is ∙ ap Some c.in-Some-Slot.field-0-is) in
    let inside = slot_fits (procedure_at c.args.i.now.procs c.args.a.now.proc).frame c.in-Some-Slot.offset (place_at _ _ _ _ keeps.places is) in
    let room = c.requires.room in
    rw c.from.ensures (omega (arith, inside, room))

pub kept-requires : goal.kept-requires
kept-requires c =
    let keeps = activation_keeps c.args.i.now c.site_at.ensures.kept c.args.a.now c.requires.there in
    let is : slice_get (site_numbered c.args.i.now.sites c.args.a.now.site).variables c.args.n ≡ Some (Register c.in-Some-Register.register) =
    rw (← c.site_at.ensures.row) (sym c.get.ensures.value ∙ ap option_copied c.in-Some-Register.is ∙ ap Some c.in-Some-Register.field-0-is) in
    place_at (procedure_at c.args.i.now.procs c.args.a.now.proc).frame c.args.n _ _ keeps.places is

pub returns-in-Some-Slot-clause-fits : goal.returns-in-Some-Slot-clause-fits
returns-in-Some-Slot-clause-fits c r fits =
    let keeps = activation_keeps c.args.i.now c.site_at.ensures.kept c.args.a.now c.requires.there in
    let is : slice_get (site_numbered c.args.i.now.sites c.args.a.now.site).variables c.args.n ≡ Some (Slot c.in-Some-Slot.offset) =
    rw (← c.site_at.ensures.row) (sym c.get.ensures.value ∙ ap option_copied c.in-Some-Slot.is ∙ ap Some c.in-Some-Slot.field-0-is) in
    let inside = slot_fits (procedure_at c.args.i.now.procs c.args.a.now.proc).frame c.in-Some-Slot.offset (place_at _ _ _ _ keeps.places is) in
    let lies = frame_lies c.args.i.now r c.args.a.now fits in
    let low = lies.0 in
    let high = lies.1 in
    rw c.from.ensures (omega (arith, low), omega (arith, inside, high))

pub returns-in-Some-Register-clause-fits : goal.returns-in-Some-Register-clause-fits
returns-in-Some-Register-clause-fits c r fits =
    let keeps = activation_keeps c.args.i.now c.site_at.ensures.kept c.args.a.now c.requires.there in
    let is : slice_get (site_numbered c.args.i.now.sites c.args.a.now.site).variables c.args.n ≡ Some (Register c.in-Some-Register.register) =
    rw (← c.site_at.ensures.row) (sym c.get.ensures.value ∙ ap option_copied c.in-Some-Register.is ∙ ap Some c.in-Some-Register.field-0-is) in
    subst (IsInStack r) (sym c.kept.ensures) (fits.places c.in-Some-Register.register (place_at (procedure_at c.args.i.now.procs c.args.a.now.proc).frame c.args.n _ _ keeps.places is))
