use Rattle.std.proofs.Common.{◌≡◌, ◌+◌, ap, ◌∙◌, arith}
use Rattle.rv_memory.specs.Regions.{memory_of, region_of}
use Rattle.rv_table.specs.Machine.{loaded}
use Rattle.cmm_image.specs.declared.rows.ProcRow.{ProcRow}
use Rattle.cmm_image.specs.ImageFormat.{procedure_at}
use Rattle.cmm_image_machine.specs.Frames.{places_before, return_offset}
use Rattle.cmm_walk.specs.Activations.{element_of, places_of}
use Rattle.cmm_walk.proofs.Places.{behind}
use Rattle.cmm_walk.proofs.Points.{behind_fits, frame_lies, offset_fits, points_same}
use Rattle.cmm_walk.proofs.Tables.{activation_keeps, procedure_bounds}
use Rattle.cmm_walk.proofs.chain.point_after.Goals as goal

pub overflow_add-a : goal.overflow_add-a
overflow_add-a c =
    let keeps = activation_keeps c.args.i.now c.procedure_of-procedure.ensures.kept c.args.a.now c.requires.there in
    let fits = offset_fits (procedure_at c.args.i.now.procs c.args.a.now.proc).return_at (procedure_at c.args.i.now.procs c.args.a.now.proc).frame keeps.returns keeps.size in
    let room = c.requires.room in
    rw (c.return_offset.ensures, c.procedure_of-procedure.ensures.row) (omega (arith, fits, room))

pub word-requires-clause-high : goal.word-requires-clause-high
word-requires-clause-high c =
    let keeps = activation_keeps c.args.i.now c.procedure_of-procedure.ensures.kept c.args.a.now c.requires.there in
    let fits = offset_fits (procedure_at c.args.i.now.procs c.args.a.now.proc).return_at (procedure_at c.args.i.now.procs c.args.a.now.proc).frame keeps.returns keeps.size in
    let lies = frame_lies c.args.i.now (region_of c.args.m.now) c.args.a.now c.requires in
    let high = lies.1 in
    rw (c.return_offset.ensures, c.procedure_of-procedure.ensures.row) (omega (arith, fits, high))

pub saved_before-requires-clause-saved : goal.saved_before-requires-clause-saved
saved_before-requires-clause-saved c =
    let keeps = activation_keeps c.args.i.now c.procedure_of-procedure.ensures.kept c.args.a.now c.requires.there in
    rw c.procedure_of-procedure.ensures.row (λ k d short. let one = keeps.saved k d short in omega (arith, one))

pub returns-clause-point : goal.returns-clause-point
returns-clause-point c =
    let i = c.args.i.now in
    let a = c.args.a.now in
    let row = c.procedure_of-procedure.ensures.row in
    let places : places_of c.saved_before.result ≡ places_before (element_of i a) =
    behind i a c.procedure_of-procedure.result.now row (rw row (procedure_bounds i c.procedure_of-procedure.ensures.kept a.proc)) c.saved_before.result c.saved_before.ensures.each in
    points_same _ _ _ _ _ _
    (c.word.ensures ∙ ap (λ n. loaded (memory_of c.args.m.now) (a.frame + n) 8) (c.return_offset.ensures ∙ ap return_offset row))
    (ap (λ n. a.frame + n) (c.from.ensures ∙ ap (λ (p : ProcRow). p.frame) row))
    places

pub returns-clause-saved : goal.returns-clause-saved
returns-clause-saved c =
    let i = c.args.i.now in
    let a = c.args.a.now in
    let row = c.procedure_of-procedure.ensures.row in
    let places : places_of c.saved_before.result ≡ places_before (element_of i a) =
    behind i a c.procedure_of-procedure.result.now row (rw row (procedure_bounds i c.procedure_of-procedure.ensures.kept a.proc)) c.saved_before.result c.saved_before.ensures.each in
    behind_fits i (region_of c.args.m.now) a c.procedure_of-procedure.ensures.kept c.requires c.saved_before.result places
