use Rattle.std.proofs.Common.{◌≡◌, ◌≤◌, slice_get, Some, sym, arith}
use Rattle.cmm_image.specs.ImageFormat.{procedure_at}
use Rattle.cmm_image.specs.declared.rows.StackLabelRow.{StackLabelRow}
use Rattle.cmm_walk.proofs.Tables.{procedure_bounds, row_keeps}
use Rattle.cmm_walk.proofs.variable.stack_label.Goals as goal

pub overflow_add-result : goal.overflow_add-result
overflow_add-result c =
    let is : slice_get (procedure_at c.args.i.now.procs c.args.a.now.proc).stack_labels c.args.n ≡ Some c.in-Some.label.now =
    rw (← c.procedure_of.ensures.row) (sym c.in-Some.ensures.value) in
    let p = procedure_at c.args.i.now.procs c.args.a.now.proc in
    let inside = row_keeps (λ (l : StackLabelRow). l.offset ≤ p.frame) p.stack_labels (procedure_bounds c.args.i.now c.procedure_of.ensures.kept c.args.a.now.proc).labels c.args.n c.in-Some.label.now is in
    let room = c.requires.room in
    rw c.from.ensures (omega (arith, inside, room))
