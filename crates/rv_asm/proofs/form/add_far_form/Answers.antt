use Rattle.std.proofs.Common.{true, ◌+◌}
use Rattle.rv_asm.proofs.Emitting.{code_then}
use Rattle.rv_asm.specs.inside.Forms.{far, number_of, past_unless, unfilled}
use Rattle.rv_asm.proofs.form.add_far_form.Goals as goal

pub returns-in_ok-add_far-in-Branch : goal.returns-in_ok-add_far-in-Branch
returns-in_ok-add_far-in-Branch c =
    let b = c.in-Branch in
    rw (b.is, c.in_ok-add_far-in-Branch.ensures, c.in_ok-add-in-Branch.ensures, c.past_unless.ensures, c.number.ensures.distance)
    (code_then c.args.bytes.now.items (past_unless b.compare b.left b.right) (far 6 0 (number_of c.args.labels.now c.args.places.now unfilled true b.to (c.args.from + 4))))
