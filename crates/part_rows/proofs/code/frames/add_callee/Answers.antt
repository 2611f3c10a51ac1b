use Rattle.std.proofs.Common.{◌≡◌, length, refl, arith}
use Rattle.part_rows.proofs.Fitting.{callee_made, formals_are, placed_few, returned_are, returned_operands, zeroed_is}
use Rattle.part_rows.proofs.code.frames.add_callee.Goals as goal

pub begin-requires-clause-zeroed : goal.begin-requires-clause-zeroed
begin-requires-clause-zeroed c = rw (c.requires.frame, c.slot.ensures) (zeroed_is c.args.layout)

pub begin-requires-clause-formals : goal.begin-requires-clause-formals
begin-requires-clause-formals c = rw (c.requires.frame, c.formals.ensures) (formals_are c.args.layout)

pub return_values-requires-clause-frame : goal.return_values-requires-clause-frame
return_values-requires-clause-frame c = rw c.requires.frame (callee_made c.args.layout)

pub return_values-requires-clause-operands : goal.return_values-requires-clause-operands
return_values-requires-clause-operands c = rw (c.requires.frame, c.returned.ensures) (returned_are c.args.layout)

pub return_values-requires-clause-labels : goal.return_values-requires-clause-labels
return_values-requires-clause-labels c = rw c.returned.ensures (returned_operands c.args.layout _)

pub returns : goal.returns
returns c =
    let saved : length c.args.frame.now.saved ≡ 2 = rw c.requires.frame refl in
    let pairs : length c.args.frame.now.pairs ≡ 1 = rw c.requires.frame refl in
    let taken : length c.formals.result ≡ 12 = rw c.formals.ensures refl in
    let given : length c.returned.result ≡ 15 = rw c.returned.ensures refl in
    omega (
      arith,
      saved,
      pairs,
      taken,
      given,
      placed_few _ _ _ c.place.ensures.parts,
      c.in_ok-begin.ensures.begins.few,
      c.in_ok-return_values.ensures.returns.few,
      placed_few _ _ _ c.place-2.ensures.parts,
      c.in_ok-end.ensures.few,
    )
