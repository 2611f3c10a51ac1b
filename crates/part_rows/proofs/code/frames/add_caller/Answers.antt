use Rattle.std.proofs.Common.{◌≡◌, [], length, refl, arith}
use Rattle.cmm_calls.specs.Frames.{entry_cost}
use Rattle.part_rows.proofs.Fitting.{passed_operands, placed_few}
use Rattle.part_rows.proofs.code.frames.add_caller.Goals as goal

pub call-requires-clause-operands : goal.call-requires-clause-operands
call-requires-clause-operands c = rw (c.requires.frame, c.passed.ensures) refl

pub call-requires-clause-labels : goal.call-requires-clause-labels
call-requires-clause-labels c = rw c.passed.ensures (passed_operands _)

pub take-requires-clause-places : goal.take-requires-clause-places
take-requires-clause-places c = rw c.requires.frame refl

pub take-requires-2-clause-places : goal.take-requires-2-clause-places
take-requires-2-clause-places c = rw c.requires.frame refl

pub returns-clause-few : goal.returns-clause-few
returns-clause-few c =
    let cost : entry_cost c.args.frame.now [] ≡ 20 = rw c.requires.frame refl in
    let count : length c.passed.result ≡ 12 = rw c.passed.ensures refl in
    omega (
      arith,
      cost,
      count,
      c.in_ok-enter.ensures.enters.few,
      c.in_ok-call.ensures.calls.few,
      c.in_ok-lay_exits.ensures.exits.few,
      c.in_ok-take.ensures.takes.few,
      c.in_ok-end.ensures.few,
      placed_few _ _ _ c.place.ensures.parts,
      c.in_ok-take-2.ensures.takes.few,
      c.in_ok-end-2.ensures.few,
    )
