use Rattle.std.proofs.Common.{arith}
use Rattle.part_rows.proofs.Fitting.{placed_few, shifts_few}
use Rattle.part_rows.proofs.code.nodes.add_branch.Goals as goal

pub returns : goal.returns
returns c =
    let short = c.code_is_short.ensures in
    omega (
      arith,
      short.operand c.args.left.now,
      short.operand c.args.right.now,
      shifts_few c.args.width,
      c.in_ok-decide.ensures.decides.few,
      c.in_ok-assign_copy.ensures.copies.few,
      c.in_ok-go_to.ensures.turns.few,
      placed_few _ _ _ c.place.ensures.parts,
      c.in_ok-assign_copy-2.ensures.copies.few,
      placed_few _ _ _ c.place-2.ensures.parts,
    )
