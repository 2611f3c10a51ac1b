use Rattle.std.proofs.Common.{◌∙◌, ◌*◌, List, length, subst}
use Rattle.cmm_moves.specs.declared.sequencing.Move.{Move}
use Rattle.cmm_effects.specs.Pieces.{Adds, Always}
use Rattle.cmm_calls.proofs.Homes.{given_all, moves_apart, moves_inside, moves_unread, moves_untouched}
use Rattle.cmm_calls.specs.inside.Giving.{one_if}
use Rattle.cmm_calls.specs.inside.Moves.{MovesAtOnce, PassesBy, begins_moving}
use Rattle.cmm_calls.proofs.giving.give.Goals as goal

pub move_all-requires-clause-apart : goal.move_all-requires-clause-apart
move_all-requires-clause-apart c = rw (c.as_slice.ensures, c.in_ok-moves.ensures) (moves_apart 0 c.args.values.now)

pub move_all-requires-clause-untouched : goal.move_all-requires-clause-untouched
move_all-requires-clause-untouched c = rw (c.as_slice.ensures, c.in_ok-moves.ensures) (moves_untouched c.args.values.now)

pub move_all-requires-clause-unread : goal.move_all-requires-clause-unread
move_all-requires-clause-unread c = rw (c.as_slice.ensures, c.in_ok-moves.ensures) (moves_unread c.args.frame.now 0 c.args.values.now c.requires.operands)

pub move_all-requires-clause-inside : goal.move_all-requires-clause-inside
move_all-requires-clause-inside c = rw (c.as_slice.ensures, c.in_ok-moves.ensures) (moves_inside c.args.frame.now 0 c.args.values.now c.requires.operands)

pub returns-clause-gives : goal.returns-clause-gives
returns-clause-gives c =
    let same = c.as_slice.ensures ∙ c.in_ok-moves.ensures in
    given_all c.args.asm.now.parts c.give_each.new.asm.parts c.move_all.new.asm.parts _ c.args.frame.now c.args.values.now c.requires.few c.requires.operands c.in_ok-give_each.ensures.gives
    (subst (λ (ms : List Move). Adds (2 * length ms) c.give_each.new.asm.parts c.move_all.new.asm.parts (PassesBy (one_if (begins_moving ms)) (2 * length ms) Always (MovesAtOnce ms))) same c.in_ok-move_all.ensures.moves)
    c.in_ok-give_each-2.ensures.gives
