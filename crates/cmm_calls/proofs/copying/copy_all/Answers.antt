use Rattle.std.proofs.Common.{◌∙◌, ◌*◌, List, length, subst, sym}
use Rattle.cmm_moves.specs.declared.sequencing.Move.{Move}
use Rattle.cmm_effects.specs.Pieces.{Adds, Always}
use Rattle.cmm_calls.proofs.Arrived.{copied_filled, copied_nothing, copy_moves_apart, copy_moves_clear, some_left}
use Rattle.cmm_calls.proofs.Tests.{alike}
use Rattle.cmm_calls.specs.inside.Giving.{one_if}
use Rattle.cmm_calls.specs.inside.Moves.{MovesAtOnce, PassesBy, begins_moving}
use Rattle.cmm_calls.proofs.copying.copy_all.Goals as goal

pub returns-then-is_empty-clause-copies : goal.returns-then-is_empty-clause-copies
returns-then-is_empty-clause-copies c = copied_nothing c.args.asm.now.parts c.args.frame.now c.args.to.now (alike _ 0 (sym c.is_empty.ensures ∙ c.if-is_empty.true))

pub move_all-requires-clause-apart : goal.move_all-requires-clause-apart
move_all-requires-clause-apart c = rw (c.as_slice.ensures, c.in_ok-moves.ensures) (copy_moves_apart 0 c.args.to.now)

pub move_all-requires-clause-untouched : goal.move_all-requires-clause-untouched
move_all-requires-clause-untouched c = rw (c.as_slice.ensures, c.in_ok-moves.ensures) (copy_moves_clear c.args.frame.now 0 c.args.to.now c.requires.destinations).0

pub move_all-requires-clause-unread : goal.move_all-requires-clause-unread
move_all-requires-clause-unread c = rw (c.as_slice.ensures, c.in_ok-moves.ensures) (copy_moves_clear c.args.frame.now 0 c.args.to.now c.requires.destinations).1

pub move_all-requires-clause-inside : goal.move_all-requires-clause-inside
move_all-requires-clause-inside c = rw (c.as_slice.ensures, c.in_ok-moves.ensures) (copy_moves_clear c.args.frame.now 0 c.args.to.now c.requires.destinations).2

pub returns-clause-copies : goal.returns-clause-copies
returns-clause-copies c =
    let same = c.as_slice.ensures ∙ c.in_ok-moves.ensures in
    copied_filled c.args.asm.now.parts c.store_each.new.asm.parts c.move_all.new.asm.parts _ c.args.frame.now c.args.to.now (some_left _ (sym c.is_empty.ensures ∙ c.if-is_empty.false)) c.requires.few c.requires.destinations c.in_ok-store_each.ensures.copies
    (subst (λ (ms : List Move). Adds (2 * length ms) c.store_each.new.asm.parts c.move_all.new.asm.parts (PassesBy (one_if (begins_moving ms)) (2 * length ms) Always (MovesAtOnce ms))) same c.in_ok-move_all.ensures.moves)
    c.in_ok-load_each.ensures.copies
