use Rattle.std.proofs.Common.{List, length, subst}
use Rattle.cmm_effects.specs.Pieces.{Adds, Always}
use Rattle.cmm_moves.specs.declared.sequencing.Move.{Move}
use Rattle.cmm_calls.proofs.Moved.{moves_all}
use Rattle.cmm_calls.specs.inside.Moves.{MovesInOrder, PassesBy}
use Rattle.cmm_calls.proofs.moving.move_all.Goals as goal

pub returns-clause-moves : goal.returns-clause-moves
returns-clause-moves c =
    moves_all c.args.asm.now.parts c.move_each.new.asm.parts c.args.moves.now _ c.requires.untouched c.in_ok-done.ensures.values c.in_ok-done.ensures.few
    (subst (λ (ms : List Move). Adds (length ms) c.args.asm.now.parts c.move_each.new.asm.parts (PassesBy (length ms) (length ms) Always (MovesInOrder ms))) c.as_slice.ensures c.in_ok-move_each.ensures.moves)
