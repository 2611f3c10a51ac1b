use Rattle.std.proofs.Common.{◌≡◌, take}
use Rattle.cmm_effects.specs.Pieces.{Adds, Always}
use Rattle.cmm_calls.specs.inside.Moves.{MovesInOrder, PassesBy}
use Rattle.cmm_calls.proofs.moving.move_each.Given as goal

-- the moves so far are done
abbrev pub invariant-loop-one : goal.invariant-loop-one
invariant-loop-one l = record {
  moves : Adds l.one-index l.fn.asm.parts l.asm.parts (PassesBy l.one-index l.one-index Always (MovesInOrder (take l.one-index l.moves)));
  labels : l.asm.labels ≡ l.fn.asm.labels;
}
