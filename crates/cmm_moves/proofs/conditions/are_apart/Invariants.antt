use Rattle.std.proofs.Common.{◌≡◌, length}
use Rattle.cmm_moves.specs.Moves.{are_apart}
use Rattle.cmm_moves.proofs.conditions.are_apart.Given as goal

abbrev pub invariant-loop-rest : goal.invariant-loop-rest
invariant-loop-rest l = are_apart l.rest ≡ are_apart l.moves

abbrev pub decreases-loop-rest : goal.decreases-loop-rest
decreases-loop-rest l = length l.rest
