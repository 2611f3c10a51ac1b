use Rattle.std.proofs.Common.{◌≡◌, false, take}
use Rattle.cmm_moves.specs.Moves.{is_source}
use Rattle.cmm_moves.proofs.waiting.reader_of.Given as goal

abbrev pub invariant-loop-index : goal.invariant-loop-index
invariant-loop-index l = is_source l.place (take l.index l.waiting) ≡ false
