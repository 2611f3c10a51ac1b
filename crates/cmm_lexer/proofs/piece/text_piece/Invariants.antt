use Rattle.std.proofs.Common.{◌≡◌, ◌≤◌, ◌+◌, drop, length}
use Rattle.cmm_lexer.specs.Characters.{quoted}
use Rattle.cmm_lexer.proofs.Quoting.{after_values}
use Rattle.cmm_lexer.proofs.piece.text_piece.Given as goal

-- the values so far and those of the rest are those of all
abbrev pub invariant-loop-byte : goal.invariant-loop-byte
invariant-loop-byte l = (after_values l.values (quoted 0 l.rest) ≡ quoted 0 (drop 1 l.text)) × (length l.rest + 1 ≤ length l.text)

abbrev pub decreases-loop-byte : goal.decreases-loop-byte
decreases-loop-byte l = length l.rest
