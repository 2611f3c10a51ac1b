use Rattle.std.proofs.Common.{◌≡◌, ◌≤◌, ◌+◌, length}
use Rattle.cmm_lexer.specs.Spellings.{name_len}
use Rattle.cmm_lexer.proofs.spelling.name_len.Given as goal

-- the bytes read so far go on the name, and the rest has those that are left
abbrev pub invariant-loop-byte : goal.invariant-loop-byte
invariant-loop-byte l = (name_len l.rest + length l.text ≡ name_len l.text + length l.rest) × (length l.rest ≤ length l.text)

abbrev pub decreases-loop-byte : goal.decreases-loop-byte
decreases-loop-byte l = length l.rest
