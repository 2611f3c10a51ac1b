use Rattle.std.proofs.Common.{◌≡◌, ◌≤◌, ◌+◌, drop, length}
use Rattle.cmm_lexer.specs.Characters.{after_comment}
use Rattle.cmm_lexer.proofs.piece.comment_piece.Given as goal

-- the comment ends where it ends from the rest on
abbrev pub invariant-loop-byte : goal.invariant-loop-byte
invariant-loop-byte l = (after_comment l.rest ≡ after_comment (drop 2 l.text)) × (length l.rest + 2 ≤ length l.text)

abbrev pub decreases-loop-byte : goal.decreases-loop-byte
decreases-loop-byte l = length l.rest
