use Rattle.std.proofs.Common.{◌≡◌, ◌<◌, ℕ, false, get_or, nat_eq, []}
use Rattle.std.specs.Cmp.Lexicographic.{pointwise}
use Rattle.cmm_lexer.specs.Spellings.{reserved}
use Rattle.cmm_lexer.proofs.keyword.Keyword.of_spelling.Given as goal

-- no keyword before this one has the spelling
abbrev pub invariant-loop-place : goal.invariant-loop-place
invariant-loop-place l = (k : ℕ) → k < l.place → pointwise nat_eq l.spelling (get_or reserved k []) ≡ false
