-- How a reader stands to the trees of the grammar: on points, and on all of some tokens.
use Rattle.std.specs.Prelude.{◌≡◌, ℕ, ◌<◌, true, List, [], length, Some, None}
use Rattle.cmm_lexer.specs.declared.piece.Lexeme.{Lexeme}
use Rattle.cmm_grammar.specs.Taking.{Reading, Takes}
use Rattle.cmm_grammar.specs.Derivation.{at_start}
use Rattle.cmm_grammar.specs.Reading.{Point, Answer, Reads}

-- a reader keeps nothing of tokens over a limit: it stops there
abbrev pub within : Point → Reading
within p = record { left = p.left; taken = p.taken; open_brackets = p.open_brackets; operators = p.operators; over = None }

abbrev pub point : Reading → Point
point r = record { left = r.left; taken = r.taken; open_brackets = r.open_brackets; operators = r.operators }

-- these are all of the tokens that a tree takes, limits left aside
pub record TakesAll (takes : Takes) (tokens : List Lexeme) : Type 0 where
  pub after : Reading
  pub taken : takes (at_start tokens) ≡ Some after
  pub all : after.left ≡ []

-- the answer on these tokens, whatever number of tokens above theirs is allowed for
abbrev pub Answers : {A : Type 0} → (ℕ → Reads A) → List Lexeme → Answer A → Type 0
Answers reads tokens answer = (fuel : ℕ) → length tokens < fuel → reads fuel true (point (at_start tokens)) ≡ answer
