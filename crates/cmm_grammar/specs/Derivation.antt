-- Which tokens a unit derives, and what the limits on nesting say of them (C-- Language Specification 2.0, syntax).
use Rattle.std.specs.Prelude.{◌≡◌, ℕ, suc, ◌<◌, ◌≤◌, List, [], ◌++◌, length, take, Some, None}
use Rattle.cmm_lexer.specs.declared.piece.Lexeme.{Lexeme}
use Rattle.cmm_ast.specs.declared.unit.Unit.{Unit as UnitTree}
use Rattle.cmm_grammar.specs.Taking.{Reading}
use Rattle.cmm_grammar.specs.UnitGrammar.{unit}

-- before the first token
abbrev pub at_start : List Lexeme → Reading
at_start tokens = record { left = tokens; taken = 0; open_brackets = 0; operators = 0; over = None }

-- a unit derives these tokens, limits left aside: it takes them all
pub record Derives (tokens : List Lexeme) (u : UnitTree) : Type 0 where
  pub after : Reading
  pub takes : unit u (at_start tokens) ≡ Some after
  pub all : after.left ≡ []

-- and no token passes a limit
pub record DerivesWithin (tokens : List Lexeme) (u : UnitTree) : Type 0 where
  pub derives : Derives tokens u
  pub within : derives.after.over ≡ None

-- some unit begins with these tokens
abbrev pub Begins : List Lexeme → Type 0
Begins tokens = (u : UnitTree) × (more : List Lexeme) × Derives (tokens ++ more) u

-- some unit begins with the tokens up to and including one of these, which is the first to pass a limit
pub record IsTooDeep (tokens : List Lexeme) (token : ℕ) : Type 0 where
  pub inside : token < length tokens
  pub tree : UnitTree
  pub more : List Lexeme
  pub derives : Derives (take (suc token) tokens ++ more) tree
  pub over : derives.after.over ≡ Some token

-- some unit begins with the tokens before this one, and none with those up to and including it; past the last, the tokens are no whole
-- unit; and none of them passes a limit
pub record IsUnexpected (tokens : List Lexeme) (token : ℕ) : Type 0 where
  pub inside : token ≤ length tokens
  pub begins : Begins (take token tokens)
  pub refused : token < length tokens → Begins (take (suc token) tokens) → ⊥
  pub past : token ≡ length tokens → (u : UnitTree) → Derives tokens u → ⊥
  pub shallow : (other : ℕ) → IsTooDeep tokens other → ⊥
