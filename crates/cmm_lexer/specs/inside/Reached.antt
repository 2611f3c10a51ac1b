-- How far the tokens of a unit are read.
use Rattle.std.specs.Prelude.{◌≡◌, ℕ, true, ◌≤◌, List, ◌++◌, length, map, drop, nat_eq}
use Rattle.std.specs.List.{flat_map, IsDistinct}
use Rattle.std.specs.Cmp.Lexicographic.{pointwise}
use Rattle.cmm_lexer.specs.declared.tokens.Tokens.{Tokens}
use Rattle.cmm_lexer.specs.Places.{line_at, column_at}
use Rattle.cmm_lexer.specs.Pieces.{Placed, pieces_from}
use Rattle.cmm_lexer.specs.Lexing.{spelled, are_numbered, token_of, tokens_of, fault_of, faults_of}

-- the pieces from a place of a unit on, where one begins
abbrev pub pieces_at : List ℕ → ℕ → List Placed
pieces_at unit place = pieces_from unit 0 place (drop place unit)

-- the tokens before a place are read, and no rule is broken there
pub record Reached (unit : List ℕ) (place : ℕ) (ts : Tokens) : Type 0 where
  pub within : place ≤ length unit
  pub tokens : map (spelled ts.spellings.keys) ts.list ++ flat_map (token_of unit) (pieces_at unit place) ≡ tokens_of unit
  pub faults : flat_map fault_of (pieces_at unit place) ≡ faults_of unit
  pub numbered : are_numbered (length ts.spellings.keys) ts.list ≡ true
  pub distinct : IsDistinct (pointwise nat_eq) ts.spellings.keys
  pub few : length ts.spellings.keys ≤ place
  pub counted : length ts.list ≤ place
  pub line : ts.line ≡ line_at unit place
  pub column : ts.column ≡ column_at unit place
