-- The tokens of a unit, with their places and spellings, and its first fault (C-- Language Specification 2.0, lexical form).
use Rattle.std.specs.Prelude.{◌≡◌, ◌≤◌, ◌≢◌, ℕ, Bool, true, ◌+◌, nat_lt, if◌then◌else◌, List, [], ◌∷◌, length, map, slice_get, slice_index_or, Option, Some, None}
use Rattle.std.specs.List.{AllPairs, flat_map, list_all}
use Rattle.cmm_lexer.specs.declared.piece.Lexeme.{Lexeme}
use Rattle.cmm_lexer.specs.declared.piece.Lexeme.TheVariants as lexeme
use Rattle.cmm_lexer.specs.declared.piece.Part.{Part}
use Rattle.cmm_lexer.specs.declared.piece.Part.TheVariants.{Skipped, Lexed, Broken}
use Rattle.cmm_rules.specs.declared.rule.Rule.{Rule}
use Rattle.cmm_rules.specs.declared.rule.Rule.TheVariants.{UnitTooLong}
use Rattle.cmm_lexer.specs.declared.token.Token.{Token}
use Rattle.cmm_lexer.specs.declared.token.TokenKind.{TokenKind}
use Rattle.cmm_lexer.specs.declared.token.TokenKind.TheVariants as kind
use Rattle.cmm_lexer.specs.declared.tokens.Tokens.{Tokens}
use Rattle.cmm_lexer.specs.declared.tokens.LexFault.{LexFault}
use Rattle.cmm_lexer.specs.declared.tokens.LexFault.TheVariants.{At, Memory}
use Rattle.cmm_lexer.specs.declared.tokens.TheConstants.{UNIT_LIMIT}
use Rattle.cmm_lexer.specs.Places.{line_at, column_at}
use Rattle.cmm_lexer.specs.Pieces.{Placed, pieces_of}

-- a token with its spelling and its place
pub record Spelled : Type 0 where
  pub lexeme : Lexeme
  pub start : ℕ
  pub past : ℕ
  pub line : ℕ
  pub column : ℕ

-- the token that a part of a text is, where it is one
abbrev pub token_in : Part → ℕ → ℕ → ℕ → ℕ → List Spelled
token_in Skipped start past line column = []
token_in (Lexed x) start past line column = record { lexeme = x; start = start; past = past; line = line; column = column } ∷ []
token_in (Broken r) start past line column = []

abbrev pub token_of : List ℕ → Placed → List Spelled
token_of unit p = token_in p.piece.part p.start (p.start + p.piece.len) (line_at unit p.start) (column_at unit p.start)

-- the tokens of a unit
abbrev pub tokens_of : List ℕ → List Spelled
tokens_of unit = flat_map (token_of unit) (pieces_of unit)

-- a rule that is broken, and where
pub record Fault : Type 0 where
  pub rule : Rule
  pub start : ℕ

abbrev pub fault_in : Part → ℕ → List Fault
fault_in Skipped start = []
fault_in (Lexed x) start = []
fault_in (Broken r) start = record { rule = r; start = start } ∷ []

abbrev pub fault_of : Placed → List Fault
fault_of p = fault_in p.piece.part p.start

abbrev pub faults_of : List ℕ → List Fault
faults_of unit = flat_map fault_of (pieces_of unit)

-- the fault that a unit is refused for: its length comes first
abbrev pub first_fault : List ℕ → Option Fault
first_fault unit = if nat_lt UNIT_LIMIT (length unit) then Some (record { rule = UnitTooLong; start = 0 }) else slice_get (faults_of unit) 0

-- the first fault of a unit is this one
abbrev pub IsFirstFault : List ℕ → LexFault → Type 0
IsFirstFault unit Memory = Unit {0}
IsFirstFault unit (At r l c) = (start : ℕ) × (first_fault unit ≡ Some (record { rule = r; start = start })) × (l ≡ line_at unit start) × (c ≡ column_at unit start)

-- a token's kind, with its spelling in place of its number
abbrev pub lexeme_of : List (List ℕ) → TokenKind → Lexeme
lexeme_of spellings (kind.Name n) = lexeme.Name (slice_index_or spellings n [])
lexeme_of spellings (kind.Int n) = lexeme.Int n
lexeme_of spellings (kind.Char b) = lexeme.Char b
lexeme_of spellings (kind.Text n) = lexeme.Text (slice_index_or spellings n [])
lexeme_of spellings (kind.Op n) = lexeme.Op (slice_index_or spellings n [])
lexeme_of spellings (kind.Checked n) = lexeme.Checked (slice_index_or spellings n [])
lexeme_of spellings (kind.Word n) = lexeme.Word n
lexeme_of spellings (kind.Symbol n) = lexeme.Symbol n

abbrev pub spelled : List (List ℕ) → Token → Spelled
spelled spellings t = record { lexeme = lexeme_of spellings t.kind; start = t.start; past = t.«end»; line = t.line; column = t.column }

-- a token's number is below a count of spellings
abbrev pub is_numbered : ℕ → TokenKind → Bool
is_numbered count (kind.Name n) = nat_lt n count
is_numbered count (kind.Int n) = true
is_numbered count (kind.Char b) = true
is_numbered count (kind.Text n) = nat_lt n count
is_numbered count (kind.Op n) = nat_lt n count
is_numbered count (kind.Checked n) = nat_lt n count
is_numbered count (kind.Word n) = true
is_numbered count (kind.Symbol n) = true

abbrev pub are_numbered : ℕ → List Token → Bool
are_numbered count ts = list_all (λ t. is_numbered count t.kind) ts

-- a unit breaks no rule, and these are its tokens: each number has a spelling, and no two have the same
pub record Lexes (unit : List ℕ) (ts : Tokens) : Type 0 where
  pub unbroken : first_fault unit ≡ None
  pub tokens : map (spelled ts.spellings.keys) ts.list ≡ tokens_of unit
  pub numbered : are_numbered (length ts.spellings.keys) ts.list ≡ true
  pub distinct : AllPairs (λ xs ys. xs ≢ ys) ts.spellings.keys
  -- there are no more tokens than bytes
  pub few : length ts.list ≤ length unit
  pub line : ts.line ≡ line_at unit (length unit)
  pub column : ts.column ≡ column_at unit (length unit)
