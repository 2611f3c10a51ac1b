-- What the grammar of units promises: tokens have no two units, and no two of a unit within the limits, a token that no unit goes on with
-- and a token that is the first to pass a limit in some unit; and the reader of units answers which they have.
use Rattle.std.specs.Prelude.{◌≡◌, ℕ, List, true}
use Rattle.cmm_lexer.specs.declared.piece.Lexeme.{Lexeme}
use Rattle.cmm_ast.specs.declared.unit.Unit.{Unit as UnitTree}
use Rattle.cmm_ast.specs.declared.unit.TopLevel.{TopLevel}
use Rattle.cmm_grammar.specs.Derivation.{at_start, Derives, DerivesWithin, IsUnexpected, IsTooDeep}
use Rattle.cmm_grammar.specs.Reading.{Point, Unexpected, TooDeep, Answer, Read, Stopped, Reads}
use Rattle.cmm_grammar.specs.ReadingLaws.{point, Answers}
use Rattle.cmm_grammar.specs.StatementReading.{block}
use Rattle.cmm_grammar.specs.UnitReading.{parts}

-- how the parts of a unit are read, and the blocks in them
abbrev pub whole_unit : ℕ → Reads (List TopLevel)
whole_unit fuel = parts fuel block

-- no tokens have two units, where the tokens stand left aside
abbrev pub OneUnit : Type 0
OneUnit = (tokens : List Lexeme) (u v : UnitTree) → Derives tokens u → Derives tokens v → u.parts ≡ v.parts

-- what is refused, one of the tokens or their end, is where no unit goes on
abbrev pub WhatIsRefusedIsUnexpected : Type 0
WhatIsRefusedIsUnexpected =
    (tokens : List Lexeme) (token : ℕ) → Answers whole_unit tokens (Stopped Unexpected token) → IsUnexpected tokens token

-- and what is over a limit is the first token that is so in some unit
abbrev pub WhatIsOverIsTooDeep : Type 0
WhatIsOverIsTooDeep = (tokens : List Lexeme) (token : ℕ) → Answers whole_unit tokens (Stopped TooDeep token) → IsTooDeep tokens token

-- such a token stops the reader, if it has an answer
abbrev pub EachThatIsTooDeepIsStopped : Type 0
EachThatIsTooDeepIsStopped =
    (tokens : List Lexeme) (token : ℕ) → IsTooDeep tokens token → (answer : Answer (List TopLevel)) → Answers whole_unit tokens answer →
    answer ≡ Stopped TooDeep token

-- no tokens are a unit within the limits and have an unexpected token or one that is too deep, or have two such tokens
pub record OneAnswer (tokens : List Lexeme) : Type 0 where
  pub expected : (u : UnitTree) → DerivesWithin tokens u → (token : ℕ) → IsUnexpected tokens token → ⊥
  pub shallow : (u : UnitTree) → DerivesWithin tokens u → (token : ℕ) → IsTooDeep tokens token → ⊥
  pub one_unexpected : (token other : ℕ) → IsUnexpected tokens token → IsUnexpected tokens other → token ≡ other
  pub one_too_deep : (token other : ℕ) → IsTooDeep tokens token → IsTooDeep tokens other → token ≡ other
  pub not_both : (token other : ℕ) → IsUnexpected tokens token → IsTooDeep tokens other → ⊥

abbrev pub EachHasOneAnswer : Type 0
EachHasOneAnswer = (tokens : List Lexeme) → OneAnswer tokens

-- a unit within the limits is read
abbrev pub EachUnitIsRead : Type 0
EachUnitIsRead =
    (tokens : List Lexeme) (u : UnitTree) (is : DerivesWithin tokens u) → Answers whole_unit tokens (Read u.parts (point is.derives.after))

-- and what is read is a unit within the limits, of all of the tokens
abbrev pub WhatIsReadIsAUnit : Type 0
WhatIsReadIsAUnit =
    (fuel : ℕ) (tokens : List Lexeme) (u : UnitTree) (after : Point) → whole_unit fuel true (point (at_start tokens)) ≡ Read u.parts after →
    DerivesWithin tokens u
