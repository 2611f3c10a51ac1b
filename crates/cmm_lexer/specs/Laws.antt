-- What holds of the tokens of any unit.
use Rattle.std.specs.Prelude.{ℕ, ◌<◌, All, List}
use Rattle.cmm_lexer.specs.declared.piece.Lexeme.{Lexeme}
use Rattle.cmm_lexer.specs.declared.piece.Lexeme.TheVariants.{Name, Int, Char, Text, Op, Checked, Word, Symbol}
use Rattle.cmm_lexer.specs.Lexing.{tokens_of}

abbrev pub AreBytes : List ℕ → Type 0
AreBytes xs = All (λ b. b < 256) xs

-- what a lexeme is spelled with, or stands for, is bytes
abbrev pub IsOfBytes : Lexeme → Type 0
IsOfBytes (Name bytes) = AreBytes bytes
IsOfBytes (Int n) = Unit {0}
IsOfBytes (Char byte) = byte < 256
IsOfBytes (Text bytes) = AreBytes bytes
IsOfBytes (Op bytes) = AreBytes bytes
IsOfBytes (Checked bytes) = AreBytes bytes
IsOfBytes (Word n) = Unit {0}
IsOfBytes (Symbol n) = Unit {0}

abbrev pub TokensAreOfBytes : Type 0
TokensAreOfBytes = (unit : List ℕ) → AreBytes unit → All (λ t. IsOfBytes t.lexeme) (tokens_of unit)
