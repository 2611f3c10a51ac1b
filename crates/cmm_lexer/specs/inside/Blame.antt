-- Which fault a part of a text is, at its place.
use Rattle.std.specs.Prelude.{◌≡◌, ℕ}
use Rattle.cmm_lexer.specs.declared.piece.Part.{Part}
use Rattle.cmm_lexer.specs.declared.piece.Part.TheVariants.{Broken}
use Rattle.cmm_lexer.specs.declared.tokens.LexFault.{LexFault}
use Rattle.cmm_lexer.specs.declared.tokens.LexFault.TheVariants.{At, Memory}

-- the part breaks the rule of the fault, whose place is this line and column
abbrev pub Blames : Part → ℕ → ℕ → LexFault → Type 0
Blames part line column Memory = Unit {0}
Blames part line column (At r l c) = (part ≡ Broken r) × (l ≡ line) × (c ≡ column)
