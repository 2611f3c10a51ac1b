-- What operators on one word give (C-- Language Specification 2.0, the table of primitive operators).
use Rattle.std.specs.Prelude.{◌≡◌, ℕ}
use Rattle.cmm_words.specs.Words.{value1}
use Rattle.cmm_words.specs.declared.operators.Op1.{Op1}
use Rattle.cmm_words.specs.declared.width.Width.{Width}

-- a number is the value that an operator has on a word
abbrev pub IsValueOfOne : Op1 → Width → ℕ → ℕ → Type 0
IsValueOfOne op w a n = n ≡ value1 op w a
