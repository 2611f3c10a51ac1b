-- Where the digits of a number stand, and in which base they write it.
use Rattle.std.specs.Prelude.{ℕ, Bool, true, false, ◌==◌, ◌||◌, List, drop}
use Rattle.std.specs.Char.{is_digit as is_digit_in}
use Rattle.cmm_words.specs.declared.digits.Radix.{Radix}
use Rattle.cmm_words.specs.declared.digits.Radix.TheVariants.{Octal, Decimal, Hexadecimal}
use Rattle.cmm_words.specs.Digits.{base}
use Rattle.cmm_lexer.specs.Bytes.{is_digit, begins}

-- `0x` or `0X` goes before hexadecimal digits, and other digits are octal after a leading 0
abbrev pub radix_of : List ℕ → Radix
radix_of text = elim (begins (λ b. b == 48) text) [
  | true ↦ elim (begins (λ b. b == 120 || b == 88) (drop 1 text)) [ true ↦ Hexadecimal | false ↦ Octal ]
  | false ↦ Decimal
]

-- how many bytes stand before the digits
abbrev pub digits_start : Radix → ℕ
digits_start Hexadecimal = 2
digits_start _ = 0

-- which bytes go on the digits of a number: in an octal one the misplaced digits 8 and 9 too
abbrev pub is_digit_at : Radix → ℕ → Bool
is_digit_at radix b = is_digit b || is_digit_in b (base radix)
