-- The numbers that words write.
use Rattle.std.specs.Prelude.{ℕ, ◌%◌, ◌==◌, ◌&&◌, nat_le, if◌then◌else◌, List, length, Option, Some, None}
use Rattle.std.specs.Option.{option_and_then}
use Rattle.cmm_words.specs.Digits.{written}

-- 1 to 20 decimal digits, and the number that they write is at most `most`, which is below 2 ^ 64
abbrev pub number_up_to : ℕ → List ℕ → Option ℕ
number_up_to most text =
    option_and_then (λ n. if nat_le (length text) 20 && nat_le n most then Some n else None) (written 10 text)

-- a count of steps: up to 10 ^ 18
unfoldable pub steps_of : List ℕ → Option ℕ
steps_of text = number_up_to 1000000000000000000 text

-- a size of the stack: a multiple of 16, up to 256 MiB
unfoldable pub stack_of : List ℕ → Option ℕ
stack_of text = option_and_then (λ n. if n % 16 == 0 then Some n else None) (number_up_to 268435456 text)

-- the number of a program that is generated: nine digits at most
unfoldable pub number_of : List ℕ → Option ℕ
number_of text = number_up_to 999999999 text
