-- What a word of digits means.
use Rattle.std.specs.Prelude.{ℕ, true, false, ◌&&◌, ◌^◌, nat_lt, if◌then◌else◌, List, drop, Option, Some, None}
use Rattle.std.specs.Option.{option_map}
use Rattle.cmm_script.specs.declared.script.Value.{Value}
use Rattle.cmm_script.specs.declared.script.Value.TheVariants.{Number, Yielded}
use Rattle.cmm_script.specs.Words.{begins_with}
use Rattle.cmm_words.specs.Digits.{written}

-- hexadecimal digits after `0x`, or decimal digits
abbrev pub number_of : List ℕ → Option ℕ
number_of word = elim (begins_with 48 word && begins_with 120 (drop 1 word)) [
  | true ↦ written 16 (drop 2 word)
  | false ↦ written 10 word
]

-- where a number is below a limit
abbrev pub below : ℕ → Option ℕ → Option ℕ
below limit None = None
below limit (Some n) = if nat_lt n limit then Some n else None

-- the number of a variable or of an exit
abbrev pub index_of : List ℕ → Option ℕ
index_of word = below (2 ^ 32) (number_of word)

-- after `$`, in decimal digits, the number of one of the 64 values that a yield has at most; or a number
abbrev pub value_of : List ℕ → Option Value
value_of word = elim (begins_with 36 word) [
  | true ↦ option_map Yielded (below 64 (written 10 (drop 1 word)))
  | false ↦ option_map Number (number_of word)
]
