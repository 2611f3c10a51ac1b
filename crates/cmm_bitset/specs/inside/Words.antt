-- Sets as bits of words, 64 a word, the lowest bit first.
use Rattle.std.specs.Prelude.{◌≡◌, ℕ, ◌+◌, ◌/◌, ◌%◌, ◌≤◌, ◌<◌, ◌==◌, Bool, List, length, map, slice_index_or}
use Rattle.std.specs.List.{range_with_len}
use Rattle.std.specs.Int.{bit_at}

-- a bit of the words, 0 past their end
abbrev pub bit : List ℕ → ℕ → ℕ
bit words number = bit_at (slice_index_or words (number / 64) 0) (number % 64)

-- the set of the numbers below the size whose bits are 1
abbrev pub set_of : List ℕ → ℕ → List Bool
set_of words size = map (λ number. bit words number == 1) (range_with_len 0 size)

-- there are just the words that the size needs, and no bit from the size on is 1
pub record IsTrimmed (words : List ℕ) (size : ℕ) : Type 0 where
  pub enough : length words ≡ (size + 63) / 64
  pub unused : (number : ℕ) → size ≤ number → bit words number ≡ 0

-- the bit at a place is 1, and those before it, from a number on, are 0
pub record IsLowest (words : List ℕ) (from place : ℕ) : Type 0 where
  pub behind : from ≤ place
  pub set : bit words place ≡ 1
  pub others : (number : ℕ) → from ≤ number → number < place → bit words number ≡ 0
