-- What digits write.
use Rattle.std.specs.Prelude.{ℕ, Bool, ◌&&◌, ◌+◌, ◌*◌, ◌^◌, nat_lt, if◌then◌else◌, List, [], ◌∷◌, length, Option, Some, None}
use Rattle.std.specs.Char.{is_digit, digit_value}
use Rattle.std.specs.List.{list_all}
use Rattle.cmm_words.specs.declared.digits.Radix.{Radix}
use Rattle.cmm_words.specs.declared.digits.Radix.TheVariants.{Octal, Decimal, Hexadecimal}

abbrev pub base : Radix → ℕ
base Octal = 8
base Decimal = 10
base Hexadecimal = 16

-- what digits count, the first of them the most
abbrev pub sum_of : ℕ → List ℕ → ℕ
sum_of b [] = 0
sum_of b (d ∷ ds) = digit_value d * b ^ length ds + sum_of b ds

-- bytes write a number: there is one, each is a digit of the base, and the number is below 2 ^ 64
abbrev pub is_written : ℕ → List ℕ → Bool
is_written b ds = nat_lt 0 (length ds) && list_all (λ d. is_digit d b) ds && nat_lt (sum_of b ds) (2 ^ 64)

-- the number that bytes write in a base
abbrev pub written : ℕ → List ℕ → Option ℕ
written b ds = if is_written b ds then Some (sum_of b ds) else None
