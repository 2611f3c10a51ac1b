-- Words as integers: the signed reading, the way back modulo 2 ^ k, and the two roundings of a quotient.
-- In each of them k is a number of bits.
use Rattle.std.specs.Prelude.{ℕ, suc, ◌-◌, ◌/◌, ◌%◌, ◌^◌, ℤ, pos, negsuc, ◌-ℤ◌, ◌*ℤ◌, neg_ℤ, nat_lt, if◌then◌else◌, int_div}

-- a word read as a signed number: itself, or less by 2 ^ k where its top bit is set
abbrev pub signed : ℕ → ℕ → ℤ
signed k a = if nat_lt a (2 ^ (k - 1)) then pos a else (pos a -ℤ pos (2 ^ k))

-- an integer modulo 2 ^ k
abbrev pub wrapped : ℕ → ℤ → ℕ
wrapped k (pos n) = n % 2 ^ k
wrapped k (negsuc n) = 2 ^ k - 1 - n % 2 ^ k

-- an integer divided by a whole number, rounded down
abbrev pub rounded_down : ℤ → ℕ → ℤ
rounded_down (pos n) m = pos (n / m)
rounded_down (negsuc n) m = negsuc (n / m)

-- the quotient of two integers, rounded down
abbrev pub quotient_down : ℤ → ℤ → ℤ
quotient_down x (pos m) = rounded_down x m
quotient_down x (negsuc m) = rounded_down (neg_ℤ x) (suc m)

-- the quotient of two integers, rounded toward zero
abbrev pub quotient_toward_zero : ℤ → ℤ → ℤ
quotient_toward_zero x y = int_div x y

-- the remainder that belongs to a quotient
abbrev pub remainder : ℤ → ℤ → ℤ → ℤ
remainder x y quotient = x -ℤ y *ℤ quotient
