-- Numbers of 64 and of w bits, as formulas over whole numbers: RISC-V ISA Volume I, "Integer Computational Instructions" of RV32I
-- and RV64I, and "M Extension for Integer Multiplication and Division".
use Rattle.std.specs.Prelude.{ℕ, ◌+◌, ◌-◌, ◌*◌, ◌/◌, ◌%◌, ◌^◌, ◌==◌, ℤ, pos, negsuc, nat_lt, int_lt, int_div, int_rem, Bool, if◌then◌else◌}

-- the remainder of z modulo 2^w, from 0 to 2^w - 1
abbrev pub modulo : ℕ → ℤ → ℕ
modulo w (pos n) = n % 2 ^ w
modulo w (negsuc n) = 2 ^ w - 1 - n % 2 ^ w

-- the low w bits of n, read as a signed number in two's complement
abbrev pub signed : ℕ → ℕ → ℤ
signed w n = let m = n % 2 ^ w in if nat_lt m (2 ^ (w - 1)) then pos m else negsuc (2 ^ w - 1 - m)

-- the low w bits of n, sign-extended to 64
abbrev pub sign_extended : ℕ → ℕ → ℕ
sign_extended w n = modulo 64 (signed w n)

-- what a word instruction gives: the low 32 bits, sign-extended
abbrev pub word : ℕ → ℕ
word n = sign_extended 32 n

-- ---- sums and products
abbrev pub sum : ℕ → ℕ → ℕ
sum a b = (a + b) % 2 ^ 64

abbrev pub difference : ℕ → ℕ → ℕ
difference a b = (a + (2 ^ 64 - b)) % 2 ^ 64

abbrev pub product : ℕ → ℕ → ℕ
product a b = a * b % 2 ^ 64

-- z divided by m, rounded down
abbrev pub floor_divided : ℤ → ℕ → ℤ
floor_divided (pos n) m = pos (n / m)
floor_divided (negsuc n) m = negsuc (n / m)

-- the upper half of a product of 128 bits
abbrev pub upper_half : ℤ → ℕ
upper_half z = modulo 64 (floor_divided z (2 ^ 64))

-- ---- comparisons
abbrev pub is_less : ℕ → ℕ → Bool
is_less a b = int_lt (signed 64 a) (signed 64 b)

abbrev pub flag : Bool → ℕ
flag holds = if holds then 1 else 0

-- ---- shifts
abbrev pub shifted_left : ℕ → ℕ → ℕ
shifted_left a k = a * 2 ^ k % 2 ^ 64

abbrev pub shifted_right : ℕ → ℕ → ℕ
shifted_right a k = a / 2 ^ k

abbrev pub shifted_right_signed : ℕ → ℕ → ℕ → ℕ
shifted_right_signed w a k = modulo 64 (floor_divided (signed w a) (2 ^ k))

-- ---- quotients, rounded toward zero, and remainders, of the low w bits; what the quotient by zero is, and the remainder
abbrev pub quotient : ℕ → ℕ → ℕ → ℕ
quotient w a b =
    if b % 2 ^ w == 0 then 2 ^ 64 - 1 else sign_extended w (modulo w (int_div (signed w a) (signed w b)))

abbrev pub quotient_unsigned : ℕ → ℕ → ℕ → ℕ
quotient_unsigned w a b =
    if b % 2 ^ w == 0 then 2 ^ 64 - 1 else sign_extended w (a % 2 ^ w / (b % 2 ^ w))

abbrev pub remainder : ℕ → ℕ → ℕ → ℕ
remainder w a b =
    if b % 2 ^ w == 0 then sign_extended w a else sign_extended w (modulo w (int_rem (signed w a) (signed w b)))

abbrev pub remainder_unsigned : ℕ → ℕ → ℕ → ℕ
remainder_unsigned w a b =
    if b % 2 ^ w == 0 then sign_extended w a else sign_extended w (a % 2 ^ w % (b % 2 ^ w))

-- ---- the 20 bits of an upper immediate over twelve zeros, sign-extended from bit 31
abbrev pub upper : ℤ → ℕ
upper imm = word (modulo 20 imm * 4096)
