-- The word operators: what each one gives, as a formula over whole numbers and integers, modulo 2 to the width
-- (C-- Language Specification 2.0, the table of primitive operators).
-- A word of k bits is a whole number below 2 ^ k.
use Rattle.std.specs.Prelude.{ℕ, ◌+◌, ◌-◌, ◌*◌, ◌/◌, ◌%◌, ◌^◌, min, Bool, true, false, not, pos, ◌-ℤ◌, neg_ℤ, Option, Some, None, ◌==◌, nat_lt, nat_le, int_lt, int_le, if◌then◌else◌, bit_and, bit_or, bit_xor}
use Rattle.cmm_words.specs.declared.width.Width.{Width}
use Rattle.cmm_words.specs.declared.operators.Op1.{Op1}
use Rattle.cmm_words.specs.declared.operators.Op1.TheVariants.{Com, Neg}
use Rattle.cmm_words.specs.declared.operators.Op2.{Op2}
use Rattle.cmm_words.specs.declared.operators.Op2.TheVariants.{Add, Sub, Mul, And, Or, Xor, Shl, Shrl, Shra, Rotl, Rotr, Divu, Modu, Div, Mod, Quot, Rem}
use Rattle.cmm_words.specs.declared.operators.Cmp.{Cmp}
use Rattle.cmm_words.specs.declared.operators.Cmp.TheVariants.{Eq, Ne, Lt, Le, Gt, Ge, Ltu, Leu, Gtu, Geu}
use Rattle.cmm_words.specs.Widths.{bits}
use Rattle.cmm_words.specs.Integers.{signed, wrapped, rounded_down, quotient_down, quotient_toward_zero, remainder}

-- the low bits of a number
abbrev pub low_bits : Width → ℕ → ℕ
low_bits w a = a % 2 ^ bits w

-- a word's signed reading as a word of another width
abbrev pub sign_extended : Width → Width → ℕ → ℕ
sign_extended from to a = wrapped (bits to) (signed (bits from) a)

-- an operator with one operand
abbrev pub value1 : Op1 → Width → ℕ → ℕ
value1 Com w a = 2 ^ bits w - 1 - a
value1 Neg w a = wrapped (bits w) (neg_ℤ (pos a))

-- a number with what stands above its low k bits put back in at the bottom, as a rotation does
abbrev pub folded : ℕ → ℕ → ℕ
folded k n = n % 2 ^ k + n / 2 ^ k

-- a division's value, and none where the divisor is 0
abbrev pub divided : ℕ → ℕ → Option ℕ
divided b value = if b == 0 then None else Some value

-- the operators that have no value where the second operand is 0
abbrev pub is_division : Op2 → Bool
is_division Divu = true
is_division Modu = true
is_division Div = true
is_division Mod = true
is_division Quot = true
is_division Rem = true
is_division _ = false

-- An operator with two operands. A shift by the width or more shifts every bit out, so its count stops there.
abbrev pub value2 : Op2 → Width → ℕ → ℕ → Option ℕ
value2 Add w a b = Some ((a + b) % 2 ^ bits w)
value2 Sub w a b = Some (wrapped (bits w) (pos a -ℤ pos b))
value2 Mul w a b = Some ((a * b) % 2 ^ bits w)
value2 And w a b = Some (bit_and a b)
value2 Or w a b = Some (bit_or a b)
value2 Xor w a b = Some (bit_xor a b)
value2 Shl w a b = Some ((a * 2 ^ min b (bits w)) % 2 ^ bits w)
value2 Shrl w a b = Some (a / 2 ^ min b (bits w))
value2 Shra w a b = Some (wrapped (bits w) (rounded_down (signed (bits w) a) (2 ^ min b (bits w))))
value2 Rotl w a b = Some (folded (bits w) (a * 2 ^ (b % bits w)))
value2 Rotr w a b = Some (folded (bits w) (a * 2 ^ (bits w - b % bits w)))
value2 Divu w a b = divided b (a / b)
value2 Modu w a b = divided b (a % b)
value2 Div w a b = let x = signed (bits w) a in let y = signed (bits w) b in
    divided b (wrapped (bits w) (quotient_down x y))
value2 Mod w a b = let x = signed (bits w) a in let y = signed (bits w) b in
    divided b (wrapped (bits w) (remainder x y (quotient_down x y)))
value2 Quot w a b = let x = signed (bits w) a in let y = signed (bits w) b in
    divided b (wrapped (bits w) (quotient_toward_zero x y))
value2 Rem w a b = let x = signed (bits w) a in let y = signed (bits w) b in
    divided b (wrapped (bits w) (remainder x y (quotient_toward_zero x y)))

-- a comparison: of the words themselves, or of their signed readings
abbrev pub holds : Cmp → Width → ℕ → ℕ → Bool
holds Eq w a b = a == b
holds Ne w a b = not (a == b)
holds Lt w a b = int_lt (signed (bits w) a) (signed (bits w) b)
holds Le w a b = int_le (signed (bits w) a) (signed (bits w) b)
holds Gt w a b = int_lt (signed (bits w) b) (signed (bits w) a)
holds Ge w a b = int_le (signed (bits w) b) (signed (bits w) a)
holds Ltu w a b = nat_lt a b
holds Leu w a b = nat_le a b
holds Gtu w a b = nat_lt b a
holds Geu w a b = nat_le b a
