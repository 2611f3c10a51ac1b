-- What the layers above use of the word operators, each law one notion.
use Rattle.std.specs.Prelude.{◌≡◌, ℕ, ◌+◌, ◌-◌, ◌*◌, ◌/◌, ◌%◌, ◌^◌, ◌<◌, ◌≤◌, ℤ, pos, ◌+ℤ◌, ◌<ℤ◌, ◌≤ℤ◌, Bool, not, ◌&&◌, Some, option_map, IfSome, bit_or, unsigned_abs, if◌then◌else◌}
use Rattle.std.specs.Bool.{beq}
use Rattle.cmm_words.specs.declared.width.Width.{Width}
use Rattle.cmm_words.specs.declared.width.Width.TheVariants.{W64}
use Rattle.cmm_words.specs.declared.operators.Op1.{Op1}
use Rattle.cmm_words.specs.declared.operators.Op2.{Op2}
use Rattle.cmm_words.specs.declared.operators.Op2.TheVariants.{Add, Sub, Shl, Shrl, Shra, Rotl, Rotr, Div, Mod, Quot, Rem}
use Rattle.cmm_words.specs.declared.operators.Cmp.{Cmp}
use Rattle.cmm_words.specs.declared.operators.Cmp.TheVariants.{Ne, Lt}
use Rattle.cmm_words.specs.Widths.{bits, IsWord}
use Rattle.cmm_words.specs.Integers.{signed, wrapped, rounded_down, quotient_down, quotient_toward_zero, remainder}
use Rattle.cmm_words.specs.Words.{low_bits, sign_extended, value1, value2, holds}

-- ---- an operator at a width, by the same operator at 64 bits

-- a word as 64 bits with its sign
abbrev pub extended : Width → ℕ → ℕ
extended w a = sign_extended w W64 a

-- The operator at a width is the operator at 64 bits, cut to the width: on the words as they are,
abbrev pub IsCut1 : Op1 → Type 0
IsCut1 op = (w : Width) (a : ℕ) → IsWord w a → value1 op w a ≡ low_bits w (value1 op W64 a)

abbrev pub IsCut2 : Op2 → Type 0
IsCut2 op = (w : Width) (a b : ℕ) → IsWord w a → IsWord w b →
    value2 op w a b ≡ option_map (low_bits w) (value2 op W64 a b)

-- on both words extended,
abbrev pub IsCutOfExtended : Op2 → Type 0
IsCutOfExtended op = (w : Width) (a b : ℕ) → IsWord w a → IsWord w b →
    value2 op w a b ≡ option_map (low_bits w) (value2 op W64 (extended w a) (extended w b))

-- or on the first word extended, where the second is a count.
abbrev pub IsCutOfExtendedFirst : Op2 → Type 0
IsCutOfExtendedFirst op = (w : Width) (a b : ℕ) → IsWord w a → IsWord w b →
    value2 op w a b ≡ option_map (low_bits w) (value2 op W64 (extended w a) b)

-- the bitwise or of two shifts of 64 bits, cut to a width
abbrev pub two_shifts : Width → ℕ → ℕ → ℕ → ℕ
two_shifts w a left right = low_bits w (bit_or (low_bits W64 (a * 2 ^ left)) (a / 2 ^ right))

-- A rotation is a shift by the count and one the other way by what the count leaves of the width. A shift of 64 bits
-- takes its count modulo 64, and so it may here.
abbrev pub RotlIsTwoShifts : Type 0
RotlIsTwoShifts = (w : Width) (a b : ℕ) → IsWord w a →
    value2 Rotl w a b ≡ Some (two_shifts w a (b % bits w) ((bits w - b % bits w) % 64))

abbrev pub RotrIsTwoShifts : Type 0
RotrIsTwoShifts = (w : Width) (a b : ℕ) → IsWord w a →
    value2 Rotr w a b ≡ Some (two_shifts w a ((bits w - b % bits w) % 64) (b % bits w))

-- A comparison at a width is the comparison at 64 bits, on the words as they are or extended.
abbrev pub IsWide : Cmp → Type 0
IsWide c = (w : Width) (a b : ℕ) → IsWord w a → IsWord w b → holds c w a b ≡ holds c W64 a b

abbrev pub IsWideOfExtended : Cmp → Type 0
IsWideOfExtended c = (w : Width) (a b : ℕ) → IsWord w a → IsWord w b →
    holds c w a b ≡ holds c W64 (extended w a) (extended w b)

-- ---- every value is a word

abbrev pub GivesWord1 : Type 0
GivesWord1 = (op : Op1) (w : Width) (a : ℕ) → IsWord w a → IsWord w (value1 op w a)

abbrev pub GivesWord2 : Type 0
GivesWord2 = (op : Op2) (w : Width) (a b : ℕ) → IsWord w a → IsWord w b → IfSome (value2 op w a b) (IsWord w)

abbrev pub LowIsWord : Type 0
LowIsWord = (w : Width) (a : ℕ) → IsWord w (low_bits w a)

abbrev pub ExtendedIsWord : Type 0
ExtendedIsWord = (v w : Width) (a : ℕ) → IsWord w (sign_extended v w a)

-- ---- conversions

-- a cut to fewer bits may come first
abbrev pub LowOfLow : Type 0
LowOfLow = (v w : Width) (a : ℕ) → bits v ≤ bits w → low_bits v (low_bits w a) ≡ low_bits v a

-- a word is its own low bits
abbrev pub LowOfWord : Type 0
LowOfWord = (w : Width) (a : ℕ) → IsWord w a → low_bits w a ≡ a

-- a cut takes an extension back
abbrev pub LowOfExtended : Type 0
LowOfExtended = (v w : Width) (a : ℕ) → bits v ≤ bits w → IsWord v a → low_bits v (sign_extended v w a) ≡ a

-- two extensions are one
abbrev pub ExtendedOfExtended : Type 0
ExtendedOfExtended = (u v w : Width) (a : ℕ) → bits u ≤ bits v → bits v ≤ bits w → IsWord u a →
    sign_extended v w (sign_extended u v a) ≡ sign_extended u w a

-- an extension keeps the signed reading
abbrev pub SignedOfExtended : Type 0
SignedOfExtended = (v w : Width) (a : ℕ) → bits v ≤ bits w → IsWord v a →
    signed (bits w) (sign_extended v w a) ≡ signed (bits v) a

-- the signed reading as a word is the word
abbrev pub WordOfSigned : Type 0
WordOfSigned = (w : Width) (a : ℕ) → IsWord w a → wrapped (bits w) (signed (bits w) a) ≡ a

-- ---- shifts: a count past the width needs no care in a formula

abbrev pub ShlByAnyCount : Type 0
ShlByAnyCount = (w : Width) (a b : ℕ) → value2 Shl w a b ≡ Some (low_bits w (a * 2 ^ b))

abbrev pub ShrlByAnyCount : Type 0
ShrlByAnyCount = (w : Width) (a b : ℕ) → IsWord w a → value2 Shrl w a b ≡ Some (a / 2 ^ b)

abbrev pub ShraByAnyCount : Type 0
ShraByAnyCount = (w : Width) (a b : ℕ) → IsWord w a →
    value2 Shra w a b ≡ Some (wrapped (bits w) (rounded_down (signed (bits w) a) (2 ^ b)))

-- and a count past the width gives what the last count gives, or nothing
abbrev pub ShlPastWidth : Type 0
ShlPastWidth = (w : Width) (a b : ℕ) → bits w ≤ b → value2 Shl w a b ≡ Some 0

abbrev pub ShrlPastWidth : Type 0
ShrlPastWidth = (w : Width) (a b : ℕ) → IsWord w a → bits w ≤ b → value2 Shrl w a b ≡ Some 0

abbrev pub ShraPastWidth : Type 0
ShraPastWidth = (w : Width) (a b : ℕ) → IsWord w a → bits w ≤ b → value2 Shra w a b ≡ value2 Shra w a (bits w - 1)

-- ---- integers as words

-- integers that are a multiple of 2 to the width apart are one word
abbrev pub WordPastMultiple : Type 0
WordPastMultiple = (w : Width) (z : ℤ) (n : ℕ) → wrapped (bits w) (z +ℤ pos (n * 2 ^ bits w)) ≡ wrapped (bits w) z

-- the word of a sum is the sum of the words
abbrev pub WordOfSum : Type 0
WordOfSum = (w : Width) (x y : ℤ) →
    wrapped (bits w) (x +ℤ y) ≡ low_bits w (wrapped (bits w) x + wrapped (bits w) y)

-- ---- divisions: one rounding by the other

-- a remainder r of a division toward zero by b tells whether its quotient was rounded up
abbrev pub is_rounded_up : Width → ℕ → ℕ → Bool
is_rounded_up w b r = holds Ne w r 0 && not (beq (holds Lt w r 0) (holds Lt w b 0))

-- a quotient rounded down is that toward zero, or less by 1 where that was rounded up
abbrev pub DivFromQuot : Type 0
DivFromQuot = (w : Width) (a b q r : ℕ) → IsWord w a → IsWord w b →
    value2 Quot w a b ≡ Some q → value2 Rem w a b ≡ Some r →
    value2 Div w a b ≡ (if is_rounded_up w b r then value2 Sub w q 1 else Some q)

-- and its remainder is more by the divisor there
abbrev pub ModFromRem : Type 0
ModFromRem = (w : Width) (a b r : ℕ) → IsWord w a → IsWord w b →
    value2 Rem w a b ≡ Some r →
    value2 Mod w a b ≡ (if is_rounded_up w b r then value2 Add w r b else Some r)

-- ---- divisions: the remainder tells how a quotient is rounded

-- rounded down: it lies from 0 to the divisor, which it doesn't reach
abbrev pub DownByPositive : Type 0
DownByPositive = (x y : ℤ) → pos 0 <ℤ y →
    (pos 0 ≤ℤ remainder x y (quotient_down x y)) × (remainder x y (quotient_down x y) <ℤ y)

abbrev pub DownByNegative : Type 0
DownByNegative = (x y : ℤ) → y <ℤ pos 0 →
    (y <ℤ remainder x y (quotient_down x y)) × (remainder x y (quotient_down x y) ≤ℤ pos 0)

-- rounded toward zero: it is nearer to 0 than the divisor, and it lies on the dividend's side of 0
abbrev pub TowardZeroIsNearer : Type 0
TowardZeroIsNearer = (x y : ℤ) → 0 < unsigned_abs y →
    unsigned_abs (remainder x y (quotient_toward_zero x y)) < unsigned_abs y

abbrev pub TowardZeroOfPositive : Type 0
TowardZeroOfPositive = (x y : ℤ) → pos 0 ≤ℤ x → pos 0 ≤ℤ remainder x y (quotient_toward_zero x y)

abbrev pub TowardZeroOfNegative : Type 0
TowardZeroOfNegative = (x y : ℤ) → x ≤ℤ pos 0 → remainder x y (quotient_toward_zero x y) ≤ℤ pos 0
