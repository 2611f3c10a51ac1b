-- Signed readings: of 64 bits, of a word, and of what a division gives.
use Rattle.std.proofs.Common.{◌≡◌, ◌≢◌, ℕ, zero, suc, ◌/◌, ◌%◌, ◌<◌, ◌≤◌, ◌^◌, ℤ, pos, negsuc, refl, ap, ◌∙◌, arith, of_z, to_z, w64, neg_ℤ, ◌*ℤ◌, lit<}
use Rattle.std.specs.Prelude.{int_div, int_rem, unsigned_abs, ◌==◌, Bool, true, false}
use Rattle.std.specs.Int.{w128, int_wrapping_div}
use lib.Signed.{mag, mag_rem}
use Rattle.std.proofs.Math.Nat.{div-le_self, le_trans, lt_of_le_of_lt}
use Rattle.std.proofs.lemmas.Int.{to_z-of_z, of_z-to_z, fits_signed_mul}
use Rattle.std.proofs.lemmas.Bool.Decides.{nat_tests}
use Rattle.rv_table.specs.Words.{modulo, signed, sign_extended, word, quotient, remainder}
use Rattle.rv_table.proofs.Immediates.{modulo-lt}

-- the reading that `cast_signed` gives
pub signed-64 : (n : ℕ) → n < 2 ^ 64 → signed 64 n ≡ to_z w64 n
signed-64 n h = grind (arith, nat_tests)

pub sign_extended-64 : (n : ℕ) → n < 2 ^ 64 → sign_extended 64 n ≡ n
sign_extended-64 n h = grind (arith, nat_tests)

pub word-lt : (n : ℕ) → word n < 2 ^ 64
word-lt n = grind (arith, nat_tests)

pub signed-word : (n : ℕ) → signed 64 (word n) ≡ signed 32 n
signed-word n = grind (arith, nat_tests)

pub word-zero : (n : ℕ) → (word n % 2 ^ 64 == 0) ≡ (n % 2 ^ 32 == 0)
word-zero n = grind (arith, nat_tests)

-- a word's remainder modulo 2^32 is its own
pub modulo-32 : (z : ℤ) → modulo 64 z % 2 ^ 32 ≡ modulo 32 z
modulo-32 (pos n) = omega arith
modulo-32 (negsuc n) = omega arith

abs-neg : (n : ℕ) → unsigned_abs (neg_ℤ (pos n)) ≡ n
abs-neg zero = refl
abs-neg (suc n) = refl

-- a quotient is no further from 0 than the dividend
pub int_div-le : (a b : ℤ) → unsigned_abs (int_div a b) ≤ unsigned_abs a
int_div-le (pos a) (pos b) = div-le_self a b
int_div-le (pos a) (negsuc b) = rw (abs-neg (a / suc b)) (div-le_self a (suc b))
int_div-le (negsuc a) (pos b) = rw (abs-neg (suc a / b)) (div-le_self (suc a) b)
int_div-le (negsuc a) (negsuc b) = div-le_self (suc a) (suc b)

-- ---- 64 bits
signed_abs-64 : (n : ℕ) → n < 2 ^ 64 → unsigned_abs (to_z w64 n) ≤ 2 ^ 63
signed_abs-64 n h = grind (arith, nat_tests)

bits_below : (z : ℤ) → unsigned_abs z ≤ 2 ^ 63 → of_z w64 z < 2 ^ 64
bits_below (pos n) h = omega arith
bits_below (negsuc n) h = omega arith

bits_extended : (z : ℤ) → unsigned_abs z ≤ 2 ^ 63 → of_z w64 z ≡ sign_extended 64 (modulo 64 z)
bits_extended (pos n) h = grind (arith, nat_tests)
bits_extended (negsuc n) h = grind (arith, nat_tests)

-- what the code's wrapping division of the signed readings gives
pub quotient-64 : (a b r : ℕ) (x y q : ℤ) → a < 2 ^ 64 → b < 2 ^ 64 → b ≢ 0 → x ≡ to_z w64 a → y ≡ to_z w64 b →
    q ≡ int_wrapping_div w64 (to_z w64 (of_z w64 x)) (to_z w64 (of_z w64 y)) → r ≡ of_z w64 (to_z w64 (of_z w64 q)) →
    r ≡ quotient 64 a b
quotient-64 a b r x y q ha hb nonzero ex ey eq er =
    let e : (b % 2 ^ 64 == 0) ≡ false = grind (arith, nat_tests) in
    let z = int_div (to_z w64 a) (to_z w64 b) in
    let near : unsigned_abs z ≤ 2 ^ 63 = le_trans (int_div-le (to_z w64 a) (to_z w64 b)) (signed_abs-64 a ha) in
    let back : of_z w64 (to_z w64 (of_z w64 z)) ≡ of_z w64 z = of_z-to_z w64 (of_z w64 z) (bits_below z near) in
    rw (er, eq, ex, ey, of_z-to_z w64 a ha, of_z-to_z w64 b hb, e, signed-64 a ha, signed-64 b hb, back, back)
    (bits_extended z near)

signed_mag-64 : (n : ℕ) → n < 2 ^ 64 → mag (to_z w64 n) < 2 ^ 63
signed_mag-64 n h = grind (arith, nat_tests)

near_zero : (z : ℤ) → mag z < 2 ^ 63 → unsigned_abs z ≤ 2 ^ 63
near_zero (pos n) h = omega (arith, h)
near_zero (negsuc n) h = omega (arith, h)

-- what the remainder of the signed readings gives
pub remainder-64 : (a b r : ℕ) (x y q : ℤ) → a < 2 ^ 64 → b < 2 ^ 64 → b ≢ 0 → x ≡ to_z w64 a → y ≡ to_z w64 b →
    q ≡ int_rem (to_z w64 (of_z w64 x)) (to_z w64 (of_z w64 y)) → r ≡ of_z w64 (to_z w64 (of_z w64 q)) → r ≡ remainder 64 a b
remainder-64 a b r x y q ha hb nonzero ex ey eq er =
    let e : (b % 2 ^ 64 == 0) ≡ false = grind (arith, nat_tests) in
    let z = int_rem (to_z w64 a) (to_z w64 b) in
    let near : unsigned_abs z ≤ 2 ^ 63 = near_zero z (lt_of_le_of_lt (mag_rem (to_z w64 a) (to_z w64 b)) (signed_mag-64 a ha)) in
    let back : of_z w64 (to_z w64 (of_z w64 z)) ≡ of_z w64 z = of_z-to_z w64 (of_z w64 z) (bits_below z near) in
    rw (er, eq, ex, ey, of_z-to_z w64 a ha, of_z-to_z w64 b hb, e, signed-64 a ha, signed-64 b hb, back) (bits_extended z near)

-- ---- 32 bits
word-modulo : (z : ℤ) → word (modulo 64 z) ≡ sign_extended 32 (modulo 32 z)
word-modulo z = rw (← modulo-32 z) (grind (arith, nat_tests))

pub quotient-word : (a b : ℕ) → word (quotient 64 (word a) (word b)) ≡ quotient 32 a b
quotient-word a b = by_test (b % 2 ^ 32 == 0) refl
  where
    by_test : (t : Bool) → (b % 2 ^ 32 == 0) ≡ t → word (quotient 64 (word a) (word b)) ≡ quotient 32 a b
    by_test true t = rw (word-zero b, t)
    by_test false t =
        rw (word-zero b, t, signed-word a, signed-word b)
        (ap word (sign_extended-64 _ (modulo-lt 64 (int_div (signed 32 a) (signed 32 b))))
        ∙ word-modulo (int_div (signed 32 a) (signed 32 b)))

signed_mag-32 : (n : ℕ) → mag (signed 32 n) < 2 ^ 31
signed_mag-32 n = grind (arith, nat_tests)

sign_extended-both : (z : ℤ) → mag z < 2 ^ 31 → sign_extended 64 (modulo 64 z) ≡ sign_extended 32 (modulo 32 z)
sign_extended-both (pos n) h = grind (arith, nat_tests)
sign_extended-both (negsuc n) h = grind (arith, nat_tests)

pub remainder-word : (a b : ℕ) → remainder 64 (word a) (word b) ≡ remainder 32 a b
remainder-word a b = by_test (b % 2 ^ 32 == 0) refl
  where
    by_test : (t : Bool) → (b % 2 ^ 32 == 0) ≡ t → remainder 64 (word a) (word b) ≡ remainder 32 a b
    by_test true t = rw (word-zero b, t) (sign_extended-64 (word a) (word-lt a))
    by_test false t =
        rw (word-zero b, t, signed-word a, signed-word b)
        (sign_extended-both (int_rem (signed 32 a) (signed 32 b))
        (lt_of_le_of_lt (mag_rem (signed 32 a) (signed 32 b)) (signed_mag-32 a)))

-- ---- 128 bits
widened : (n : ℕ) (x : ℤ) → n < 2 ^ 64 → x ≡ to_z w64 n → to_z w128 (of_z w128 (to_z w64 (of_z w64 x))) ≡ signed 64 n
widened n x h e = rw e (grind (arith, nat_tests))

-- the product of the signed readings, as the code takes it in 128 bits
pub signed_product : (a b : ℕ) (x y : ℤ) → a < 2 ^ 64 → b < 2 ^ 64 → x ≡ to_z w64 a → y ≡ to_z w64 b →
    to_z w128 (of_z w128 (to_z w128 (of_z w128 (to_z w64 (of_z w64 x))) *ℤ to_z w128 (of_z w128 (to_z w64 (of_z w64 y))))) ≡
    signed 64 a *ℤ signed 64 b
signed_product a b x y ha hb ex ey =
    let abs_a : unsigned_abs (signed 64 a) ≤ 2 ^ 63 = rw (signed-64 a ha) (signed_abs-64 a ha) in
    let abs_b : unsigned_abs (signed 64 b) ≤ 2 ^ 63 = rw (signed-64 b hb) (signed_abs-64 b hb) in
    rw (widened a x ha ex, widened b y hb ey)
    (to_z-of_z w128 _ (fits_signed_mul w128 (signed 64 a) (signed 64 b) (2 ^ 63) (2 ^ 63) abs_a abs_b (lit< tt)))
