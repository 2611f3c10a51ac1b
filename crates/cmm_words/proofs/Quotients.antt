-- The two roundings of a quotient, and their remainders.
use Rattle.std.proofs.Common.{◌≡◌, ◌≢◌, ℕ, zero, suc, ◌+◌, ◌-◌, ◌*◌, ◌/◌, ◌%◌, ◌<◌, ◌≤◌, arith, ℤ, pos, negsuc, neg_ℤ, ◌+ℤ◌, ◌*ℤ◌, int_div, int_rem, int_lt, not, div-add-mod', ap, sym, ◌∙◌, suc-mul, refl, mod-eq_of_lt}
use Rattle.std.proofs.lemmas.Nat.{div-mul-add, mod_below}
use Rattle.std.proofs.lemmas.Int.{ints, quot-rem}
use Rattle.std.proofs.lemmas.Bool.Decides.{nat_tests}
use Rattle.std.specs.Bool.{OnTrue}
use lib.Signed.{non_neg}
use lib.IntN.{*ℤ_comm, +ℤ_one, suc_ℤ-*ℤ}
use mathlib.Core.Bool.{beq}
use Rattle.cmm_words.specs.Integers.{quotient_down, quotient_toward_zero, remainder}

-- the quotient of n, from a multiple of the divisor and a rest
div_is : (n m q r : ℕ) → n ≡ q * suc m + r → r ≤ m → n / suc m ≡ q
div_is n m q r e h = ap (λ x. x / suc m) e ∙ div-mul-add q (suc m) r (omega arith)

-- the next number's quotient is the same where its remainder isn't 0
div-suc_inexact : (n m : ℕ) → suc n % suc m ≢ 0 → suc n / suc m ≡ n / suc m
div-suc_inexact n m h =
    let r_below : suc n % suc m < suc m = mod_below (suc n) (suc m) (omega arith) in
    sym (div_is n m (suc n / suc m) (suc n % suc m - 1) (omega (arith, div-add-mod' (suc n) (suc m))) (omega arith))

-- and one more where it is
div-suc_exact : (n m : ℕ) → suc n % suc m ≡ 0 → suc n / suc m ≡ suc (n / suc m)
div-suc_exact n m h = by (suc n / suc m) (div-add-mod' (suc n) (suc m)) where
  by : (q : ℕ) → q * suc m + suc n % suc m ≡ suc n → q ≡ suc (n / suc m)
  by zero e = absurd (omega arith)
  by (suc q) e = ap suc (sym (div_is n m q m (omega (arith, suc-mul)) (omega arith)))

-- the sign that a comparison with 0 tells
pub int_lt-zero : (x : ℤ) → int_lt x (pos 0) ≡ not (non_neg x)
int_lt-zero (pos a) = grind (arith, nat_tests)
int_lt-zero (negsuc a) = refl

neg-pos_zero : (n : ℕ) → neg_ℤ (pos n) ≡ pos 0 → n ≡ 0
neg-pos_zero zero e = refl
neg-pos_zero (suc n) e = cc

neg-pos : (n : ℕ) → neg_ℤ (pos n) ≡ negsuc n +ℤ pos 1
neg-pos n = omega (arith, ints)

-- a quotient without a remainder needs no rounding
pub quotient-exact : (x y : ℤ) → y ≢ pos 0 → int_rem x y ≡ pos 0 → quotient_toward_zero x y ≡ quotient_down x y
quotient-exact (pos a) (pos b) nonzero h = refl
quotient-exact (negsuc a) (pos zero) nonzero h = absurd (nonzero refl)
quotient-exact (negsuc a) (pos (suc b)) nonzero h = rw (div-suc_exact a b (neg-pos_zero (suc a % suc b) h)) refl
quotient-exact (pos zero) (negsuc b) nonzero h = rw (div_is 0 b 0 0 (omega arith) (omega arith)) refl
quotient-exact (pos (suc a)) (negsuc b) nonzero h = let e : suc a % suc b ≡ 0 = cc in rw (div-suc_exact a b e) refl
quotient-exact (negsuc a) (negsuc b) nonzero h = refl

-- where the signs differ and there is a remainder, rounding toward zero is rounding up
pub quotient-up : (x y : ℤ) → y ≢ pos 0 → int_rem x y ≢ pos 0 → OnTrue (not (beq (not (non_neg x)) (not (non_neg y)))) (quotient_toward_zero x y ≡ quotient_down x y +ℤ pos 1)
quotient-up (pos a) (pos b) nonzero h = tt
quotient-up (negsuc a) (pos zero) nonzero h = absurd (nonzero refl)
quotient-up (negsuc a) (pos (suc b)) nonzero h =
    let ne : suc a % suc b ≢ 0 = λ e. h (ap (λ n. neg_ℤ (pos n)) e) in rw (div-suc_inexact a b ne) (neg-pos (a / suc b))
quotient-up (pos zero) (negsuc b) nonzero h = absurd (h (ap pos (mod-eq_of_lt (omega arith))))
quotient-up (pos (suc a)) (negsuc b) nonzero h =
    let ne : suc a % suc b ≢ 0 = λ e. h (ap pos e) in rw (div-suc_inexact a b ne) (neg-pos (a / suc b))
quotient-up (negsuc a) (negsuc b) nonzero h = tt

-- the host's remainder is that of its quotient
pub remainder_toward_zero : (x y : ℤ) → remainder x y (quotient_toward_zero x y) ≡ int_rem x y
remainder_toward_zero x y = omega (arith, ints, quot-rem x y, *ℤ_comm y (int_div x y))

-- and a quotient that is less by 1 leaves a remainder that is more by the divisor
pub remainder_down : (x y q : ℤ) → quotient_toward_zero x y ≡ q +ℤ pos 1 → remainder x y q ≡ int_rem x y +ℤ y
remainder_down x y q h =
    let product : int_div x y *ℤ y ≡ q *ℤ y +ℤ y = ap (λ n. n *ℤ y) (h ∙ +ℤ_one q) ∙ suc_ℤ-*ℤ q y in
    omega (arith, ints, quot-rem x y, product, *ℤ_comm y q)
