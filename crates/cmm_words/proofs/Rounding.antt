-- Division rounded down, by division rounded toward zero.
use Rattle.std.proofs.Common.{◌≡◌, ◌≢◌, ℕ, zero, suc, ◌-◌, ◌^◌, ◌<◌, arith, ℤ, pos, negsuc, neg_ℤ, ◌+ℤ◌, ◌-ℤ◌, int_rem, int_lt, Bool, true, false, not, cond, ◌==◌, ◌&&◌, Some, None, ap, sym, ◌∙◌, refl, ⊎_elim, lt_of_le_of_lt, mod-eq_of_lt, true≢false, subst}
use Rattle.std.proofs.lemmas.Bool.{cases_eq}
use Rattle.std.proofs.lemmas.Bool.Decides.{nat_tests}
use Rattle.std.proofs.lemmas.Int.{ints}
use Rattle.std.proofs.lemmas.Nat.{pow_pos}
use Rattle.std.specs.Bool.{OnTrue, OnFalse}
use mathlib.Core.Bool.{beq}
use lib.Signed.{mag_rem, non_neg}
use Rattle.cmm_words.specs.declared.width.Width.{Width}
use Rattle.cmm_words.specs.declared.operators.Cmp.TheVariants.{Lt}
use Rattle.cmm_words.specs.declared.operators.Op2.TheVariants.{Add, Sub, Div, Mod, Quot, Rem}
use Rattle.cmm_words.specs.Widths.{bits, IsWord}
use Rattle.cmm_words.specs.Integers.{signed, wrapped, quotient_down, quotient_toward_zero, remainder}
use Rattle.cmm_words.specs.Words.{value2, divided, holds}
use Rattle.cmm_words.specs.Laws.{is_rounded_up, DivFromQuot, ModFromRem}
use Rattle.cmm_words.proofs.Quotients.{int_lt-zero, quotient-exact, quotient-up, remainder_toward_zero, remainder_down}
use Rattle.cmm_words.proofs.SignedReadings.{wrapped-signed, signed-wrapped, signed_fits, signed_low}
use Rattle.cmm_words.proofs.Wrapping.{wrapped-below}
use Rattle.cmm_words.proofs.Sums.{wrapped-add}
use Rattle.cmm_words.proofs.WidthLemmas.{positive_bits}

-- ---- over integers

-- a remainder that isn't 0 has the dividend's sign
negative : (m : ℕ) → neg_ℤ (pos m) ≢ pos 0 → not (non_neg (neg_ℤ (pos m))) ≡ true
negative zero h = absurd (h refl)
negative (suc m) h = refl

sign_rem : (x y : ℤ) → int_rem x y ≢ pos 0 → int_lt (int_rem x y) (pos 0) ≡ not (non_neg x)
sign_rem (pos a) y h = int_lt-zero (int_rem (pos a) y)
sign_rem (negsuc a) y h = int_lt-zero (int_rem (negsuc a) y) ∙ negative _ h

-- where the signs are the same, both quotients are
quotient-same : (x y : ℤ) → OnFalse (not (beq (not (non_neg x)) (not (non_neg y)))) (quotient_toward_zero x y ≡ quotient_down x y)
quotient-same (pos a) (pos b) = refl
quotient-same (pos a) (negsuc b) = tt
quotient-same (negsuc a) (pos b) = tt
quotient-same (negsuc a) (negsuc b) = refl

-- ---- over words

-- a division that has a value
divided-some : (b v r : ℕ) → divided b v ≡ Some r → (b ≢ 0) × (v ≡ r)
divided-some b v r e = by (b == 0) refl e where
  by : (test : Bool) → (b == 0) ≡ test → cond test None (Some v) ≡ Some r → (b ≢ 0) × (v ≡ r)
  by true is e = absurd (cc)
  by false is e = (λ zero. absurd (true≢false (sym (ap (λ n. n == 0) zero) ∙ is)), cc)

divided-nonzero : (b v : ℕ) → b ≢ 0 → divided b v ≡ Some v
divided-nonzero b v h = let no : (b == 0) ≡ false = grind (arith, nat_tests) in rw no refl

module _ (w : Width) (a b r : ℕ) (ha : IsWord w a) (hb : IsWord w b) (has : value2 Rem w a b ≡ Some r) where
  abbrev k : ℕ
  k = bits w

  abbrev x : ℤ
  x = signed k a

  abbrev y : ℤ
  y = signed k b

  -- a test that tells whether the quotient toward zero was rounded up
  abbrev Tells : Bool → Type 0
  Tells up = OnTrue up (quotient_toward_zero x y ≡ quotient_down x y +ℤ pos 1) × OnFalse up (quotient_toward_zero x y ≡ quotient_down x y)

  nonzero : b ≢ 0
  nonzero = (divided-some b (wrapped k (remainder x y (quotient_toward_zero x y))) r has).0

  -- r is the host's remainder, as a word
  rest_is : wrapped k (int_rem x y) ≡ r
  rest_is = ap (wrapped k) (sym (remainder_toward_zero x y)) ∙ (divided-some b (wrapped k (remainder x y (quotient_toward_zero x y))) r has).1

  divisor : y ≢ pos 0
  divisor e = nonzero (sym (wrapped-signed k b hb) ∙ ap (wrapped k) e ∙ mod-eq_of_lt (pow_pos k))

  -- and reads as it
  rest_read : signed k r ≡ int_rem x y
  rest_read = ap (signed k) (sym rest_is) ∙ signed-wrapped k (int_rem x y) (positive_bits w) (lt_of_le_of_lt (mag_rem x y) (signed_fits k a (positive_bits w) ha))

  zero_read : signed k 0 ≡ pos 0
  zero_read = signed_low k 0 (pow_pos (k - 1))

  -- the remainder does tell
  told : Tells (is_rounded_up w b r)
  told = ⊎_elim exact inexact (cases_eq r 0) where
    exact : r ≡ 0 → Tells (is_rounded_up w b r)
    exact e =
        let no_rest : int_rem x y ≡ pos 0 = sym rest_read ∙ ap (signed k) e ∙ zero_read in
        let test : is_rounded_up w b r ≡ false = ap (λ n. not (n == 0) && not (beq (holds Lt w r 0) (holds Lt w b 0))) e in
        rw test (tt, quotient-exact x y divisor no_rest)

    inexact : r ≢ 0 → Tells (is_rounded_up w b r)
    inexact h =
        let rest : int_rem x y ≢ pos 0 = λ e. h (sym rest_is ∙ ap (wrapped k) e ∙ mod-eq_of_lt (pow_pos k)) in
        let no : (r == 0) ≡ false = grind (arith, nat_tests) in
        let test : is_rounded_up w b r ≡ not (beq (not (non_neg x)) (not (non_neg y))) = rw (no, rest_read, zero_read, sign_rem x y rest, int_lt-zero y) refl in
        rw test (quotient-up x y divisor rest, quotient-same x y)

  -- the quotient rounded down
  subtracted : (q : ℕ) → value2 Quot w a b ≡ Some q → value2 Div w a b ≡ cond (is_rounded_up w b r) (value2 Sub w q 1) (Some q)
  subtracted q e = by (is_rounded_up w b r) told where
    is_q : wrapped k (quotient_toward_zero x y) ≡ q
    is_q = (divided-some b (wrapped k (quotient_toward_zero x y)) q e).1

    by : (up : Bool) → Tells up → value2 Div w a b ≡ cond up (value2 Sub w q 1) (Some q)
    by true is =
        let less : quotient_down x y ≡ quotient_toward_zero x y -ℤ pos 1 = omega (arith, ints, is.0) in
        let below : q < 2 ^ k = subst (λ (n : ℕ). n < 2 ^ k) is_q (wrapped-below k (quotient_toward_zero x y)) in
        divided-nonzero b (wrapped k (quotient_down x y)) nonzero
        ∙ ap Some (ap (wrapped k) less ∙ wrapped-add k (quotient_toward_zero x y) (negsuc 0)
        ∙ rw (is_q) (sym (wrapped-add k (pos q) (negsuc 0) ∙ rw (mod-eq_of_lt below) refl)))
    by false is = divided-nonzero b (wrapped k (quotient_down x y)) nonzero ∙ ap Some (ap (wrapped k) (sym is.1) ∙ is_q)

  -- the remainder rounded down
  added : value2 Mod w a b ≡ cond (is_rounded_up w b r) (value2 Add w r b) (Some r)
  added = by (is_rounded_up w b r) told where
    by : (up : Bool) → Tells up → value2 Mod w a b ≡ cond up (value2 Add w r b) (Some r)
    by true is =
        divided-nonzero b (wrapped k (remainder x y (quotient_down x y))) nonzero
        ∙ ap Some (ap (wrapped k) (remainder_down x y (quotient_down x y) is.0) ∙ wrapped-add k (int_rem x y) y ∙ rw (rest_is, wrapped-signed k b hb) refl)
    by false is =
        divided-nonzero b (wrapped k (remainder x y (quotient_down x y))) nonzero
        ∙ ap Some (ap (λ z. wrapped k (remainder x y z)) (sym is.1) ∙ ap (wrapped k) (remainder_toward_zero x y) ∙ rest_is)

pub div_from_quot : DivFromQuot
div_from_quot w a b q r ha hb quot rem = subtracted w a b r ha hb rem q quot

pub mod_from_rem : ModFromRem
mod_from_rem w a b r ha hb rem = added w a b r ha hb rem
