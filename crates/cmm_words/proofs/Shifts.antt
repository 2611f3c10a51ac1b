-- Shifts by any count.
use Rattle.std.proofs.Common.{◌≡◌, ℕ, ◌+◌, ◌-◌, ◌*◌, ◌/◌, ◌%◌, ◌^◌, ◌<◌, ◌≤◌, min, arith, ℤ, pos, negsuc, ap, sym, ◌∙◌, add-zero, ⊎_elim, one-mul, mul_assoc, pow_mono, lt_of_lt_of_le}
use Rattle.std.proofs.lemmas.Nat.{mod-mul-add, pow_pos, pow-add, div_below}
use Rattle.std.proofs.lemmas.Bool.{cases_lt}
use lib.Signed.{mag}
use Rattle.cmm_words.specs.Integers.{rounded_down}

-- a multiple leaves no remainder
pub mul-mod : (a k : ℕ) → a * 2 ^ k % 2 ^ k ≡ 0
mul-mod a k = ap (λ n. n % 2 ^ k) (sym (add-zero (a * 2 ^ k))) ∙ mod-mul-add a (2 ^ k) 0 (pow_pos k)

-- what is shifted to the left by k or more has no low k bits
pub shl-mod_past : (k a b : ℕ) → k ≤ b → a * 2 ^ b % 2 ^ k ≡ 0
shl-mod_past k a b h =
    let split : b ≡ b - k + k = omega arith in
    let whole : a * 2 ^ b ≡ a * 2 ^ (b - k) * 2 ^ k =
    ap (λ c. a * 2 ^ c) split ∙ ap (λ n. a * n) (pow-add 2 (b - k) k) ∙ sym (mul_assoc a (2 ^ (b - k)) (2 ^ k)) in
    ap (λ n. n % 2 ^ k) whole ∙ mul-mod (a * 2 ^ (b - k)) k

-- what is shifted to the right by k or more is 0
pub shr_past : (k n b : ℕ) → n < 2 ^ k → k ≤ b → n / 2 ^ b ≡ 0
shr_past k n b h past =
    let below : n < 1 * 2 ^ b = rw (one-mul (2 ^ b)) (lt_of_lt_of_le h (pow_mono past)) in
    let none : n / 2 ^ b < 1 = div_below n (2 ^ b) 1 (pow_pos b) below in
    omega arith

-- a count that stops at k shifts as the count itself
pub shl-min : (k a b : ℕ) → a * 2 ^ min b k % 2 ^ k ≡ a * 2 ^ b % 2 ^ k
shl-min k a b = ⊎_elim within past (cases_lt b k) where
  within : b < k → a * 2 ^ min b k % 2 ^ k ≡ a * 2 ^ b % 2 ^ k
  within h = let e : min b k ≡ b = omega arith in ap (λ c. a * 2 ^ c % 2 ^ k) e

  past : k ≤ b → a * 2 ^ min b k % 2 ^ k ≡ a * 2 ^ b % 2 ^ k
  past h = let e : min b k ≡ k = omega arith in
      ap (λ c. a * 2 ^ c % 2 ^ k) e ∙ mul-mod a k ∙ sym (shl-mod_past k a b h)

pub shr-min : (k n b : ℕ) → n < 2 ^ k → n / 2 ^ min b k ≡ n / 2 ^ b
shr-min k n b below = ⊎_elim within past (cases_lt b k) where
  within : b < k → n / 2 ^ min b k ≡ n / 2 ^ b
  within h = let e : min b k ≡ b = omega arith in ap (λ c. n / 2 ^ c) e

  past : k ≤ b → n / 2 ^ min b k ≡ n / 2 ^ b
  past h = let e : min b k ≡ k = omega arith in let here : k ≤ k = omega arith in
      ap (λ c. n / 2 ^ c) e ∙ shr_past k n k below here ∙ sym (shr_past k n b below h)

pub rounded_down-min : (k : ℕ) (z : ℤ) (b : ℕ) → mag z < 2 ^ k → rounded_down z (2 ^ min b k) ≡ rounded_down z (2 ^ b)
rounded_down-min k (pos n) b below = ap pos (shr-min k n b below)
rounded_down-min k (negsuc n) b below = ap negsuc (shr-min k n b below)

-- and what is past k shifts as k itself
pub rounded_down_past : (k : ℕ) (z : ℤ) (b : ℕ) → mag z < 2 ^ k → k ≤ b → rounded_down z (2 ^ b) ≡ rounded_down z (2 ^ k)
rounded_down_past k (pos n) b below past = let here : k ≤ k = omega arith in ap pos (shr_past k n b below past ∙ sym (shr_past k n k below here))
rounded_down_past k (negsuc n) b below past = let here : k ≤ k = omega arith in ap negsuc (shr_past k n b below past ∙ sym (shr_past k n k below here))
