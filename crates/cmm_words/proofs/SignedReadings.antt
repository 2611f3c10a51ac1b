-- The signed reading of a word, and back.
use Rattle.std.proofs.Common.{◌≡◌, ℕ, zero, suc, ◌-◌, ◌*◌, ◌%◌, ◌^◌, ◌<◌, ◌≤◌, arith, ℤ, pos, negsuc, ap, ◌∙◌, ⊎_elim, mod-eq_of_lt, pow-suc, nat_lt, false}
use Rattle.std.proofs.lemmas.Bool.{cases_lt}
use Rattle.std.proofs.lemmas.Bool.Decides.{nat_tests}
use Rattle.std.proofs.lemmas.Int.{ints}
use Rattle.std.proofs.lemmas.Nat.{pow_pos}
use lib.Signed.{mag}
use Rattle.cmm_words.specs.Integers.{signed, wrapped}

-- half of a power, as the signed reading takes it
half : (k : ℕ) → 0 < k → 2 ^ k ≡ 2 * 2 ^ (k - 1)
half zero h = absurd (omega arith)
half (suc k) h = let e : suc k - 1 ≡ k = omega arith in rw e (omega (arith, pow-suc 2 k))

-- a word whose top bit is 0 is read as itself
pub signed_low : (k a : ℕ) → a < 2 ^ (k - 1) → signed k a ≡ pos a
signed_low k a h = grind (arith, nat_tests)

-- and another one by how far it is below 2 ^ k
pub signed_high : (k a : ℕ) → 2 ^ (k - 1) ≤ a → a < 2 ^ k → signed k a ≡ negsuc (2 ^ k - suc a)
signed_high k a h below =
    let top : nat_lt a (2 ^ (k - 1)) ≡ false = grind (arith, nat_tests) in rw top (omega (arith, ints))

-- the signed reading, modulo 2 ^ k, is the word
pub wrapped-signed : (k a : ℕ) → a < 2 ^ k → wrapped k (signed k a) ≡ a
wrapped-signed k a below = ⊎_elim low high (cases_lt a (2 ^ (k - 1))) where
  low : a < 2 ^ (k - 1) → wrapped k (signed k a) ≡ a
  low h = ap (wrapped k) (signed_low k a h) ∙ mod-eq_of_lt below

  high : 2 ^ (k - 1) ≤ a → wrapped k (signed k a) ≡ a
  high h = let small : 2 ^ k - suc a < 2 ^ k = omega arith in
      let kept : (2 ^ k - suc a) % 2 ^ k ≡ 2 ^ k - suc a = mod-eq_of_lt small in
      ap (wrapped k) (signed_high k a h below) ∙ omega arith

-- a signed number that fits k bits is the signed reading of its word
pub signed-wrapped : (k : ℕ) (z : ℤ) → 0 < k → mag z < 2 ^ (k - 1) → signed k (wrapped k z) ≡ z
signed-wrapped k (pos n) positive fits =
    let kept : n % 2 ^ k ≡ n = mod-eq_of_lt (omega (arith, half k positive)) in
    ap (signed k) kept ∙ signed_low k n fits
signed-wrapped k (negsuc n) positive fits =
    let kept : n % 2 ^ k ≡ n = mod-eq_of_lt (omega (arith, half k positive)) in
    let word : wrapped k (negsuc n) ≡ 2 ^ k - suc n = omega arith in
    let top : 2 ^ (k - 1) ≤ 2 ^ k - suc n = omega (arith, half k positive) in
    let below : 2 ^ k - suc n < 2 ^ k = omega (arith, pow_pos k) in
    let back : 2 ^ k - suc (2 ^ k - suc n) ≡ n = omega (arith, half k positive) in
    ap (signed k) word ∙ signed_high k (2 ^ k - suc n) top below ∙ ap negsuc back

-- the signed reading fits k bits
pub signed_fits : (k a : ℕ) → 0 < k → a < 2 ^ k → mag (signed k a) < 2 ^ (k - 1)
signed_fits k a positive below = ⊎_elim low high (cases_lt a (2 ^ (k - 1))) where
  low : a < 2 ^ (k - 1) → mag (signed k a) < 2 ^ (k - 1)
  low h = rw (signed_low k a h) h

  high : 2 ^ (k - 1) ≤ a → mag (signed k a) < 2 ^ (k - 1)
  high h = rw (signed_high k a h below) (omega (arith, half k positive))
