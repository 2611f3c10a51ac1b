-- Tests of numbers, and of two tests joined.
use Rattle.std.proofs.Common.{◌≡◌, ◌≢◌, ◌⊎◌, inl, inr, ℕ, ◌<◌, ◌≤◌, Bool, true, false, refl, arith}
use Rattle.std.specs.Prelude.{◌==◌, ◌||◌, nat_le, nat_lt}
use Rattle.std.proofs.lemmas.Bool.Decides.{nat_tests}

pub alike : (a b : ℕ) → (a == b) ≡ true → a ≡ b
alike a b h = grind (arith, nat_tests, h)

pub unlike : (a b : ℕ) → a ≢ b → (a == b) ≡ false
unlike a b h = by (a == b) refl
  where
    by : (c : Bool) → (a == b) ≡ c → c ≡ false
    by true is = absurd (h (alike a b is))
    by false is = refl

pub itself : (a : ℕ) → (a == a) ≡ true
itself a = grind (arith, nat_tests)

pub under : (a b : ℕ) → nat_lt a b ≡ true → a < b
under a b h = grind (arith, nat_tests, h)

pub is_under : (a b : ℕ) → a < b → nat_lt a b ≡ true
is_under a b h = grind (arith, nat_tests, h)

pub at_least : (k : ℕ) → nat_le 8 k ≡ true → 8 ≤ k
at_least k h = grind (arith, nat_tests, h)
