-- Places of eight bytes that are apart.
use Rattle.std.proofs.Common.{◌≡◌, ℕ, zero, suc, ◌+◌, ◌≤◌, arith, List, [], ◌∷◌, Some, subst}
use Rattle.std.specs.Prelude.{slice_get}
use Rattle.cmm_items.specs.Apart.{AreApart}

module _ {A : Type 0} (place : A → ℕ) where
  -- all end within the bytes
  pub apart_end : (from size : ℕ) (fixes : List A) → AreApart place from fixes size → from ≤ size
  apart_end from size [] apart = apart
  apart_end from size (f ∷ fixes) apart = let e = apart_end (place f + 8) size fixes apart.1 in omega (arith, e, apart.0)

  pub apart_within : (from size i : ℕ) (fixes : List A) (f : A) → AreApart place from fixes size → slice_get fixes i ≡ Some f → place f + 8 ≤ size
  apart_within from size i [] f apart is = absurd (cc)
  apart_within from size zero (g ∷ fixes) f apart is =
      let same : g ≡ f = cc in
      subst (λ (h : A). place h + 8 ≤ size) same (apart_end (place g + 8) size fixes apart.1)
  apart_within from size (suc i) (g ∷ fixes) f apart is = apart_within (place g + 8) size i fixes f apart.1 is

  -- those that follow a place that lies no later
  pub apart_later : (from at size : ℕ) (fixes : List A) → from ≤ at → AreApart place at fixes size → AreApart place from fixes size
  apart_later from at size [] less apart = omega (arith, less, apart)
  apart_later from at size (f ∷ fixes) less apart = (omega (arith, less, apart.0), apart.1)
