-- The sites of units whose codes stand one behind another.
use Rattle.std.proofs.Common.{◌≡◌, ◌⊎◌, inl, inr, ℕ, zero, suc, ◌+◌, ◌<◌, ◌≤◌, ◌∙◌, ap, arith, List, [], ◌∷◌, ◌++◌, length, map, Some, slice_get}
use Rattle.std.specs.Prelude.{option_map}
use Rattle.std.proofs.lemmas.Option.{slice_get-map}
use Rattle.cmm_unit_code.specs.Texts.{AreDistinct, address_in}
use Rattle.cmm_emit.proofs.UnitSites.{made_of}

-- a site in two lists is in one of them
pub in_one : (xs ys : List (List ℕ)) (q n a : ℕ) → address_in (xs ++ ys) q n ≡ Some a →
    ((q < length xs) × (address_in xs q n ≡ Some a)) ⊎ ((r : ℕ) × (q ≡ length xs + r) × (address_in ys r n ≡ Some a))
in_one [] ys q n a is = inr (q, omega arith, is)
in_one (x ∷ xs) ys zero n a is = inl (omega arith, is)
in_one (x ∷ xs) ys (suc q) n a is =
    elim (in_one xs ys q n a is) [
      | inl here ↦ inl ((let less = here.0 in omega (arith, less)), here.1)
      | inr there ↦ inr (there.0, (let same = there.1 in omega (arith, same)), there.2)
    ]

abbrev pub moved : ℕ → List (List ℕ) → List (List ℕ)
moved at sites = map (λ offsets. map (λ offset. at + offset) offsets) sites

-- where sites stand higher, by so much
pub record IsMoved (at : ℕ) (sites : List (List ℕ)) (q n a : ℕ) : Type 0 where
  pub offset : ℕ
  pub is_site : address_in sites q n ≡ Some offset
  pub is : at + offset ≡ a

pub is_moved : (at : ℕ) (sites : List (List ℕ)) (q n a : ℕ) → address_in (moved at sites) q n ≡ Some a → IsMoved at sites q n a
is_moved at [] q n a is = absurd (cc)
is_moved at (x ∷ sites) zero n a is = let of = made_of (λ offset. at + offset) x n a is in record { offset = of.from; is_site = of.is_there; is = of.is }
is_moved at (x ∷ sites) (suc q) n a is = let rest = is_moved at sites q n a is in record { offset = rest.offset; is_site = rest.is_site; is = rest.is }

-- sites below an address, and others that are not
pub distinct_both : (at end : ℕ) (sites ys : List (List ℕ)) → AreDistinct sites → ((q n o : ℕ) → address_in sites q n ≡ Some o → at + o < end) →
    AreDistinct ys → ((q n a : ℕ) → address_in ys q n ≡ Some a → end ≤ a) → AreDistinct (moved at sites ++ ys)
distinct_both at end sites ys one below two above q r m n a here there =
    by (in_one (moved at sites) ys q m a here) (in_one (moved at sites) ys r n a there)
  where
    by : ((q < length (moved at sites)) × (address_in (moved at sites) q m ≡ Some a)) ⊎ ((z : ℕ) × (q ≡ length (moved at sites) + z) × (address_in ys z m ≡ Some a)) →
        ((r < length (moved at sites)) × (address_in (moved at sites) r n ≡ Some a)) ⊎ ((z : ℕ) × (r ≡ length (moved at sites) + z) × (address_in ys z n ≡ Some a)) → (q ≡ r) × (m ≡ n)
    by (inl first) (inl second) =
        let x = is_moved at sites q m a first.1 in
        let y = is_moved at sites r n a second.1 in
        let is_x = x.is in
        let is_y = y.is in
        let same : y.offset ≡ x.offset = omega (arith, is_x, is_y) in
        one q r m n x.offset x.is_site (y.is_site ∙ ap Some same)
    by (inl first) (inr second) =
        let x = is_moved at sites q m a first.1 in
        let is_x = x.is in
        let low = below q m x.offset x.is_site in
        let high = above second.0 n a second.2 in
        absurd (omega (arith, is_x, low, high))
    by (inr first) (inl second) =
        let y = is_moved at sites r n a second.1 in
        let is_y = y.is in
        let low = below r n y.offset y.is_site in
        let high = above first.0 m a first.2 in
        absurd (omega (arith, is_y, low, high))
    by (inr first) (inr second) =
        let both = two first.0 second.0 m n a first.2 second.2 in
        let same = both.0 in
        let is_q = first.1 in
        let is_r = second.1 in
        (omega (arith, same, is_q, is_r), both.1)

-- ---- where a site is, by its number

pub skip_sites : (xs ys : List (List ℕ)) (k n : ℕ) → address_in (xs ++ ys) (length xs + k) n ≡ address_in ys k n
skip_sites [] ys k n = ap (λ (m : ℕ). address_in ys m n) (omega arith)
skip_sites (x ∷ xs) ys k n =
    let e : suc (length xs) + k ≡ suc (length xs + k) = omega arith in
    rw e (skip_sites xs ys k n)

pub front_sites : (xs ys : List (List ℕ)) (k n a : ℕ) → address_in xs k n ≡ Some a → address_in (xs ++ ys) k n ≡ Some a
front_sites [] ys k n a is = absurd (cc)
front_sites (x ∷ xs) ys zero n a is = is
front_sites (x ∷ xs) ys (suc k) n a is = front_sites xs ys k n a is

pub map_there : {A B : Type 0} (f : A → B) (xs : List A) (k : ℕ) (x : A) → slice_get xs k ≡ Some x → slice_get (map f xs) k ≡ Some (f x)
map_there f xs k x is = slice_get-map f xs k ∙ ap (option_map f) is

pub site_there : (sites : List (List ℕ)) (k n : ℕ) (own : List ℕ) (a : ℕ) → slice_get sites k ≡ Some own → slice_get own n ≡ Some a → address_in sites k n ≡ Some a
site_there [] k n own a is there = absurd (cc (is))
site_there (x ∷ sites) zero n own a is there = let same : x ≡ own = cc in ap (λ (ns : List ℕ). slice_get ns n) same ∙ there
site_there (x ∷ sites) (suc k) n own a is there = site_there sites k n own a is there
