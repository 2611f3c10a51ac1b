-- Rows of sites that are sorted by addresses, of which no two are the same, ascend; and the addresses of a text are so.
use Rattle.std.proofs.Common.{◌≡◌, ◌⊎◌, inl, inr, ℕ, zero, suc, ◌+◌, ◌<◌, refl, sym, ◌∙◌, ap, subst, arith, Bool, true, false, List, [], ◌∷◌, ◌++◌, length, get_or, map, Some, slice_get}
use Rattle.std.specs.Prelude.{◌==◌, nat_lt}
use Rattle.std.specs.List.{IsDistinct, concat}
use Rattle.std.specs.List.Sorted.{IsSortedBy}
use Rattle.std.specs.Ordering.{is_lt, nat_cmp}
use Rattle.std.proofs.lemmas.Bool.{eqb-true, and_from}
use Rattle.std.proofs.lemmas.Bool.Decides.{nat_tests}
use Rattle.std.proofs.lemmas.List.{get_or-map, length-map}
use Rattle.std.proofs.lemmas.Map.Keys.{IsDistinct-from_apart, IsDistinct-tail, apart_from_distinct}
use Rattle.std.proofs.lemmas.Option.{slice_get-get_or}
use Rattle.cmm_image.specs.declared.rows.SiteRow.{SiteRow}
use Rattle.cmm_unit_code.specs.Texts.{AreDistinct, address_in, ascend_above}
use Rattle.cmm_link.specs.inside.Ascending.{has_lower_address, same_address}

above_it : (a b : ℕ) → is_lt (nat_cmp b a) ≡ false → (a == b) ≡ false → a < b
above_it a b low differ = grind (arith, nat_tests, low, differ)

pub ascends : (rows : List SiteRow) (before : ℕ) → IsSortedBy has_lower_address rows → IsDistinct same_address rows →
    ((d : SiteRow) → 0 < length rows → before < (get_or rows 0 d).return_address) →
    ascend_above before (map (λ row. row.return_address) rows) ≡ true
ascends [] before sorted apart first = refl
ascends (row ∷ rows) before sorted apart first =
    let less = first row (omega arith) in
    let test : nat_lt before row.return_address ≡ true = grind (arith, nat_tests, less) in
    and_from (nat_lt before row.return_address) (ascend_above row.return_address (map (λ row. row.return_address) rows)) test
    (ascends rows row.return_address
    (λ k d low inside.
    let e : suc k + 1 ≡ suc (k + 1) = omega arith in
    subst (λ (m : ℕ). has_lower_address (get_or (row ∷ rows) m d) (get_or rows k d) ≡ false) e (sorted (suc k) d (omega arith) (omega (arith, inside))))
    (IsDistinct-tail same_address row rows apart)
    (λ d inside.
    above_it row.return_address (get_or rows 0 d).return_address (sorted 0 d (omega arith) (omega (arith, inside)))
    (apart_from_distinct same_address (row ∷ rows) 0 1 d apart (omega arith) (omega (arith, inside)))))

-- ---- the addresses of a text

-- where an address stands among all
abbrev index_of : List (List ℕ) → ℕ → ℕ → ℕ
index_of [] q n = n
index_of (own ∷ sites) zero n = n
index_of (own ∷ sites) (suc q) n = length own + index_of sites q n

record IsSiteOf (sites : List (List ℕ)) (i a : ℕ) : Type 0 where
  pub procedure : ℕ
  pub number : ℕ
  pub is : address_in sites procedure number ≡ Some a
  pub index : i ≡ index_of sites procedure number

in_front : (own : List ℕ) (rest : List ℕ) (i a : ℕ) → slice_get (own ++ rest) i ≡ Some a → (slice_get own i ≡ Some a) ⊎ ((k : ℕ) × (i ≡ length own + k) × (slice_get rest k ≡ Some a))
in_front [] rest i a is = inr (i, omega arith, is)
in_front (x ∷ own) rest zero a is = inl is
in_front (x ∷ own) rest (suc i) a is =
    elim (in_front own rest i a is) [ inl here ↦ inl here | inr there ↦ inr (there.0, (let same = there.1 in omega (arith, same)), there.2) ]

site_of : (sites : List (List ℕ)) (i a : ℕ) → slice_get (concat sites) i ≡ Some a → IsSiteOf sites i a
site_of [] i a is = absurd (cc)
site_of (own ∷ sites) i a is = by (in_front own (concat sites) i a is) (λ k there. site_of sites k a there)
  where
    by : (slice_get own i ≡ Some a) ⊎ ((k : ℕ) × (i ≡ length own + k) × (slice_get (concat sites) k ≡ Some a)) →
        ((k : ℕ) → slice_get (concat sites) k ≡ Some a → IsSiteOf sites k a) → IsSiteOf (own ∷ sites) i a
    by (inl here) later = record { procedure = 0; number = i; is = here; index = refl }
    by (inr there) later =
        let rest = later there.0 there.2 in
        record { procedure = suc rest.procedure; number = rest.number; is = rest.is; index = let same = there.1 in let index = rest.index in omega (arith, same, index) }

-- no two of them are the same
pub addresses_apart : (sites : List (List ℕ)) → AreDistinct sites → (i j : ℕ) (d : ℕ) → i < j → j < length (concat sites) →
    (get_or (concat sites) i d == get_or (concat sites) j d) ≡ false
addresses_apart sites distinct i j d less inside = by (a == b) refl
  where
    a : ℕ
    a = get_or (concat sites) i d

    b : ℕ
    b = get_or (concat sites) j d

    by : (test : Bool) → (a == b) ≡ test → test ≡ false
    by false is = refl
    by true is =
        let same : a ≡ b = eqb-true a b is in
        let one = site_of sites i a (slice_get-get_or (concat sites) i d (omega (arith, less, inside))) in
        let two = site_of sites j a (slice_get-get_or (concat sites) j d inside ∙ ap Some (sym same)) in
        let both = distinct one.procedure two.procedure one.number two.number a one.is two.is in
        let index = one.index in
        let other = two.index in
        let here : index_of sites one.procedure one.number ≡ index_of sites two.procedure two.number =
        ap (λ (q : ℕ). index_of sites q one.number) both.0 ∙ ap (λ (n : ℕ). index_of sites two.procedure n) both.1 in
        absurd (omega (arith, index, other, here, less))

-- so no two rows that have them are
pub rows_apart : (sites : List (List ℕ)) (rows : List SiteRow) → AreDistinct sites → map (λ row. row.return_address) rows ≡ concat sites → IsDistinct same_address rows
rows_apart sites rows distinct are =
    IsDistinct-from_apart same_address rows (λ i j d less inside.
    let make = λ (row : SiteRow). row.return_address in
    let count : length (concat sites) ≡ length rows = ap (λ (ns : List ℕ). length ns) (sym are) ∙ length-map rows make in
    let one : get_or (concat sites) i (make d) ≡ make (get_or rows i d) =
    ap (λ (ns : List ℕ). get_or ns i (make d)) (sym are) ∙ get_or-map make rows i d (make d) (omega (arith, less, inside)) in
    let two : get_or (concat sites) j (make d) ≡ make (get_or rows j d) =
    ap (λ (ns : List ℕ). get_or ns j (make d)) (sym are) ∙ get_or-map make rows j d (make d) inside in
    subst (λ (n : ℕ). (make (get_or rows i d) == n) ≡ false) two
    (subst (λ (n : ℕ). (n == get_or (concat sites) j (make d)) ≡ false) one (addresses_apart sites distinct i j (make d) less (omega (arith, count, inside)))))

pub flips : (a b : SiteRow) → same_address a b ≡ same_address b a
flips a b = by (a.return_address == b.return_address) refl (b.return_address == a.return_address) refl
  where
    by : (x : Bool) → (a.return_address == b.return_address) ≡ x → (y : Bool) → (b.return_address == a.return_address) ≡ y → x ≡ y
    by true is true also = refl
    by false is false also = refl
    by true is false also = absurd (let same = eqb-true a.return_address b.return_address is in let one : (b.return_address == b.return_address) ≡ false = subst (λ (n : ℕ). (b.return_address == n) ≡ false) same also in grind (arith, nat_tests, one))
    by false is true also = absurd (let same = eqb-true b.return_address a.return_address also in let one : (a.return_address == a.return_address) ≡ false = subst (λ (n : ℕ). (a.return_address == n) ≡ false) same is in grind (arith, nat_tests, one))
