-- Sites that are sorted by their return addresses, no two of which are the same, stand in order.
use Rattle.std.proofs.Common.{◌≡◌, ◌⊎◌, inl, inr, ℕ, zero, suc, ◌+◌, ◌<◌, All, Bool, true, false, IsTrue, nat_eq, nat_lt, List, [], ◌∷◌, length, get_or, Option, Some, None, refl, sym, ap, subst, ◌∙◌, arith}
use Rattle.std.specs.List.{IsDistinct}
use Rattle.std.specs.List.Sorted.{IsPermutation, IsSortedBy}
use Rattle.std.specs.Ordering.{is_lt, nat_cmp}
use Rattle.std.proofs.lemmas.Bool.Decides.{nat_tests}
use Rattle.std.proofs.lemmas.List.Sorted.{All-permutation, IsPermutation-sym}
use Rattle.std.proofs.lemmas.Map.Keys.{IsDistinct-from_apart, IsDistinct-IsPermutation, IsDistinct-tail, apart_from_distinct}
use Rattle.cmm_image.specs.declared.rows.SiteRow.{SiteRow}
use Rattle.cmm_image.specs.SecondFormat.{in_order, put_in}
use Rattle.cmm_image.specs.inside.Records.{Apart, Distinct}
use Rattle.cmm_image.proofs.DistinctLaws.{order_rises}
use Rattle.cmm_image.proofs.OrderLaws.{Rising}

abbrev pub has_lower_address : SiteRow → SiteRow → Bool
has_lower_address a b = is_lt (nat_cmp a.return_address b.return_address)

abbrev same_address : SiteRow → SiteRow → Bool
same_address a b = nat_eq a.return_address b.return_address

-- ---- members

abbrev In : SiteRow → List SiteRow → Type 0
In s [] = ⊥
In s (t ∷ ts) = (s ≡ t) ⊎ In s ts

put_has : (s t : SiteRow) (ss : List SiteRow) → In t (s ∷ ss) → In t (put_in s ss)
put_has s t [] is = is
put_has s t (u ∷ us) is = by (nat_lt s.return_address u.return_address) refl (put_has s t us) is
  where
    by : (b : Bool) → nat_lt s.return_address u.return_address ≡ b → (In t (s ∷ us) → In t (put_in s us)) → In t (s ∷ u ∷ us) → In t (put_in s (u ∷ us))
    by true e rest is = rw e is
    by false e rest (inl same) = rw e (inr (rest (inl same)))
    by false e rest (inr (inl same)) = rw e (inl same)
    by false e rest (inr (inr there)) = rw e (inr (rest (inr there)))

put_only : (s t : SiteRow) (ss : List SiteRow) → In t (put_in s ss) → In t (s ∷ ss)
put_only s t [] is = is
put_only s t (u ∷ us) is = by (nat_lt s.return_address u.return_address) refl (put_only s t us) is
  where
    behind : In t (s ∷ us) → In t (s ∷ u ∷ us)
    behind (inl same) = inl same
    behind (inr there) = inr (inr there)

    split : (In t (put_in s us) → In t (s ∷ us)) → (t ≡ u) ⊎ In t (put_in s us) → In t (s ∷ u ∷ us)
    split rest (inl same) = inr (inl same)
    split rest (inr there) = behind (rest there)

    by : (b : Bool) → nat_lt s.return_address u.return_address ≡ b → (In t (put_in s us) → In t (s ∷ us)) → In t (put_in s (u ∷ us)) → In t (s ∷ u ∷ us)
    by true e rest is = rw e at is
    by false e rest is = split rest (rw e at is)

order_has : (t : SiteRow) (ss : List SiteRow) → In t ss → In t (in_order ss)
order_has t [] is = is
order_has t (s ∷ ss) (inl same) = put_has s t (in_order ss) (inl same)
order_has t (s ∷ ss) (inr there) = put_has s t (in_order ss) (inr (order_has t ss there))

order_only : (t : SiteRow) (ss : List SiteRow) → In t (in_order ss) → In t ss
order_only t [] is = is
order_only t (s ∷ ss) is = elim (put_only s t (in_order ss) is) [ inl same ↦ inl same | inr there ↦ inr (order_only t ss there) ]

in_self : (ss : List SiteRow) → All (λ s. In s ss) ss
in_self [] k d less = absurd (omega (arith, less))
in_self (s ∷ ss) zero d less = inl refl
in_self (s ∷ ss) (suc k) d less = inr (in_self ss k d (omega (arith, less)))

in_all : (P : SiteRow → Type 0) (ss : List SiteRow) → All P ss → (s : SiteRow) → In s ss → P s
in_all P [] all s is = absurd is
in_all P (t ∷ ts) all s (inl same) = subst P (sym same) (all 0 t (omega arith))
in_all P (t ∷ ts) all s (inr there) = in_all P ts (λ k d less. all (suc k) d (omega (arith, less))) s there

-- ---- lists that rise and have the same members

over_in : (a : ℕ) (s : SiteRow) (ss : List SiteRow) → Rising (Some a) ss → In s ss → a < s.return_address
over_in a s [] rises is = absurd is
over_in a s (t ∷ ts) rises (inl same) =
    let up : nat_lt a t.return_address ≡ true = rises.0 in
    let less : a < t.return_address = grind (arith, nat_tests, up) in
    subst (λ (u : SiteRow). a < u.return_address) (sym same) less
over_in a s (t ∷ ts) rises (inr there) =
    let up : nat_lt a t.return_address ≡ true = rises.0 in
    let later = over_in t.return_address s ts rises.1 there in
    grind (arith, nat_tests, up, later)

-- what is in a list behind its first, and is that first, stands twice
not_twice : (s t : SiteRow) (ss : List SiteRow) → Rising (Some t.return_address) ss → In s ss → s ≡ t → ⊥
not_twice s t ss rises there same =
    let over = over_in t.return_address s ss rises there in
    let e = ap (λ (u : SiteRow). u.return_address) same in
    omega (arith, over, e)

pub same_rising : (p q : Option ℕ) (xs ys : List SiteRow) → Rising p xs → Rising q ys → ((s : SiteRow) → In s xs → In s ys) → ((s : SiteRow) → In s ys → In s xs) → xs ≡ ys
same_rising p q [] [] up rises to back = refl
same_rising p q [] (y ∷ ys) up rises to back = absurd (back y (inl refl))
same_rising p q (x ∷ xs) [] up rises to back = absurd (to x (inl refl))
same_rising p q (x ∷ xs) (y ∷ ys) up rises to back =
    let head = first (to x (inl refl)) (back y (inl refl)) in
    let rest = same_rising (Some x.return_address) (Some y.return_address) xs ys up.1 rises.1
    (λ s is. behind s ys (λ same. not_twice s x xs up.1 is (same ∙ sym head)) (to s (inr is)))
    (λ s is. back_behind s xs (λ same. not_twice s y ys rises.1 is (same ∙ head)) (back s (inr is))) in
    rw (head, rest) refl
  where
    first : In x (y ∷ ys) → In y (x ∷ xs) → x ≡ y
    first (inl same) is = same
    first (inr there) (inl same) = sym same
    first (inr there) (inr here) =
        let over = over_in y.return_address x ys rises.1 there in
        let under = over_in x.return_address y xs up.1 here in
        absurd (omega (arith, over, under))

    behind : (s : SiteRow) (ts : List SiteRow) → (s ≡ y → ⊥) → In s (y ∷ ts) → In s ts
    behind s ts not_first (inl same) = absurd (not_first same)
    behind s ts not_first (inr there) = there

    back_behind : (s : SiteRow) (ts : List SiteRow) → (s ≡ x → ⊥) → In s (x ∷ ts) → In s ts
    back_behind s ts not_first (inl same) = absurd (not_first same)
    back_behind s ts not_first (inr there) = there

-- ---- sorted lists rise

above_it : (a b : ℕ) → is_lt (nat_cmp b a) ≡ false → nat_eq a b ≡ false → IsTrue (nat_lt a b)
above_it a b low differ = grind (arith, nat_tests, low, differ)

rises_behind : (s : SiteRow) (ss : List SiteRow) → IsSortedBy has_lower_address (s ∷ ss) → IsDistinct same_address (s ∷ ss) → Rising (Some s.return_address) ss
rises_behind s [] sorted apart = tt
rises_behind s (t ∷ ts) sorted apart = (
  above_it s.return_address t.return_address (sorted 0 s (omega arith) (omega arith)) (apart_from_distinct same_address (s ∷ t ∷ ts) 0 1 s apart (omega arith) (omega arith)),
  rises_behind t ts
      (λ k d low inside.
      let e : suc k + 1 ≡ suc (k + 1) = omega arith in
      subst (λ (m : ℕ). has_lower_address (get_or (s ∷ t ∷ ts) m d) (get_or (t ∷ ts) k d) ≡ false) e (sorted (suc k) d (omega arith) (omega (arith, inside))))
      (IsDistinct-tail same_address s (t ∷ ts) apart),
)

rises_all : (ss : List SiteRow) → IsSortedBy has_lower_address ss → IsDistinct same_address ss → Rising None ss
rises_all [] sorted apart = tt
rises_all (s ∷ ss) sorted apart = (refl, rises_behind s ss sorted apart)

-- ---- distinct sites in std's words

apart_get : (a : ℕ) (sites : List SiteRow) (k : ℕ) (d : SiteRow) → Apart a sites → k < length sites → nat_eq a (get_or sites k d).return_address ≡ false
apart_get a [] k d apart less = absurd (omega (arith, less))
apart_get a (s ∷ ss) zero d apart less = apart.0
apart_get a (s ∷ ss) (suc k) d apart less = apart_get a ss k d apart.1 (omega (arith, less))

all_apart : (sites : List SiteRow) → Distinct sites → (i j : ℕ) (d : SiteRow) → i < j → j < length sites → same_address (get_or sites i d) (get_or sites j d) ≡ false
all_apart [] distinct i j d less inside = absurd (omega (arith, inside))
all_apart (s ∷ ss) distinct i zero d less inside = absurd (omega (arith, less))
all_apart (s ∷ ss) distinct zero (suc j) d less inside = apart_get s.return_address ss j d distinct.0 (omega (arith, inside))
all_apart (s ∷ ss) distinct (suc i) (suc j) d less inside = all_apart ss distinct.1 i j d (omega (arith, less)) (omega (arith, inside))

flips : (a b : SiteRow) → same_address a b ≡ same_address b a
flips a b = grind (arith, nat_tests)

-- what a sort makes of sites, no two of which have one return address
pub sorted_is : (xs ys : List SiteRow) → Distinct xs → IsPermutation xs ys → IsSortedBy has_lower_address ys → ys ≡ in_order xs
sorted_is xs ys distinct same sorted =
    let apart = IsDistinct-IsPermutation same_address flips xs ys same (IsDistinct-from_apart same_address xs (all_apart xs distinct)) in
    same_rising None None ys (in_order xs) (rises_all ys sorted apart) (order_rises xs distinct)
    (λ s is. order_has s xs (in_all (λ t. In t xs) ys (All-permutation (λ t. In t xs) xs ys same (in_self xs)) s is))
    (λ s is. in_all (λ t. In t ys) xs (All-permutation (λ t. In t ys) ys xs (IsPermutation-sym xs ys same) (in_self ys)) s (order_only s xs is))
