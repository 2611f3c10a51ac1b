-- Names in ascending order: the same names are among them, and there is one such order of them.
use Rattle.cmm_program.proofs.Shared.{or_left_comm}
use Rattle.std.proofs.Common.{◌≡◌, ℕ, refl, sym, ap, ◌∙◌, subst, Bool, true, false, ◌||◌, List, [], ◌∷◌, ◌++◌}
use Rattle.std.proofs.Math.Bool.{or_assoc, or_self_left}
use Rattle.std.specs.Prelude.{bytes_eq}
use Rattle.std.specs.List.{AllByRecursion}
use Rattle.std.specs.List.Sorted.{IsStrictlySortedBy}
use Rattle.std.specs.Cmp.Lexicographic.{slice_cmp}
use Rattle.std.specs.Ordering.{nat_cmp, is_eq, ordering_reverse}
use Rattle.std.specs.declared.cmp.Ordering.{Ordering}
use Rattle.std.specs.declared.cmp.Ordering.TheVariants.{Less, Equal, Greater}
use Rattle.std.proofs.lemmas.Cmp.{nat_list_cmp_total}
use Rattle.std.proofs.lemmas.Map.Text.{is_eq-slice_cmp}
use Rattle.std.proofs.lemmas.Slice.Eq.{bytes_eq-Decides}
use Rattle.cmm_static_semantics.specs.Linking.{is_among, put_among, in_order}

abbrev Name : Type 0
Name = List ℕ

abbrev Ascend : List Name → Type 0
Ascend = IsStrictlySortedBy (slice_cmp nat_cmp)

-- a name is below each of some
abbrev IsBelow : Name → List Name → Type 0
IsBelow name ns = AllByRecursion (λ n. slice_cmp nat_cmp name n ≡ Less) ns

one_name : (x y : Name) → slice_cmp nat_cmp x y ≡ Equal → x ≡ y
one_name x y is = (bytes_eq-Decides x y).0 (sym (is_eq-slice_cmp x y) ∙ ap is_eq is)

apart : (x y : Name) → slice_cmp nat_cmp x y ≡ Less → bytes_eq x y ≡ false
apart x y is = sym (is_eq-slice_cmp x y) ∙ ap is_eq is

turned : (x y : Name) → slice_cmp nat_cmp x y ≡ Greater → slice_cmp nat_cmp y x ≡ Less
turned x y is = nat_list_cmp_total.antisymm y x ∙ ap ordering_reverse is

-- ---- what is among them

among_put : (x name : Name) (ns : List Name) → is_among x (put_among name ns) ≡ (bytes_eq x name || is_among x ns)
among_put x name [] = refl
among_put x name (n ∷ ns) = by (slice_cmp nat_cmp name n) refl (among_put x name ns)
  where
    by : (o : Ordering) → slice_cmp nat_cmp name n ≡ o → is_among x (put_among name ns) ≡ (bytes_eq x name || is_among x ns) →
        is_among x (elim o as (λ _. List Name) [ Less ↦ name ∷ n ∷ ns | Equal ↦ n ∷ ns | Greater ↦ n ∷ put_among name ns ]) ≡ (bytes_eq x name || (bytes_eq x n || is_among x ns))
    by Less is later = refl
    by Equal is later = subst (λ (m : Name). is_among x (n ∷ ns) ≡ (bytes_eq x m || (bytes_eq x n || is_among x ns))) (sym (one_name name n is)) (sym (or_self_left (bytes_eq x n) (is_among x ns)))
    by Greater is later = ap (λ b. bytes_eq x n || b) later ∙ or_left_comm (bytes_eq x n) (bytes_eq x name) (is_among x ns)

pub among_append : (x : Name) (xs ys : List Name) → is_among x (xs ++ ys) ≡ (is_among x xs || is_among x ys)
among_append x [] ys = refl
among_append x (n ∷ xs) ys = ap (λ b. bytes_eq x n || b) (among_append x xs ys) ∙ sym (or_assoc (bytes_eq x n) (is_among x xs) (is_among x ys))

pub among_in_order : (x : Name) (names : List Name) → is_among x (in_order names) ≡ is_among x names
among_in_order x [] = refl
among_in_order x (name ∷ names) = among_put x name (in_order names) ∙ ap (λ b. bytes_eq x name || b) (among_in_order x names)

-- ---- what holds of each

module _ (P : Name → Type 0) where
  all_put : (name : Name) (ns : List Name) → P name → AllByRecursion P ns → AllByRecursion P (put_among name ns)
  all_put name [] here all = (here, tt)
  all_put name (n ∷ ns) here all = by (slice_cmp nat_cmp name n) (all_put name ns here all.1)
    where
      by : (o : Ordering) → AllByRecursion P (put_among name ns) → AllByRecursion P (elim o as (λ _. List Name) [ Less ↦ name ∷ n ∷ ns | Equal ↦ n ∷ ns | Greater ↦ n ∷ put_among name ns ])
      by Less later = (here, all)
      by Equal later = all
      by Greater later = (all.0, later)

  pub all_in_order : (names : List Name) → AllByRecursion P names → AllByRecursion P (in_order names)
  all_in_order [] all = tt
  all_in_order (name ∷ names) all = all_put name (in_order names) all.0 (all_in_order names all.1)

-- ---- they ascend

below_all : (x y : Name) (ns : List Name) → slice_cmp nat_cmp x y ≡ Less → IsBelow y ns → IsBelow x ns
below_all x y [] is all = tt
below_all x y (n ∷ ns) is all = (nat_list_cmp_total.trans x y n is all.0, below_all x y ns is all.1)

put_ascends : (name : Name) (ns : List Name) → Ascend ns → Ascend (put_among name ns)
unfolding IsStrictlySortedBy
put_ascends name [] up = (tt, tt)
put_ascends name (n ∷ ns) up = by (slice_cmp nat_cmp name n) refl (put_ascends name ns up.1)
  where
    by : (o : Ordering) → slice_cmp nat_cmp name n ≡ o → Ascend (put_among name ns) → Ascend (elim o as (λ _. List Name) [ Less ↦ name ∷ n ∷ ns | Equal ↦ n ∷ ns | Greater ↦ n ∷ put_among name ns ])
    by Less is later = ((is, below_all name n ns is up.0), up)
    by Equal is later = up
    by Greater is later = (all_put (λ m. slice_cmp nat_cmp n m ≡ Less) name ns (turned name n is) up.0, later)

pub in_order_ascends : (names : List Name) → Ascend (in_order names)
unfolding IsStrictlySortedBy
in_order_ascends [] = tt
in_order_ascends (name ∷ names) = put_ascends name (in_order names) (in_order_ascends names)

-- ---- and there is one such list of names

not_among : (x : Name) (ns : List Name) → IsBelow x ns → is_among x ns ≡ false
not_among x [] below = refl
not_among x (n ∷ ns) below = ap (λ b. b || is_among x ns) (apart x n below.0) ∙ not_among x ns below.1

rest_by : (b p q : Bool) → (b ≡ true → p ≡ false) → (b ≡ true → q ≡ false) → (b || p) ≡ (b || q) → p ≡ q
rest_by true p q none nor same = none refl ∙ sym (nor refl)
rest_by false p q none nor same = same

not_first : (x y : Name) (xs ys : List Name) → slice_cmp nat_cmp x y ≡ Less → IsBelow y ys → is_among x (x ∷ xs) ≡ is_among x (y ∷ ys) → ⊥
not_first x y xs ys less below same =
    let own : bytes_eq x x ≡ true = (bytes_eq-Decides x x).1 refl in
    let there : is_among x (y ∷ ys) ≡ true = sym same ∙ ap (λ b. b || is_among x xs) own in
    let none : is_among x (y ∷ ys) ≡ false = not_among x (y ∷ ys) (less, below_all x y ys less below) in
    let bad : false ≡ true = sym none ∙ there in cc

pub one_order : (xs ys : List Name) → Ascend xs → Ascend ys → ((x : Name) → is_among x xs ≡ is_among x ys) → xs ≡ ys
unfolding IsStrictlySortedBy
one_order [] [] up also same = refl
one_order [] (y ∷ ys) up also same =
    let own : bytes_eq y y ≡ true = (bytes_eq-Decides y y).1 refl in
    let bad : false ≡ true = same y ∙ ap (λ b. b || is_among y ys) own in absurd (cc)
one_order (x ∷ xs) [] up also same =
    let own : bytes_eq x x ≡ true = (bytes_eq-Decides x x).1 refl in
    let bad : false ≡ true = sym (same x) ∙ ap (λ b. b || is_among x xs) own in absurd (cc)
one_order (x ∷ xs) (y ∷ ys) up also same = by (slice_cmp nat_cmp x y) refl (one_order xs ys up.1 also.1)
  where
    by : (o : Ordering) → slice_cmp nat_cmp x y ≡ o → (((z : Name) → is_among z xs ≡ is_among z ys) → xs ≡ ys) → x ∷ xs ≡ y ∷ ys
    by Less is rest = absurd (not_first x y xs ys is also.0 (same x))
    by Greater is rest = absurd (not_first y x ys xs (turned x y is) up.0 (sym (same y)))
    by Equal is rest =
        let one : x ≡ y = one_name x y is in
        let below : IsBelow x ys = subst (λ (n : Name). IsBelow n ys) (sym one) also.0 in
        let others : xs ≡ ys = rest (λ z. rest_by (bytes_eq z x) (is_among z xs) (is_among z ys)
        (λ here. ap (λ (n : Name). is_among n xs) ((bytes_eq-Decides z x).0 here) ∙ not_among x xs up.0)
        (λ here. ap (λ (n : Name). is_among n ys) ((bytes_eq-Decides z x).0 here) ∙ not_among x ys below)
        (same z ∙ ap (λ (n : Name). bytes_eq z n || is_among z ys) (sym one))) in
        cc

-- names that ascend are those in order, whatever of the same names
pub is_in_order : (xs names : List Name) → Ascend xs → ((x : Name) → is_among x xs ≡ is_among x names) → xs ≡ in_order names
is_in_order xs names up same = one_order xs (in_order names) up (in_order_ascends names) (λ x. same x ∙ sym (among_in_order x names))

pub same_order : (xs ys : List Name) → ((x : Name) → is_among x xs ≡ is_among x ys) → in_order xs ≡ in_order ys
same_order xs ys same = is_in_order (in_order xs) ys (in_order_ascends xs) (λ x. among_in_order x xs ∙ same x)
