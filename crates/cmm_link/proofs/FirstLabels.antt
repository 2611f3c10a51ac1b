-- Each row of labels that is kept of sorted ones is the first of its name among those that were sorted; and so it has the address of the label that a client finds by the name.
use Rattle.std.proofs.Common.{◌≡◌, ℕ, suc, ◌&&◌, not, Bool, true, false, Option, Some, None, All, cond, filter, List, [], ◌∷◌, refl, ap, sym, ◌∙◌, subst, Ordering}
use Rattle.std.proofs.lemmas.Bool.{cond_both}
use Rattle.std.proofs.lemmas.Cmp.{nat_list_cmp_total}
use Rattle.std.proofs.lemmas.List.Elements.{All-cons, All-nil, All-weaker}
use Rattle.std.proofs.lemmas.Map.Text.{is_eq-slice_cmp}
use Rattle.std.proofs.lemmas.Slice.Eq.{bytes_eq-Decides}
use Rattle.std.specs.Cmp.Lexicographic.{slice_cmp}
use Rattle.std.specs.declared.cmp.Ordering.TheVariants.{Less, Equal, Greater}
use Rattle.std.specs.List.Sorted.{IsPermutation, IsStableBy, ties}
use Rattle.std.specs.Ordering.{is_eq, is_lt, nat_cmp, ordering_reverse}
use Rattle.std.specs.Prelude.{bytes_eq, find, slice_get, slice_index_or}
use Rattle.cmm_image.specs.declared.rows.LabelRow.{LabelRow}
use Rattle.cmm_image.specs.ImageFormat.{is_after}
use Rattle.cmm_link.specs.Labels.{AreLabelsOf, row_named}
use Rattle.cmm_link.specs.inside.Kept.{AreSorted, has_lower_name, kept_after}
use Rattle.cmm_link.proofs.KeptLabels.{Ordered, kept_ascend, kept_has_each, ordered, same_before}

-- ---- names that are after another

is_less : (o : Ordering) → is_lt o ≡ true → o ≡ Less
is_less Less is = refl
is_less Equal is = absurd (cc (is))
is_less Greater is = absurd (cc (is))

later_still : (a b c : List ℕ) → is_lt (slice_cmp nat_cmp a b) ≡ true → is_lt (slice_cmp nat_cmp b c) ≡ true → is_lt (slice_cmp nat_cmp a c) ≡ true
later_still a b c one two = ap is_lt (nat_list_cmp_total.trans a b c (is_less (slice_cmp nat_cmp a b) one) (is_less (slice_cmp nat_cmp b c) two))

abbrev IsAfter : List ℕ → LabelRow → Type 0
IsAfter before row = is_lt (slice_cmp nat_cmp before row.name) ≡ true

all_after : (before : List ℕ) (rows : List LabelRow) → All (IsAfter before) (kept_after (Some before) rows)
all_after before [] = All-nil (IsAfter before)
all_after before (row ∷ rows) =
    let behind = all_after row.name rows in
    let left = all_after before rows in
    cond_both (is_after (Some before) row.name) (row ∷ kept_after (Some row.name) rows) (kept_after (Some before) rows) (All (IsAfter before))
    (λ is. All-cons (IsAfter before) row (kept_after (Some row.name) rows) is
    (All-weaker (IsAfter row.name) (IsAfter before) (λ r after. later_still before row.name r.name is after) (kept_after (Some row.name) rows) behind))
    (λ is. left)

eq_not_less : (o : Ordering) → is_lt o ≡ true → is_eq o ≡ false
eq_not_less Less is = refl
eq_not_less Equal is = absurd (cc (is))
eq_not_less Greater is = absurd (cc (is))

-- a name that is after another is not that
other_name : (a b : List ℕ) → is_lt (slice_cmp nat_cmp a b) ≡ true → bytes_eq b a ≡ false
other_name a b after = by (bytes_eq b a) refl
  where
    by : (t : Bool) → bytes_eq b a ≡ t → t ≡ false
    by false is = refl
    by true is =
        let same : b ≡ a = (bytes_eq-Decides b a).0 is in
        let both : bytes_eq a b ≡ true = (bytes_eq-Decides a b).1 (sym same) in
        let not_same : is_eq (slice_cmp nat_cmp a b) ≡ false = eq_not_less (slice_cmp nat_cmp a b) after in
        let never : true ≡ false = sym both ∙ sym (is_eq-slice_cmp a b) ∙ not_same in absurd (cc (never))

-- ---- the first of a name

pub found_here : (name : List ℕ) (row : LabelRow) (rows : List LabelRow) → bytes_eq name row.name ≡ true → row_named (row ∷ rows) name ≡ Some row
found_here name row rows is = rw is refl

pub found_behind : (name : List ℕ) (row : LabelRow) (rows : List LabelRow) → bytes_eq name row.name ≡ false → row_named (row ∷ rows) name ≡ row_named rows name
found_behind name row rows is = rw is refl

abbrev IsFirst : List LabelRow → LabelRow → Type 0
IsFirst rows row = row_named rows row.name ≡ Some row

kept_first : (before : Option (List ℕ)) (rows : List LabelRow) → Ordered before rows → All (IsFirst rows) (kept_after before rows)
kept_first before [] ordered = All-nil (IsFirst [])
kept_first before (row ∷ rows) ordered =
    let behind = kept_first (Some row.name) rows ordered.1 in
    let Each : List LabelRow → Type 0 = All (IsFirst (row ∷ rows)) in
    cond_both (is_after before row.name) (row ∷ kept_after (Some row.name) rows) (kept_after before rows) Each
    (λ is. All-cons (IsFirst (row ∷ rows)) row (kept_after (Some row.name) rows) (found_here row.name row rows ((bytes_eq-Decides row.name row.name).1 refl)) (later row rows behind))
    (λ is. let same = same_before before row.name is ordered.0 in
    subst (λ (b : Option (List ℕ)). All (IsFirst (row ∷ rows)) (kept_after b rows)) (sym same) (later row rows behind))
  where
    later : (row : LabelRow) (rows : List LabelRow) → All (IsFirst rows) (kept_after (Some row.name) rows) → All (IsFirst (row ∷ rows)) (kept_after (Some row.name) rows)
    later row rows first =
        let after = all_after row.name rows in λ k d less.
        let kept = slice_index_or (kept_after (Some row.name) rows) k d in
        found_behind kept.name row rows (other_name row.name kept.name (after k d less)) ∙ first k d less

-- ---- rows that were sorted, and those from which they come

head_found : {A : Type 0} (p : A → Bool) (xs : List A) → find p xs ≡ slice_get (filter p xs) 0
head_found p [] = refl
head_found {A = A} p (x ∷ xs) = by (p x) refl (head_found p xs)
  where
    by : (b : Bool) → p x ≡ b → find p xs ≡ slice_get (filter p xs) 0 → find p (x ∷ xs) ≡ slice_get (filter p (x ∷ xs)) 0
    by true is rest = rw is refl
    by false is rest = rw is rest

filter_alike : {A : Type 0} (f g : A → Bool) (xs : List A) → ((x : A) → f x ≡ g x) → filter f xs ≡ filter g xs
filter_alike f g [] same = refl
filter_alike {A = A} f g (x ∷ xs) same =
    ap (λ (b : Bool). cond b (x ∷ filter f xs) (filter f xs)) (same x) ∙ ap (λ (rest : List A). cond (g x) (x ∷ rest) rest) (filter_alike f g xs same)

tied_names : (o p : Ordering) → o ≡ ordering_reverse p → (not (is_lt o) && not (is_lt p)) ≡ is_eq o
tied_names Less p back = refl
tied_names Equal Equal back = refl
tied_names Equal Less back = absurd (cc (back))
tied_names Equal Greater back = absurd (cc (back))
tied_names Greater Less back = refl
tied_names Greater Equal back = absurd (cc (back))
tied_names Greater Greater back = absurd (cc (back))

tied : (row other : LabelRow) → ties has_lower_name row other ≡ bytes_eq row.name other.name
tied row other =
    tied_names (slice_cmp nat_cmp row.name other.name) (slice_cmp nat_cmp other.name row.name) (nat_list_cmp_total.antisymm row.name other.name) ∙ is_eq-slice_cmp row.name other.name

-- the first of a name stays the first
same_first : (exported sorted : List LabelRow) → IsStableBy has_lower_name exported sorted → (row : LabelRow) → row_named sorted row.name ≡ row_named exported row.name
same_first exported sorted stable row =
    let named : LabelRow → Bool = λ other. bytes_eq row.name other.name in
    head_found named sorted
    ∙ ap (λ (rows : List LabelRow). slice_get rows 0)
    (sym (filter_alike (ties has_lower_name row) named sorted (tied row)) ∙ stable row ∙ filter_alike (ties has_lower_name row) named exported (tied row))
    ∙ sym (head_found named exported)

kept_are_first : (exported sorted : List LabelRow) → IsStableBy has_lower_name exported sorted → AreSorted sorted → All (IsFirst exported) (kept_after None sorted)
kept_are_first exported sorted stable up =
    All-weaker (IsFirst sorted) (IsFirst exported) (λ row first. sym (same_first exported sorted stable row) ∙ first) (kept_after None sorted)
    (kept_first None sorted (ordered sorted up))

pub found_among : (rows : List LabelRow) (name : List ℕ) (row : LabelRow) → row_named rows name ≡ Some row → (k : ℕ) × (slice_get rows k ≡ Some row)
found_among [] name row is = absurd (cc)
found_among (r ∷ rows) name row is = by (bytes_eq name r.name) refl (λ rest. found_among rows name row rest)
  where
    by : (b : Bool) → bytes_eq name r.name ≡ b → (row_named rows name ≡ Some row → (k : ℕ) × (slice_get rows k ≡ Some row)) → (k : ℕ) × (slice_get (r ∷ rows) k ≡ Some row)
    by true here rest = (0, sym (found_here name r rows here) ∙ is)
    by false here rest = let there = rest (sym (found_behind name r rows here) ∙ is) in (suc there.0, there.1)

pub labels_of_sorted : (exported sorted : List LabelRow) → IsPermutation exported sorted → IsStableBy has_lower_name exported sorted → AreSorted sorted →
    AreLabelsOf exported (kept_after None sorted)
labels_of_sorted exported sorted moved stable up = record {
  first = kept_are_first exported sorted stable up;
  every = kept_has_each exported sorted moved up;
  ascending = kept_ascend None sorted;
}
