-- The rows of labels that are kept of sorted ones have just the exported names, in order.
use Rattle.std.proofs.Common.{◌≡◌, ℕ, suc, ◌+◌, ◌≤◌, ◌++◌, ◌⊎◌, inl, inr, true, false, Option, Some, None, All, Contains, List, [], ◌∷◌, length, refl, ap, sym, ◌∙◌, subst, arith, Ordering}
use Rattle.std.proofs.lemmas.Bool.{and_from, cond-false, cond-true, cond_both}
use Rattle.std.proofs.lemmas.Cmp.{nat_list_cmp_total}
use Rattle.std.proofs.lemmas.List.Elements.{All-cons, All-head, All-nil, All-tail, All-weaker, Contains-append_right}
use Rattle.std.proofs.lemmas.List.Sorted.{All-permutation, IsPermutation-sym}
use Rattle.std.specs.Cmp.Lexicographic.{slice_cmp}
use Rattle.std.specs.List.Sorted.{IsPermutation}
use Rattle.std.proofs.lemmas.Map.Text.{is_eq-slice_cmp}
use Rattle.std.proofs.lemmas.Slice.Eq.{bytes_eq-Decides}
use Rattle.std.specs.declared.cmp.Ordering.TheVariants.{Less, Equal, Greater}
use Rattle.std.specs.Ordering.{is_eq, is_lt, nat_cmp, ordering_reverse}
use Rattle.cmm_image.specs.declared.rows.LabelRow.{LabelRow}
use Rattle.cmm_image.specs.ImageFormat.{is_after}
use Rattle.cmm_link.specs.Labels.{ascend_after, label_names}
use Rattle.std.specs.Option.{option_map}
use Rattle.std.specs.Prelude.{◌-◌, slice_get}
use Rattle.std.proofs.lemmas.List.{append_assoc, length-append}
use Rattle.cmm_link.specs.inside.Kept.{AreSorted, kept_after, last_name}

-- ---- order

pub kept_ascend : (before : Option (List ℕ)) (rows : List LabelRow) → ascend_after before (label_names (kept_after before rows)) ≡ true
kept_ascend before [] = refl
kept_ascend before (row ∷ rows) =
    let behind = kept_ascend (Some row.name) rows in
    let left = kept_ascend before rows in
    let P : List LabelRow → Type 0 = λ rows. ascend_after before (label_names rows) ≡ true in
    cond_both (is_after before row.name) (row ∷ kept_after (Some row.name) rows) (kept_after before rows) P
    (λ is. and_from (is_after before row.name) _ is behind) (λ is. left)

-- ---- elements

contains_first : {A : Type 0} (x : A) (xs : List A) → Contains (x ∷ xs) x
contains_first x xs = (0, omega arith, refl)

contains_rest : {A : Type 0} (y : A) (xs : List A) (x : A) → Contains xs x → Contains (y ∷ xs) x
contains_rest y xs x among = Contains-append_right (y ∷ []) xs x among

-- ---- each name is kept once

-- names of which neither is before the other are one
equal : (o p : Ordering) → o ≡ ordering_reverse p → is_lt o ≡ false → is_lt p ≡ false → is_eq o ≡ true
equal Less p back first second = absurd (cc (first))
equal Equal p back first second = refl
equal Greater Less back first second = absurd (cc (second))
equal Greater Equal back first second = absurd (cc (back))
equal Greater Greater back first second = absurd (cc (back))

same_name : (a b : List ℕ) → is_lt (slice_cmp nat_cmp a b) ≡ false → is_lt (slice_cmp nat_cmp b a) ≡ false → a ≡ b
same_name a b first second =
    let tied = equal (slice_cmp nat_cmp a b) (slice_cmp nat_cmp b a) (nat_list_cmp_total.antisymm a b) first second in
    (bytes_eq-Decides a b).0 (sym (is_eq-slice_cmp a b) ∙ tied)

-- no name is before the one before it
abbrev pub IsNotBefore : Option (List ℕ) → List ℕ → Type 0
IsNotBefore None name = Unit {0}
IsNotBefore (Some before) name = is_lt (slice_cmp nat_cmp name before) ≡ false

abbrev pub Ordered : Option (List ℕ) → List LabelRow → Type 0
Ordered before [] = Unit {0}
Ordered before (row ∷ rows) = IsNotBefore before row.name × Ordered (Some row.name) rows

pub same_before : (before : Option (List ℕ)) (name : List ℕ) → is_after before name ≡ false → IsNotBefore before name → before ≡ Some name
same_before None name after not_before = absurd (cc (after))
same_before (Some b) name after not_before = ap (λ (n : List ℕ). Some n) (same_name b name after not_before)

abbrev IsKept : Option (List ℕ) → List LabelRow → LabelRow → Type 0
IsKept before kept row = Contains (label_names kept) row.name ⊎ (before ≡ Some row.name)

behind_it : (before : Option (List ℕ)) (row : LabelRow) (kept : List LabelRow) (r : LabelRow) → IsKept (Some row.name) kept r → IsKept before (row ∷ kept) r
behind_it before row kept r (inl among) = inl (contains_rest row.name (label_names kept) r.name among)
behind_it before row kept r (inr same) =
    let names : row.name ≡ r.name = cc (same) in
    inl (subst (Contains (label_names (row ∷ kept))) names (contains_first row.name (label_names kept)))

kept_every : (before : Option (List ℕ)) (rows : List LabelRow) → Ordered before rows → All (IsKept before (kept_after before rows)) rows
kept_every before [] ordered = All-nil (IsKept before [])
kept_every before (row ∷ rows) ordered =
    let kept = kept_after (Some row.name) rows in
    let every = kept_every (Some row.name) rows ordered.1 in
    let left = kept_every before rows in
    let P : List LabelRow → Type 0 = λ kept. All (IsKept before kept) (row ∷ rows) in
    cond_both (is_after before row.name) (row ∷ kept) (kept_after before rows) P
    (λ is. All-cons (IsKept before (row ∷ kept)) row rows (inl (contains_first row.name (label_names kept)))
    (All-weaker (IsKept (Some row.name) kept) (IsKept before (row ∷ kept)) (behind_it before row kept) rows every))
    (λ is.
    let same = same_before before row.name is ordered.0 in
    All-cons (IsKept before (kept_after before rows)) row rows (inr same) (left (subst (λ (b : Option (List ℕ)). Ordered b rows) (sym same) ordered.1)))

-- ---- sorted rows

later : (row s : LabelRow) (ss : List LabelRow) → AreSorted (row ∷ s ∷ ss) → AreSorted (s ∷ ss)
later row s ss sorted k d low less =
    let next : suc k + 1 ≡ suc (k + 1) = omega arith in
    rw next at (sorted (suc k) d (omega arith) (omega (arith, less)))

ordered_behind : (row : LabelRow) (rows : List LabelRow) → AreSorted (row ∷ rows) → Ordered (Some row.name) rows
ordered_behind row [] sorted = tt
ordered_behind row (s ∷ ss) sorted = (sorted 0 row (omega arith) (omega arith), ordered_behind s ss (later row s ss sorted))

pub ordered : (rows : List LabelRow) → AreSorted rows → Ordered None rows
ordered [] sorted = tt
ordered (row ∷ rows) sorted = (tt, ordered_behind row rows sorted)

pub kept_has_each : (exported sorted : List LabelRow) → IsPermutation exported sorted → AreSorted sorted →
    All (λ export. Contains (label_names (kept_after None sorted)) export.name) exported
kept_has_each exported sorted moved up =
    let P : LabelRow → Type 0 = λ row. Contains (label_names (kept_after None sorted)) row.name in
    All-permutation P sorted exported (IsPermutation-sym exported sorted moved)
    (All-weaker (IsKept None (kept_after None sorted)) P only sorted (kept_every None sorted (ordered sorted up)))
  where
    only : (row : LabelRow) → IsKept None (kept_after None sorted) row → Contains (label_names (kept_after None sorted)) row.name
    only row (inl among) = among
    only row (inr none) = absurd (cc (none))

-- ---- what holds of all rows holds of those that are kept

pub kept_all : (P : LabelRow → Type 0) (before : Option (List ℕ)) (rows : List LabelRow) → All P rows → All P (kept_after before rows)
kept_all P before [] all = all
kept_all P before (row ∷ rows) all =
    let rest = All-tail P row rows all in
    let behind = kept_all P (Some row.name) rows rest in
    let left = kept_all P before rows rest in
    cond_both (is_after before row.name) (row ∷ kept_after (Some row.name) rows) (kept_after before rows) (All P)
    (λ is. All-cons P row (kept_after (Some row.name) rows) (All-head P row rows all) behind) (λ is. left)

pub kept_few : (before : Option (List ℕ)) (rows : List LabelRow) → length (kept_after before rows) ≤ length rows
kept_few before [] = omega arith
kept_few before (row ∷ rows) =
    let behind = kept_few (Some row.name) rows in
    let left = kept_few before rows in
    let P : List LabelRow → Type 0 = λ kept. length kept ≤ suc (length rows) in
    cond_both (is_after before row.name) (row ∷ kept_after (Some row.name) rows) (kept_after before rows) P
    (λ is. omega (arith, behind)) (λ is. omega (arith, left))

-- ---- rows one by one

get_pushed : (rows : List LabelRow) (row : LabelRow) → slice_get (rows ++ row ∷ []) (length rows) ≡ Some row
get_pushed [] row = refl
get_pushed (r ∷ rows) row = get_pushed rows row

last_pushed : (rows : List LabelRow) (row : LabelRow) → last_name (rows ++ row ∷ []) ≡ Some row.name
last_pushed rows row =
    let at : length (rows ++ row ∷ []) - 1 ≡ length rows = omega (arith, length-append rows (row ∷ [])) in
    ap (λ (n : ℕ). option_map (λ row. row.name) (slice_get (rows ++ row ∷ []) n)) at ∙ ap (option_map (λ row. row.name)) (get_pushed rows row)

-- the next row is kept, or left out
pub row_kept : (kept rest all : List LabelRow) (row : LabelRow) → is_after (last_name kept) row.name ≡ true → kept ++ kept_after (last_name kept) (row ∷ rest) ≡ all →
    (kept ++ row ∷ []) ++ kept_after (last_name (kept ++ row ∷ [])) rest ≡ all
row_kept kept rest all row after so_far =
    let first = cond-true (is_after (last_name kept) row.name) (row ∷ kept_after (Some row.name) rest) (kept_after (last_name kept) rest) after in
    ap (λ (before : Option (List ℕ)). (kept ++ row ∷ []) ++ kept_after before rest) (last_pushed kept row)
    ∙ append_assoc kept (row ∷ []) (kept_after (Some row.name) rest)
    ∙ sym (ap (λ (rows : List LabelRow). kept ++ rows) first)
    ∙ so_far

pub row_left : (kept rest all : List LabelRow) (row : LabelRow) → is_after (last_name kept) row.name ≡ false → kept ++ kept_after (last_name kept) (row ∷ rest) ≡ all →
    kept ++ kept_after (last_name kept) rest ≡ all
row_left kept rest all row after so_far =
    sym (ap (λ (rows : List LabelRow). kept ++ rows) (cond-false (is_after (last_name kept) row.name) (row ∷ kept_after (Some row.name) rest) (kept_after (last_name kept) rest) after)) ∙ so_far
