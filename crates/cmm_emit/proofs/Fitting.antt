-- The procedures of a program can be laid, over contexts that are made for them.
use Rattle.std.proofs.Common.{◌≡◌, ◌⊎◌, inl, inr, ℕ, zero, suc, ◌+◌, ◌-◌, ◌%◌, ◌<◌, ◌≤◌, ◌^◌, refl, sym, ◌∙◌, ap, subst, arith, Bool, true, false, List, [], ◌∷◌, length, map, get_or, Option, Some, None, slice_get}
use Rattle.std.specs.Prelude.{◌&&◌, ◌==◌, nat_le}
use Rattle.std.specs.List.{All, list_all}
use Rattle.std.specs.Str.{bytes_eq}
use Rattle.std.proofs.lemmas.Bool.{and_parts}
use Rattle.std.proofs.lemmas.Bool.Decides.{nat_tests}
use Rattle.std.proofs.lemmas.List.{get_or_default, length-map}
use Rattle.std.proofs.lemmas.Slice.Eq.{bytes_eq-Decides}
use Rattle.rv_table.specs.Memory.{code_base}
use Rattle.cmm_chain.specs.Plans.{is_place}
use Rattle.cmm_chain.specs.declared.frame.Frame.{Frame}
use Rattle.cmm_chain.specs.declared.frame.Location.{Location}
use Rattle.cmm_program.proofs.Shared.{end_of-grows}
use Rattle.cmm_program.specs.declared.placement.PlaceRow.{PlaceRow}
use Rattle.cmm_program.specs.declared.procedure.Proc.{Proc}
use Rattle.cmm_program.specs.declared.procedure.StackItem.{StackItem}
use Rattle.cmm_program.specs.Frames.{stackdata_offset}
use Rattle.cmm_program.specs.InRange.{FitsFrames, is_item}
use Rattle.cmm_program.specs.Errors.{with_some}
use Rattle.cmm_program.specs.Layout.{aligned_up, end_of, item_piece, stackdata_labels, stackdata_labels_from, stackdata_size}
use Rattle.cmm_program.specs.Placed.{apart, are_labels, are_pairs, is_code_address, is_frame_size, is_pair_in, is_stackdata, is_stackdata_at}
use Rattle.cmm_effects.specs.Changes.{IsPlace}
use Rattle.cmm_calls.proofs.Shared.{each, place_is}
use Rattle.cmm_calls.specs.Frames.{CanBeMade}
use Rattle.cmm_located.specs.Layouts.{IsFrameOf, row_with}

-- ---- the rows of frames

pub record IsRow (p : Proc) (row : PlaceRow) : Type 0 where
  pub pairs : are_pairs p row ≡ true
  pub stackdata : is_stackdata p row ≡ true

pub row_parts : (p : Proc) (places : List Location) (f : Frame) → IsFrameOf p places f → IsRow p (row_with code_base f)
row_parts p places f is =
    let row = row_with code_base f in
    let three = and_parts (is_code_address code_base && is_frame_size p f.size && are_pairs p row) (is_stackdata p row) (is.placed code_base refl) in
    let two = and_parts (is_code_address code_base && is_frame_size p f.size) (are_pairs p row) three.0 in
    record { pairs = two.1; stackdata = three.1 }

same_bytes : (xs ys : List ℕ) → bytes_eq xs ys ≡ true → xs ≡ ys
same_bytes xs ys is = (bytes_eq-Decides xs ys).0 is

labels_counted : (base : ℕ) (items : List StackItem) (offsets : List ℕ) → are_labels base items offsets ≡ true → length (stackdata_labels items) ≡ length offsets
labels_counted base items offsets is =
    sym (ap (λ (ns : List ℕ). length ns) (same_bytes offsets (map (λ place. base + place) (stackdata_labels items)) is)
    ∙ length-map (stackdata_labels items) (λ (place : ℕ). base + place))

pub stack_counted : (p : Proc) (row : PlaceRow) → is_stackdata p row ≡ true → length (stackdata_labels p.stack) ≡ length row.stack
stack_counted p row is = by (stackdata_offset p row) is
  where
    by : (o : Option ℕ) → elim o as (λ _. Bool) [ Some base ↦ is_stackdata_at base p row | None ↦ are_labels 0 p.stack row.stack ] ≡ true →
        length (stackdata_labels p.stack) ≡ length row.stack
    by (Some base) at =
        let three = and_parts (base % 16 == 0 && nat_le (base + stackdata_size p.stack) row.frame && are_labels base p.stack row.stack)
        (list_all (λ offset. apart base (stackdata_size p.stack) offset) row.pairs) at
        in
        labels_counted base p.stack row.stack (and_parts (base % 16 == 0 && nat_le (base + stackdata_size p.stack) row.frame) (are_labels base p.stack row.stack) three.0).1
    by None at = labels_counted 0 p.stack row.stack at

-- ---- offsets inside a frame

-- labels of stackdata lie below a limit where the stackdata does
labels_within : (base place limit : ℕ) (items : List StackItem) → list_all is_item items ≡ true → base + end_of place (map item_piece items) ≤ limit → (n : ℕ) →
    get_or (map (λ label. base + label) (stackdata_labels_from place items)) n 0 ≤ limit
labels_within base place limit [] are fit n = omega arith
labels_within base place limit (i ∷ items) are fit n =
    let rest = (and_parts (is_item i) (list_all is_item items) are).1 in
    by i.label n rest (λ m. labels_within base (aligned_up i.align place + i.length) limit items rest fit m)
  where
    by : (b : Bool) (m : ℕ) → list_all is_item items ≡ true →
        ((m : ℕ) → get_or (map (λ label. base + label) (stackdata_labels_from (aligned_up i.align place + i.length) items)) m 0 ≤ limit) →
        get_or (map (λ label. base + label) (elim b as (λ _. List ℕ) [
          | true ↦ aligned_up i.align place ∷ stackdata_labels_from (aligned_up i.align place + i.length) items
          | false ↦ stackdata_labels_from (aligned_up i.align place + i.length) items
        ])) m 0 ≤ limit
    by true zero all rest = let grows = end_of-grows (aligned_up i.align place + i.length) items all in omega (arith, grows, fit)
    by true (suc m) all rest = rest m
    by false m all rest = rest m

none_past : (ns : List ℕ) (n : ℕ) → length ns ≡ 0 → get_or ns n 0 ≡ 0
none_past [] n none = refl
none_past (m ∷ ns) n none = absurd (omega (arith, none))

some_offset : (a b : Option ℕ) → with_some a (λ offset. with_some b (λ place. Some (offset - place))) ≡ None → (a ≡ None) ⊎ (b ≡ None)
some_offset (Some a) (Some b) e = absurd (cc)
some_offset (Some a) None e = inr refl
some_offset None b e = inl refl

none_first : (ns : List ℕ) → slice_get ns 0 ≡ None → length ns ≡ 0
none_first [] e = refl
none_first (m ∷ ns) e = absurd (cc)

none_counted : (ns ms : List ℕ) → length ns ≡ length ms → (slice_get ms 0 ≡ None) ⊎ (slice_get ns 0 ≡ None) → length ms ≡ 0
none_counted ns ms same (inl e) = none_first ms e
none_counted ns ms same (inr e) = sym same ∙ none_first ns e

pub stack_inside : (p : Proc) (row : PlaceRow) → FitsFrames p → is_stackdata p row ≡ true → (n : ℕ) → get_or row.stack n 0 ≤ row.frame
stack_inside p row fits is n = by (stackdata_offset p row) refl is
  where
    by : (o : Option ℕ) → stackdata_offset p row ≡ o → elim o as (λ _. Bool) [ Some base ↦ is_stackdata_at base p row | None ↦ are_labels 0 p.stack row.stack ] ≡ true →
        get_or row.stack n 0 ≤ row.frame
    by (Some base) there at =
        let three = and_parts (base % 16 == 0 && nat_le (base + stackdata_size p.stack) row.frame && are_labels base p.stack row.stack)
        (list_all (λ offset. apart base (stackdata_size p.stack) offset) row.pairs) at
        in
        let two = and_parts (base % 16 == 0 && nat_le (base + stackdata_size p.stack) row.frame) (are_labels base p.stack row.stack) three.0 in
        let one = and_parts (base % 16 == 0) (nat_le (base + stackdata_size p.stack) row.frame) two.0 in
        let fit : base + stackdata_size p.stack ≤ row.frame = grind (arith, nat_tests, one.1) in
        let same = same_bytes row.stack (map (λ place. base + place) (stackdata_labels p.stack)) two.1 in
        subst (λ (ns : List ℕ). get_or ns n 0 ≤ row.frame) (sym same) (labels_within base 0 row.frame p.stack fits.items fit n)
    by None there at =
        let empty = none_counted (stackdata_labels p.stack) row.stack (labels_counted 0 p.stack row.stack at)
        (some_offset (slice_get row.stack 0) (slice_get (stackdata_labels p.stack) 0) there)
        in
        let none = none_past row.stack n empty in
        omega (arith, none)

-- pairs lie inside, so their offsets do
pub pairs_inside : (frame : ℕ) (pairs : List ℕ) (n : ℕ) → list_all (is_pair_in frame) pairs ≡ true → get_or pairs n 0 ≤ frame
pairs_inside frame [] n all = omega arith
pairs_inside frame (o ∷ pairs) zero all =
    let first = (and_parts (is_pair_in frame o) (list_all (is_pair_in frame) pairs) all).0 in
    let within = (and_parts (o % 8 == 0) (nat_le (o + 16) frame) first).1 in
    let less : o + 16 ≤ frame = grind (arith, nat_tests, within) in
    omega (arith, less)
pairs_inside frame (o ∷ pairs) (suc n) all = pairs_inside frame pairs n (and_parts (is_pair_in frame o) (list_all (is_pair_in frame) pairs) all).1

-- what is so of each element by its index
pub all_below : (ns : List ℕ) (size : ℕ) → size < 2 ^ 21 → ((n : ℕ) → get_or ns n 0 ≤ size) → All (λ offset. offset < 2 ^ 21) ns
all_below ns size small each i d h =
    let same : get_or ns i d ≡ get_or ns i 0 = get_or_default ns i d 0 h in
    omega (arith, each i, same, small)

-- ---- places

-- places of a frame that can be made are read and written
pub places_are : (f : Frame) (ls : List Location) → CanBeMade f → list_all (is_place f) ls ≡ true → All IsPlace ls
places_are f ls can all i d h = place_is f (get_or ls i d) can (each (is_place f) ls i d all h)
