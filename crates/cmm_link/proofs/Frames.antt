-- What rows of an image need of a frame that is laid: its parts lie inside it, and there are as many as the procedure has.
use Rattle.std.proofs.Common.{◌≡◌, ℕ, ◌+◌, ◌%◌, ◌<◌, ◌≤◌, ◌==◌, ◌&&◌, nat_le, Bool, true, false, IsTrue, Option, Some, None, List, [], ◌∷◌, ◌++◌, length, map, refl, ap, sym, ◌∙◌, subst, arith}
use Rattle.std.proofs.lemmas.Bool.{and_parts, and_from, eqb-true, leb-true, le-leb}
use Rattle.std.proofs.lemmas.Bool.Decides.{nat_tests}
use Rattle.std.proofs.lemmas.List.{length-map}
use Rattle.std.proofs.lemmas.Slice.Eq.{bytes_eq-Decides}
use Rattle.std.specs.List.{list_all}
use Rattle.std.specs.Prelude.{◌-◌, slice_get}
use Rattle.cmm_program.specs.Errors.{with_some}
use Rattle.rv_table.specs.Memory.{code_base}
use Rattle.cmm_program.specs.declared.placement.PlaceRow.{PlaceRow}
use Rattle.cmm_program.specs.declared.procedure.Proc.{Proc}
use Rattle.cmm_program.specs.declared.procedure.StackItem.{StackItem}
use Rattle.cmm_program.specs.declared.program.Program.{Program}
use Rattle.cmm_program.specs.Bounds.{frame_bound}
use Rattle.cmm_program.specs.Frames.{stackdata_offset}
use Rattle.cmm_program.specs.InRange.{IsProcInRange, is_item}
use Rattle.cmm_program.specs.Layout.{aligned_up, end_of, item_piece, stackdata_labels, stackdata_labels_from, stackdata_size}
use Rattle.cmm_program.specs.Placed.{are_labels, are_pairs, is_code_address, is_frame_size, is_pair_in, is_row_placed, is_stackdata, is_stackdata_at, pairs_apart}
use Rattle.cmm_program.proofs.Shared.{end_of-grows}
use Rattle.cmm_chain.specs.declared.frame.Frame.{Frame}
use Rattle.cmm_chain.specs.declared.frame.Location.{Location}
use Rattle.cmm_chain.specs.Plans.{fixed_offsets, is_word_in, pair_offsets, saved_offsets}
use Rattle.cmm_located.specs.Layouts.{IsFrameOf, row_with}

-- ---- the labels of stackdata lie in it

item_aligned : (i : StackItem) → IsTrue (is_item i) → 0 < i.align
item_aligned i h = grind (arith, nat_tests, h)

label_within : (base size here : ℕ) (others : List ℕ) (b : Bool) → nat_le (base + here) size ≡ true →
    list_all (λ offset. nat_le offset size) (map (λ label. base + label) others) ≡ true →
    list_all (λ offset. nat_le offset size) (map (λ label. base + label) (elim b as (λ _. List ℕ) [ true ↦ here ∷ others | false ↦ others ])) ≡ true
label_within base size here others true first rest = and_from (nat_le (base + here) size) _ first rest
label_within base size here others false first rest = rest

labels_within : (base place size : ℕ) (items : List StackItem) → IsTrue (list_all is_item items) → base + end_of place (map item_piece items) ≤ size →
    list_all (λ offset. nat_le offset size) (map (λ label. base + label) (stackdata_labels_from place items)) ≡ true
labels_within base place size [] are room = refl
labels_within base place size (i ∷ is) are room =
    let both = and_parts (is_item i) (list_all is_item is) are in
    let here = aligned_up i.align place in
    let rest = labels_within base (here + i.length) size is both.1 room in
    let first : nat_le (base + here) size ≡ true = le-leb _ _ (omega (arith, room, end_of-grows (here + i.length) is both.1)) in
    label_within base size here (stackdata_labels_from (here + i.length) is) i.label first rest

-- ---- the offsets of labels

pub record AreOffsets (q : Proc) (size : ℕ) (offsets : List ℕ) : Type 0 where
  pub count : length offsets ≡ length (stackdata_labels q.stack)
  pub inside : list_all (λ offset. nat_le offset size) offsets ≡ true

module _ (q : Proc) (row : PlaceRow) (items : IsTrue (list_all is_item q.stack)) where
  from_base : (base : ℕ) → are_labels base q.stack row.stack ≡ true → base + stackdata_size q.stack ≤ row.frame → AreOffsets q row.frame row.stack
  from_base base labels room =
      let same : row.stack ≡ map (λ place. base + place) (stackdata_labels q.stack) = (bytes_eq-Decides row.stack _).0 labels in
      record {
        count = ap (λ (l : List ℕ). length l) same ∙ length-map (stackdata_labels q.stack) (λ (place : ℕ). base + place);
        inside = subst (λ (l : List ℕ). list_all (λ offset. nat_le offset row.frame) l ≡ true) (sym same) (labels_within base 0 row.frame q.stack items room);
      }

  -- without an offset there is no label
  none_means : (offsets labels : List ℕ) → offsets ≡ map (λ place. 0 + place) labels →
      with_some (slice_get offsets 0) (λ offset. with_some (slice_get labels 0) (λ place. Some (offset - place))) ≡ None → labels ≡ []
  none_means offsets [] same is = refl
  none_means [] (x ∷ xs) same is = absurd (cc (same))
  none_means (y ∷ ys) (x ∷ xs) same is = absurd (cc (is))

  offsets_fit : (o : Option ℕ) → elim o as (λ _. Bool) [ Some base ↦ is_stackdata_at base q row | None ↦ are_labels 0 q.stack row.stack ] ≡ true → stackdata_offset q row ≡ o →
      AreOffsets q row.frame row.stack
  offsets_fit (Some base) placed is =
      let last = and_parts ((base % 16 == 0) && nat_le (base + stackdata_size q.stack) row.frame && are_labels base q.stack row.stack) _ placed in
      let labels = and_parts ((base % 16 == 0) && nat_le (base + stackdata_size q.stack) row.frame) _ last.0 in
      let room = and_parts (base % 16 == 0) _ labels.0 in
      from_base base labels.1 (leb-true _ _ room.1)
  offsets_fit None placed is =
      let same : row.stack ≡ map (λ place. 0 + place) (stackdata_labels q.stack) = (bytes_eq-Decides row.stack _).0 placed in
      let none = none_means row.stack (stackdata_labels q.stack) same is in
      let empty : row.stack ≡ [] = same ∙ ap (map (λ place. 0 + place)) none in
      record {
        count = ap (λ (l : List ℕ). length l) same ∙ length-map (stackdata_labels q.stack) (λ (place : ℕ). 0 + place);
        inside = subst (λ (l : List ℕ). list_all (λ offset. nat_le offset row.frame) l ≡ true) (sym empty) refl;
      }

-- ---- words

words_left : (size : ℕ) (saved : List (ℕ × ℕ)) (others : List ℕ) → list_all (is_word_in size) (saved_offsets saved ++ others) ≡ true → list_all (is_word_in size) (saved_offsets saved) ≡ true
words_left size [] others all = refl
words_left size ((register, offset) ∷ saved) others all =
    let both = and_parts (is_word_in size offset) (list_all (is_word_in size) (saved_offsets saved ++ others)) all in
    and_from (is_word_in size offset) _ both.0 (words_left size saved others both.1)

-- ---- a whole frame

-- the frame of a procedure in range: what a row says of it, tested
pub record Fits (q : Proc) (f : Frame) : Type 0 where
  pub aligned : (f.size % 16 == 0) ≡ true
  pub small : f.size ≤ 1114272
  pub return_at : is_word_in f.size f.return_at ≡ true
  pub saved : list_all (is_word_in f.size) (saved_offsets f.saved) ≡ true
  pub count : length f.pairs ≡ length q.conts
  pub pairs : list_all (is_pair_in f.size) f.pairs ≡ true
  pub stack : AreOffsets q f.size f.stack

pub frame_fits : (p : Program) (q : Proc) (places : List Location) (f : Frame) → IsProcInRange p q → IsFrameOf q places f → Fits q f
frame_fits p q places f range is =
    let row = row_with code_base f in
    let parts = and_parts (is_code_address code_base && is_frame_size q f.size && are_pairs q row) (is_stackdata q row) (is.placed code_base refl) in
    let pairs = and_parts (is_code_address code_base && is_frame_size q f.size) (are_pairs q row) parts.0 in
    let size = and_parts (is_code_address code_base) (is_frame_size q f.size) pairs.0 in
    let sized = and_parts (f.size % 16 == 0) (nat_le f.size (frame_bound q)) size.1 in
    let apart = and_parts ((length f.pairs == length q.conts) && list_all (is_pair_in f.size) f.pairs) (pairs_apart f.pairs) pairs.1 in
    let counted = and_parts (length f.pairs == length q.conts) (list_all (is_pair_in f.size) f.pairs) apart.0 in
    let laid = and_parts (f.size % 16 == 0) _ is.laid in
    let words = and_parts (list_all (is_word_in f.size) (fixed_offsets f)) _ laid.1 in
    let first = and_parts (is_word_in f.size f.return_at) _ words.0 in
    let stackdata = range.frames.stackdata in
    let tokens = range.frames.tokens in
    record {
      aligned = sized.0;
      small = omega (arith, leb-true f.size (frame_bound q) sized.1, stackdata, tokens);
      return_at = first.0;
      saved = words_left f.size f.saved (pair_offsets f.pairs) first.1;
      count = eqb-true (length f.pairs) (length q.conts) counted.0;
      pairs = counted.1;
      stack = offsets_fit q row range.frames.items (stackdata_offset q row) parts.1 refl;
    }

-- a frame that is laid has a pair for each continuation
pub pairs_counted : (q : Proc) (f : Frame) → is_row_placed q (row_with code_base f) ≡ true → length f.pairs ≡ length q.conts
pairs_counted q f placed =
    let row = row_with code_base f in
    let parts = and_parts (is_code_address code_base && is_frame_size q f.size && are_pairs q row) (is_stackdata q row) placed in
    let pairs = and_parts (is_code_address code_base && is_frame_size q f.size) (are_pairs q row) parts.0 in
    let apart = and_parts ((length f.pairs == length q.conts) && list_all (is_pair_in f.size) f.pairs) (pairs_apart f.pairs) pairs.1 in
    let counted = and_parts (length f.pairs == length q.conts) (list_all (is_pair_in f.size) f.pairs) apart.0 in
    eqb-true (length f.pairs) (length q.conts) counted.0
