-- the frame that is laid is one of the procedure
use Rattle.std.proofs.Common.{◌≡◌, ℕ, suc, ◌+◌, ◌-◌, ◌*◌, ◌%◌, ◌≤◌, ◌==◌, ◌||◌, Bool, true, false, List, [], ◌∷◌, ◌++◌, map, length, Option, Some, None, arith, refl, sym, ap, ◌∙◌, subst}
use Rattle.std.specs.Prelude.{nat_le, is_some, max, slice_get}
use Rattle.std.specs.List.{list_all, list_any}
use Rattle.std.specs.Str.{bytes_eq}
use Rattle.std.proofs.lemmas.Bool.{and_from, and_parts}
use Rattle.std.proofs.lemmas.Bool.Decides.{nat_tests}
use Rattle.std.proofs.lemmas.Slice.Eq.{bytes_eq-Decides}
use Rattle.cmm_chain.proofs.Shared.{callee_saves_is_listed}
use Rattle.cmm_program.specs.declared.procedure.Proc.{Proc}
use Rattle.cmm_program.specs.Bounds.{frame_bound}
use Rattle.cmm_program.specs.Errors.{with_some}
use Rattle.cmm_program.specs.Layout.{aligned_up, stackdata_size, stackdata_labels}
use Rattle.cmm_program.specs.Placed.{is_code_address, is_frame_size, are_pairs, is_pair_in, pairs_apart, are_labels, is_stackdata, is_stackdata_at}
use Rattle.cmm_chain.specs.declared.frame.Frame.{Frame}
use Rattle.cmm_chain.specs.declared.frame.Location.{Location}
use Rattle.cmm_chain.specs.declared.frame.Location.TheVariants.{Slot, Saved, Temp}
use Rattle.cmm_abi.specs.Registers.{is_callee_saves, callee_saves}
use Rattle.cmm_chain.specs.Plans.{saved_in, pair_offsets, fixed_offsets, is_fresh, are_distinct, is_word_in, is_laid, is_place}
use Rattle.cmm_located.specs.Layouts.{IsFrameOf, are_clear, has_cut_exit, is_clear, is_kept_in, is_location, keeps_local, row_with, saved_registers, slot_offsets, slots_end}
use Rattle.cmm_allocate.specs.inside.Laying.{pairs_from, words_from}
use Rattle.cmm_allocate.proofs.Offsets.{all_append, rounded, consecutive, double, double_is, saved_consecutive, pairs_consecutive, joined, words_inside, before_words, words_distinct, below_is_clear, words_clear, pairs_count, pairs_inside, pairs_below, pairs_are_apart, registers_are, words_count, filter_count, is_saved}

-- ---- stackdata labels at a base

labels_offset : (labels : List ℕ) (base : ℕ) (P : Option ℕ → Type 0) → P (Some base) → (labels ≡ [] → P None) →
    P (with_some (slice_get (map (λ place. base + place) labels) 0) (λ offset. with_some (slice_get labels 0) (λ place. Some (offset - place))))
labels_offset [] base P some none = none refl
labels_offset (l ∷ ls) base P some none = let same : base ≡ base + l - l = omega arith in subst (λ b. P (Some b)) same some

same_bytes : (xs ys : List ℕ) → xs ≡ ys → bytes_eq xs ys ≡ true
same_bytes xs ys is = (bytes_eq-Decides xs ys).1 is

-- ---- slots

slots_fresh : (places : List Location) (at n : ℕ) (f : Frame) → fixed_offsets f ≡ consecutive at n → slots_end places ≤ at → at ≤ f.size →
    list_all is_location places ≡ true → ((r : ℕ) → is_callee_saves r ≡ true → list_any (is_kept_in r) places ≡ true → is_some (saved_in f.saved r) ≡ true) →
    list_all (is_place f) places ≡ true
slots_fresh [] at n f fixed le fits are saves = refl
slots_fresh (Slot o ∷ rest) at n f fixed le fits are saves =
    let parts = and_parts (o % 8 == 0) (list_all is_location rest) are in
    let less : o + 8 ≤ at = omega arith in
    let rest_le : slots_end rest ≤ at = omega arith in
    and_from (is_place f (Slot o)) (list_all (is_place f) rest)
    (and_from (is_word_in f.size o) (is_fresh o (fixed_offsets f))
    (and_from (o % 8 == 0) (nat_le (o + 8) f.size) parts.0 (let inside : o + 8 ≤ f.size = omega arith in grind (arith, nat_tests)))
    (subst (λ l. is_fresh o l ≡ true) (sym fixed) (before_words o at n (omega arith))))
    (slots_fresh rest at n f fixed rest_le fits parts.1 (λ r is keeps. saves r is keeps))
slots_fresh (Saved r ∷ rest) at n f fixed le fits are saves =
    let parts = and_parts (is_callee_saves r) (list_all is_location rest) are in
    let rest_le : slots_end rest ≤ at = omega arith in
    and_from (is_place f (Saved r)) (list_all (is_place f) rest)
    (and_from (is_callee_saves r) (is_some (saved_in f.saved r)) parts.0 (saves r parts.0 (grind (arith, nat_tests))))
    (slots_fresh rest at n f fixed rest_le fits parts.1 (λ s is keeps. saves s is (grind (arith, nat_tests, keeps))))
slots_fresh (Temp r ∷ rest) at n f fixed le fits are saves =
    let parts = and_parts (is_location (Temp r)) (list_all is_location rest) are in
    let rest_le : slots_end rest ≤ at = omega arith in
    and_from (is_place f (Temp r)) (list_all (is_place f) rest) parts.0 (slots_fresh rest at n f fixed rest_le fits parts.1 (λ s is keeps. saves s is keeps))

slots_clear : (base size : ℕ) (places : List Location) → slots_end places ≤ base → list_all (is_clear base size) (slot_offsets places) ≡ true
slots_clear base size [] le = refl
slots_clear base size (Slot o ∷ rest) le =
    let here : o + 8 ≤ base = omega arith in
    and_from (is_clear base size o) (list_all (is_clear base size) (slot_offsets rest)) (below_is_clear base size o here) (slots_clear base size rest (omega arith))
slots_clear base size (Saved r ∷ rest) le = slots_clear base size rest (omega arith)
slots_clear base size (Temp r ∷ rest) le = slots_clear base size rest (omega arith)

-- slots stand at multiples of 8, and so does their end
slots_even : (places : List Location) → list_all is_location places ≡ true → slots_end places % 8 ≡ 0
slots_even [] are = refl
slots_even (Slot o ∷ rest) are =
    let parts = and_parts (o % 8 == 0) (list_all is_location rest) are in
    let later = slots_even rest parts.1 in
    let even : (o + 8) % 8 ≡ 0 = let here : o % 8 ≡ 0 = grind (arith, nat_tests, parts.0) in omega arith in
    by (o + 8) (slots_end rest) even later
  where
    by : (a b : ℕ) → a % 8 ≡ 0 → b % 8 ≡ 0 → max a b % 8 ≡ 0
    by a b is_a is_b = grind (arith, nat_tests)
slots_even (Saved r ∷ rest) are = let later = slots_even rest (and_parts (is_callee_saves r) (list_all is_location rest) are).1 in grind (arith, later)
slots_even (Temp r ∷ rest) are = let later = slots_even rest (and_parts (is_location (Temp r)) (list_all is_location rest) are).1 in grind (arith, later)

-- ---- the frame

module _ (p : Proc) (places : List Location) (are : list_all is_location places ≡ true) (room : slots_end places + 16 * length p.conts ≤ 8 * p.tokens) where
  abbrev slots : ℕ
  slots = slots_end places

  abbrev registers : List ℕ
  registers = saved_registers p places

  abbrev pairs_at : ℕ
  pairs_at = slots + 8 + 8 * length registers

  abbrev count : ℕ
  count = length p.conts

  abbrev base : ℕ
  base = aligned_up 16 (pairs_at + 16 * count)

  abbrev frame : Frame
  frame = record {
    size = aligned_up 16 (base + stackdata_size p.stack);
    return_at = slots;
    saved = words_from (slots + 8) registers;
    pairs = pairs_from pairs_at count;
    stack = map (λ place. base + place) (stackdata_labels p.stack);
  }

  -- how many words it has beside the slots
  abbrev words : ℕ
  words = length registers + double count

  few : length registers ≤ length callee_saves
  few = filter_count (λ r. has_cut_exit p || keeps_local r places) callee_saves

  fixed_are : fixed_offsets frame ≡ consecutive slots (suc words)
  fixed_are =
      ap (λ l. slots ∷ l)
      (ap (λ l. l ++ pair_offsets (pairs_from pairs_at count)) (saved_consecutive (slots + 8) registers)
      ∙ ap (λ l. consecutive (slots + 8) (length registers) ++ l) (pairs_consecutive pairs_at count)
      ∙ joined (slots + 8) (length registers) pairs_at (double count) words refl refl)

  even : slots % 8 ≡ 0
  even = slots_even places are

  end_is : slots + 8 * suc words ≡ pairs_at + 16 * count
  end_is = omega (arith, double_is count)

  below_base : pairs_at + 16 * count ≤ base
  below_base = (rounded (pairs_at + 16 * count)).1

  base_below : base + stackdata_size p.stack ≤ frame.size
  base_below = (rounded (base + stackdata_size p.stack)).1

  words_end : slots + 8 * suc words ≤ base
  words_end = omega (arith, end_is, below_base)

  within : frame.size ≤ frame_bound p
  within = omega (arith, (rounded (pairs_at + 16 * count)).2, (rounded (base + stackdata_size p.stack)).2, few, room)

  laid : is_laid frame ≡ true
  laid =
      and_from (frame.size % 16 == 0) _ (let is = (rounded (base + stackdata_size p.stack)).0 in grind (arith, nat_tests, is))
      (and_from (list_all (is_word_in frame.size) (fixed_offsets frame)) (are_distinct (fixed_offsets frame))
      (subst (λ l. list_all (is_word_in frame.size) l ≡ true) (sym fixed_are) (words_inside frame.size slots (suc words) even (omega (arith, words_end, base_below))))
      (subst (λ l. are_distinct l ≡ true) (sym fixed_are) (words_distinct slots (suc words))))

  uses : (r : ℕ) → keeps_local r places ≡ true → (has_cut_exit p || keeps_local r places) ≡ true
  uses r is = by (has_cut_exit p) (keeps_local r places) is
    where
      by : (a b : Bool) → b ≡ true → (a || b) ≡ true
      by true b is = refl
      by false b is = is

  locals : list_all (is_place frame) places ≡ true
  locals = slots_fresh places slots (suc words) frame fixed_are (omega arith) (omega (arith, words_end, base_below)) are
      (λ r is keeps. is_saved (slots + 8) r (λ r. has_cut_exit p || keeps_local r places) callee_saves (callee_saves_is_listed r is) (uses r keeps))

  clear : are_clear p frame (slot_offsets places ++ fixed_offsets frame) ≡ true
  clear = labels_offset (stackdata_labels p.stack) base
      (λ o. elim o as (λ _. Bool) [ Some b ↦ list_all (is_clear b (stackdata_size p.stack)) (slot_offsets places ++ fixed_offsets frame) | None ↦ true ] ≡ true)
      (all_append (is_clear base (stackdata_size p.stack)) (slot_offsets places) (fixed_offsets frame)
      (slots_clear base (stackdata_size p.stack) places (omega (arith, words_end)))
      (subst (λ l. list_all (is_clear base (stackdata_size p.stack)) l ≡ true) (sym fixed_are) (words_clear base (stackdata_size p.stack) slots (suc words) words_end)))
      (λ none. refl)

  -- ---- the row

  sized : is_frame_size p frame.size ≡ true
  sized =
      and_from (frame.size % 16 == 0) (nat_le frame.size (frame_bound p))
      (let is = (rounded (base + stackdata_size p.stack)).0 in grind (arith, nat_tests, is)) (let le = within in grind (arith, nat_tests, le))

  paired : (code : ℕ) → are_pairs p (row_with code frame) ≡ true
  paired code =
      and_from _ (pairs_apart (pairs_from pairs_at count))
      (and_from (length (pairs_from pairs_at count) == count) (list_all (is_pair_in frame.size) (pairs_from pairs_at count))
      (let is = pairs_count pairs_at count in grind (arith, nat_tests, is))
      (pairs_inside frame.size pairs_at count (omega (arith, even)) (omega (arith, below_base, base_below))))
      (pairs_are_apart pairs_at count)

  based : (code : ℕ) → is_stackdata_at base p (row_with code frame) ≡ true
  based code =
      and_from _ _
      (and_from _ _
      (and_from (base % 16 == 0) (nat_le (base + stackdata_size p.stack) frame.size)
      (let is = (rounded (pairs_at + 16 * count)).0 in grind (arith, nat_tests, is)) (let le = base_below in grind (arith, nat_tests, le)))
      (same_bytes (map (λ place. base + place) (stackdata_labels p.stack)) (map (λ place. base + place) (stackdata_labels p.stack)) refl))
      (pairs_below base (stackdata_size p.stack) pairs_at count below_base)

  stackdata : (code : ℕ) → is_stackdata p (row_with code frame) ≡ true
  stackdata code = labels_offset (stackdata_labels p.stack) base
      (λ o. elim o as (λ _. Bool) [ Some b ↦ is_stackdata_at b p (row_with code frame) | None ↦ are_labels 0 p.stack (row_with code frame).stack ] ≡ true)
      (based code)
      (λ none. same_bytes (map (λ place. base + place) (stackdata_labels p.stack)) (map (λ place. 0 + place) (stackdata_labels p.stack))
      (ap (λ l. map (λ place. base + place) l) none ∙ sym (ap (λ l. map (λ place. 0 + place) l) none)))

  pub is_frame : IsFrameOf p places frame
  is_frame = record {
    placed = λ code is_code. and_from _ _ (and_from _ _ (and_from (is_code_address code) (is_frame_size p frame.size) is_code sized) (paired code)) (stackdata code);
    laid = laid;
    locals = locals;
    registers = registers_are (slots + 8) registers;
    clear = clear;
  }

-- the same for parts that are equal to these
pub is_frame_of : (p : Proc) (places : List Location) (size return_at pairs_at base count : ℕ) (saved : List (ℕ × ℕ)) (pairs stack : List ℕ) →
    list_all is_location places ≡ true → slots_end places + 16 * length p.conts ≤ 8 * p.tokens → return_at ≡ slots_end places →
    saved ≡ words_from (return_at + 8) (saved_registers p places) → pairs_at ≡ return_at + 8 + 8 * length saved → count ≡ length p.conts → pairs ≡ pairs_from pairs_at count →
    base ≡ aligned_up 16 (pairs_at + 16 * count) → stack ≡ map (λ place. base + place) (stackdata_labels p.stack) → size ≡ aligned_up 16 (base + stackdata_size p.stack) →
    IsFrameOf p places (record { size = size; return_at = return_at; saved = saved; pairs = pairs; stack = stack })
is_frame_of p places size return_at pairs_at base count saved pairs stack are room is_return is_saved_ is_pairs_at is_count is_pairs is_base is_stack is_size =
    let slots = slots_end places in
    let saved_is : saved ≡ words_from (slots + 8) (saved_registers p places) = is_saved_ ∙ ap (λ at. words_from (at + 8) (saved_registers p places)) is_return in
    let length_is : length saved ≡ length (saved_registers p places) = ap (λ (l : List (ℕ × ℕ)). length l) saved_is ∙ words_count (slots + 8) (saved_registers p places) in
    let at_is : pairs_at ≡ slots + 8 + 8 * length (saved_registers p places) = omega arith in
    let pairs_is : pairs ≡ pairs_from (slots + 8 + 8 * length (saved_registers p places)) (length p.conts) =
    is_pairs ∙ ap (λ at. pairs_from at count) at_is ∙ ap (λ k. pairs_from (slots + 8 + 8 * length (saved_registers p places)) k) is_count in
    let base_is : base ≡ aligned_up 16 (slots + 8 + 8 * length (saved_registers p places) + 16 * length p.conts) =
    is_base ∙ ap (λ n. aligned_up 16 n) (omega arith) in
    let stack_is = is_stack ∙ ap (λ b. map (λ place. b + place) (stackdata_labels p.stack)) base_is in
    let size_is = is_size ∙ ap (λ b. aligned_up 16 (b + stackdata_size p.stack)) base_is in
    rw (size_is, is_return, saved_is, pairs_is, stack_is) (is_frame p places are room)
