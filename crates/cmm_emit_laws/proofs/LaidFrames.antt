-- A frame that is laid for places can be made, and its words and places are those of the activations that have it.
use Rattle.std.proofs.Common.{◌≡◌, ◌⊎◌, inl, inr, ℕ, zero, suc, ◌+◌, ◌-◌, ◌%◌, ◌<◌, ◌≤◌, refl, sym, ◌∙◌, ap, subst, arith, Bool, true, false, List, [], ◌∷◌, ◌++◌, length, Option, Some, None}
use Rattle.std.specs.Prelude.{◌==◌, ◌&&◌, ◌||◌, nat_le, nat_lt, Contains, replicate, slice_get, slice_index_or}
use Rattle.std.specs.List.{list_all}
use Rattle.std.proofs.lemmas.Bool.{and_parts}
use Rattle.std.proofs.lemmas.Bool.Decides.{nat_tests}
use Rattle.std.proofs.lemmas.List.{length-replicate}
use Rattle.std.proofs.lemmas.List.Elements.{All-filter}
use Rattle.std.proofs.lemmas.List.Folds.{list_all-append, list_all-map}
use Rattle.std.proofs.lemmas.List.Sums.{AllPass-from_list_all, list_all-from_AllPass}
use Rattle.rv_table.specs.Memory.{code_base}
use Rattle.cmm_chain.specs.declared.frame.Frame.{Frame}
use Rattle.cmm_chain.specs.declared.frame.Location.{Location}
use Rattle.cmm_chain.specs.declared.frame.Location.TheVariants.{Slot, Saved, Temp}
use Rattle.cmm_abi.specs.Registers.{is_callee_saves, callee_saves}
use Rattle.cmm_chain.specs.Plans.{are_distinct, fixed_offsets, is_fresh, is_place, is_register, is_word_in}
use Rattle.cmm_program.specs.declared.procedure.Proc.{Proc}
use Rattle.cmm_program.specs.Bounds.{frame_bound}
use Rattle.cmm_program.specs.Errors.{with_some}
use Rattle.cmm_program.specs.Frames.{frame_size, place_row, procedure_at, room_of, stackdata_offset}
use Rattle.cmm_program.specs.Layout.{stackdata_labels, stackdata_size}
use Rattle.cmm_program.specs.Memory.{Room}
use Rattle.cmm_program.specs.Placed.{are_pairs, is_code_address, is_frame_size, is_stackdata}
use Rattle.cmm_program.specs.State.{Activation, Setting}
use Rattle.cmm_machine_laws.specs.Stacks.{Extent, extent, stackdata_at}
use Rattle.cmm_emit_laws.specs.Represented.{AreWordsAt, IsClear, IsPlaceOf, IsWordAt}
use Rattle.cmm_located.specs.Compiled.{Compiled}
use Rattle.cmm_located.specs.Layouts.{IsFrameOf, has_cut_exit, is_clear, keeps_local, row_with, saved_registers, slot_offset, slot_offsets}
use Rattle.cmm_emit_laws.specs.Laying.{FramesCanBeMade, IsLaidOut, ProceduresAreLaid}

-- ---- a frame can be made

size_within : (p : Proc) (places : List Location) (f : Frame) → IsFrameOf p places f → f.size ≤ frame_bound p
size_within p places f is =
    let row = row_with code_base f in
    let three = (and_parts (is_code_address code_base && is_frame_size p f.size && are_pairs p row) (is_stackdata p row) (is.placed code_base refl)).0 in
    let two = (and_parts (is_code_address code_base && is_frame_size p f.size) (are_pairs p row) three).0 in
    let size = (and_parts (is_code_address code_base) (is_frame_size p f.size) two).1 in
    let within = (and_parts (f.size % 16 == 0) (nat_le f.size (frame_bound p)) size).1 in
    grind (arith, nat_tests, within)

saved_are_callee_saves : (p : Proc) (places : List Location) (f : Frame) → IsFrameOf p places f → list_all (λ word. is_callee_saves word.0) f.saved ≡ true
saved_are_callee_saves p places f is =
    let all : list_all is_callee_saves (saved_registers p places) ≡ true =
    list_all-from_AllPass is_callee_saves (saved_registers p places) (All-filter (λ r. has_cut_exit p || keeps_local r places) (λ r. is_callee_saves r ≡ true) callee_saves (AllPass-from_list_all is_callee_saves callee_saves refl)) in
    sym (list_all-map is_callee_saves (λ s. s.0) f.saved) ∙ ap (list_all is_callee_saves) is.registers ∙ all

pub frames_can_be_made : FramesCanBeMade
frames_can_be_made p places f fits is = record {
  laid = is.laid;
  small = omega (arith, size_within p places f is, fits.stackdata, fits.tokens);
  registers = saved_are_callee_saves p places f is;
}

-- ---- clear of stackdata

-- whether a word at an offset is clear of n bytes from a base on, if there is one
abbrev is_clear_of : Option ℕ → ℕ → ℕ → Bool
is_clear_of (Some base) size offset = is_clear base size offset
is_clear_of None size offset = true

each_clear : (o : Option ℕ) (size : ℕ) (offsets : List ℕ) → elim o as (λ _. Bool) [ Some base ↦ list_all (is_clear base size) offsets | None ↦ true ] ≡ true →
    list_all (is_clear_of o size) offsets ≡ true
each_clear (Some base) size offsets is = is
each_clear None size [] is = refl
each_clear None size (offset ∷ offsets) is = each_clear None size offsets refl

abbrev room_by : Option ℕ → ℕ → ℕ → Room
room_by o at size = elim o as (λ _. Room) [ Some offset ↦ record { address = at + offset; cells = replicate size None } | None ↦ record { address = at; cells = [] } ]

clear_there : (o : Option ℕ) (size at offset : ℕ) → is_clear_of o size offset ≡ true → IsClear (at + offset) (extent (room_by o at size))
clear_there (Some base) size at offset is i less = by (nat_lt (at + offset + i) (at + base)) refl
  where
    count : length (replicate {A = Option ℕ} size None) ≡ size
    count = length-replicate size None

    by : (test : Bool) → nat_lt (at + offset + i) (at + base) ≡ test → (at + offset + i < at + base) ⊎ (at + base + length (replicate {A = Option ℕ} size None) ≤ at + offset + i)
    by true test = inl (grind (arith, nat_tests, test))
    by false test = inr (let e = count in let behind : at + base + size ≤ at + offset + i = grind (arith, nat_tests, test, is, less) in omega (arith, e, behind))
clear_there None size at offset is i less = inr (omega arith)

-- ---- words and places of an activation

module _ (s : Setting) (c : Compiled) (q : ℕ) (laid : IsLaidOut s c q) (a : Activation) (same : a.procedure ≡ q) where
  abbrev f : Frame
  f = c.plan.frame q

  abbrev base : Option ℕ
  base = stackdata_offset laid.procedure (row_with 0 f)

  abbrev bytes : ℕ
  bytes = stackdata_size laid.procedure.stack

  size_is : frame_size s a ≡ f.size
  size_is = ap (λ (n : ℕ). (place_row s n).frame) same ∙ sym laid.size

  base_is : stackdata_offset laid.procedure (place_row s q) ≡ base
  base_is = ap (λ (offsets : List ℕ). with_some (slice_get offsets 0) (λ offset. with_some (slice_get (stackdata_labels laid.procedure.stack) 0) (λ place. Some (offset - place)))) (sym laid.stack)

  abbrev stackdata_by : ℕ → ℕ → Option Proc → Extent
  stackdata_by at n o = elim o as (λ _. Extent) [ Some p ↦ extent (room_of at p (place_row s n)) | None ↦ record { address = at; length = 0 } ]

  stackdata_is : (at : ℕ) → stackdata_at s a at ≡ extent (room_by base at bytes)
  stackdata_is at =
      ap (λ (n : ℕ). stackdata_by at n (procedure_at s n)) same ∙ ap (stackdata_by at q) laid.is_procedure ∙ ap (λ (o : Option ℕ). extent (room_by o at bytes)) base_is

  word_at : (offset : ℕ) → is_word_in f.size offset ≡ true → is_clear_of base bytes offset ≡ true → IsWordAt s a offset
  word_at offset word clear =
      let both = and_parts (offset % 8 == 0) (nat_le (offset + 8) f.size) word in
      record {
        aligned = grind (arith, nat_tests, both.0);
        inside = let within : offset + 8 ≤ f.size = grind (arith, nat_tests, both.1) in omega (arith, within, size_is);
        clear = λ at. subst (IsClear (at + offset)) (sym (stackdata_is at)) (clear_there base bytes at offset clear);
      }

  words_at : (offsets : List ℕ) → list_all (is_word_in f.size) offsets ≡ true → list_all (is_clear_of base bytes) offsets ≡ true → AreWordsAt s a offsets
  words_at [] words clear = tt
  words_at (offset ∷ offsets) words clear =
      let first = and_parts (is_word_in f.size offset) (list_all (is_word_in f.size) offsets) words in
      let second = and_parts (is_clear_of base bytes offset) (list_all (is_clear_of base bytes) offsets) clear in
      (word_at offset first.0 second.0, words_at offsets first.1 second.1)

  -- all of them are clear
  both_clear : (list_all (is_clear_of base bytes) (slot_offsets laid.places) ≡ true) × (list_all (is_clear_of base bytes) (fixed_offsets f) ≡ true)
  both_clear =
      and_parts (list_all (is_clear_of base bytes) (slot_offsets laid.places)) (list_all (is_clear_of base bytes) (fixed_offsets f))
      (sym (list_all-append (is_clear_of base bytes) (slot_offsets laid.places) (fixed_offsets f)) ∙ each_clear base bytes (slot_offsets laid.places ++ fixed_offsets f) laid.frame.clear)

  fixed_words : AreWordsAt s a (fixed_offsets f)
  fixed_words =
      let both = and_parts (f.size % 16 == 0) (list_all (is_word_in f.size) (fixed_offsets f) && are_distinct (fixed_offsets f)) laid.frame.laid in
      words_at (fixed_offsets f) (and_parts (list_all (is_word_in f.size) (fixed_offsets f)) (are_distinct (fixed_offsets f)) both.1).0 both_clear.1

  place_fine : (place : Location) → is_place f place ≡ true → list_all (is_clear_of base bytes) (slot_offset place) ≡ true → IsPlaceOf s a place
  place_fine (Slot offset) is clear =
      word_at offset (and_parts (is_word_in f.size offset) (is_fresh offset (fixed_offsets f)) is).0 (and_parts (is_clear_of base bytes offset) true clear).0
  place_fine (Saved r) is clear = (and_parts (is_callee_saves r) _ is).0
  place_fine (Temp r) is clear = is

  clear_both : (first : Location) (places : List Location) → list_all (is_clear_of base bytes) (slot_offsets (first ∷ places)) ≡ true →
      (list_all (is_clear_of base bytes) (slot_offset first) ≡ true) × (list_all (is_clear_of base bytes) (slot_offsets places) ≡ true)
  clear_both first places clear =
      and_parts (list_all (is_clear_of base bytes) (slot_offset first)) (list_all (is_clear_of base bytes) (slot_offsets places))
      (sym (list_all-append (is_clear_of base bytes) (slot_offset first) (slot_offsets places)) ∙ clear)

  listed : (places : List Location) (place : Location) (k : ℕ) → list_all (is_place f) places ≡ true → list_all (is_clear_of base bytes) (slot_offsets places) ≡ true →
      k < length places → slice_index_or places k place ≡ place → IsPlaceOf s a place
  listed [] place k are clear less here = absurd (omega (arith, less))
  listed (first ∷ places) place zero are clear less here =
      let fine = (and_parts (is_place f first) (list_all (is_place f) places) are).0 in
      subst (IsPlaceOf s a) here (place_fine first fine (clear_both first places clear).0)
  listed (first ∷ places) place (suc k) are clear less here =
      listed places place k (and_parts (is_place f first) (list_all (is_place f) places) are).1 (clear_both first places clear).1 (omega (arith, less)) here

  register_fine : (place : Location) → is_register place ≡ true → IsPlaceOf s a place
  register_fine (Slot offset) is = absurd (cc)
  register_fine (Saved r) is = is
  register_fine (Temp r) is = is

  local_fine : (v : ℕ) → IsPlaceOf s a (c.plan.place q v)
  local_fine v = by (laid.locals v)
    where
      by : Contains laid.places (c.plan.place q v) ⊎ (is_register (c.plan.place q v) ≡ true) → IsPlaceOf s a (c.plan.place q v)
      by (inl here) = listed laid.places (c.plan.place q v) here.0 laid.frame.locals both_clear.0 here.1 here.2
      by (inr is) = register_fine (c.plan.place q v) is

pub procedures_are_laid : ProceduresAreLaid
procedures_are_laid s c q laid = record {
  procedure = laid.procedure;
  is_procedure = laid.is_procedure;
  size = laid.size;
  can = frames_can_be_made laid.procedure laid.places (c.plan.frame q) laid.fits laid.frame;
  words = λ a same. fixed_words s c q laid a same;
  places = λ a v same. local_fine s c q laid a same v;
}
