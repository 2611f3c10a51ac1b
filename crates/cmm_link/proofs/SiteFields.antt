-- The fields of a site's row keep the conditions of an image.
use Rattle.std.proofs.Common.{◌≡◌, ℕ, zero, suc, ◌+◌, ◌<◌, ◌≤◌, ◌^◌, ◌%◌, ◌&&◌, ◌==◌, nat_le, nat_lt, Bool, true, false, Option, Some, None, All, List, [], ◌∷◌, length, map, refl, subst, arith}
use Rattle.std.proofs.lemmas.Bool.{and_parts, leb-true, ltb-true}
use Rattle.std.proofs.lemmas.List.Elements.{All-head, All-tail}
use Rattle.std.specs.List.{list_all, range_with_len}
use Rattle.std.specs.Option.{option_map}
use Rattle.std.specs.Prelude.{slice_index}
use Rattle.cmm_words.specs.declared.constant.Constant.{Constant}
use Rattle.cmm_words.specs.declared.width.Width.{Width}
use Rattle.cmm_link.proofs.ProcedureRows.{width_holds}
use Rattle.cmm_program.specs.declared.program.Program.{Program}
use Rattle.cmm_program.specs.declared.procedure.Proc.{Proc}
use Rattle.cmm_program.specs.InRange.{are_spans, below}
use Rattle.cmm_program.specs.Typing.{constant_width}
use Rattle.std.specs.Option.{is_some}
use Rattle.cmm_chain.specs.declared.frame.Frame.{Frame}
use Rattle.cmm_chain.specs.declared.frame.Location.{Location}
use Rattle.cmm_chain.specs.declared.frame.Location.TheVariants.{Slot, Saved, Temp}
use Rattle.cmm_chain.specs.Plans.{fixed_offsets, is_fresh, is_place, is_register, is_word_in, saved_in}
use Rattle.cmm_image.specs.declared.rows.SpanRow.{SpanRow}
use Rattle.cmm_image.specs.declared.rows.ContinuationNumber.{ContinuationNumber}
use Rattle.cmm_image.specs.declared.rows.UnwindRow.{UnwindRow}
use Rattle.cmm_image.specs.declared.rows.VariablePlace.{VariablePlace}
use Rattle.cmm_format.specs.Formats.{AreRows}
use Rattle.cmm_image.specs.ImageFormat as image
use Rattle.cmm_image.specs.ImageFormat.{flags, is_above, is_in_code, span, unwind, width}
use Rattle.cmm_image.specs.Places.{IsPlace, variable_place}
use Rattle.cmm_link.specs.inside.Named.{IsSmallSpan}
use Rattle.cmm_tables.specs.SiteRows.{continuation_number, local_place, place_while, span_row, unwind_row}

-- ---- exits

exit_holds : (count : ℕ) (previous : Option ContinuationNumber) (k : ℕ) → count ≤ 65536 → nat_lt k count ≡ true → (image.continuation_number count previous).Holds (continuation_number k)
exit_holds count previous k few less = (omega (arith, few, ltb-true k count less), (less, tt))

pub exits_hold : (count : ℕ) (previous : Option ContinuationNumber) (ks : List ℕ) → count ≤ 65536 → list_all (below count) ks ≡ true →
    AreRows (λ previous. (image.continuation_number count previous).Holds) previous (map continuation_number ks)
exits_hold count previous [] few are = tt
exits_hold count previous (k ∷ ks) few are =
    let both = and_parts (nat_lt k count) (list_all (below count) ks) are in
    (exit_holds count previous k few both.0, exits_hold count (Some (continuation_number k)) ks few both.1)

-- the landing of a continuation is in code
pub landing_at : (code_length : ℕ) (landings : List ℕ) (k : ℕ) → list_all (is_in_code code_length) landings ≡ true → k < length landings →
    is_in_code code_length (slice_index landings k) ≡ true
landing_at code_length [] k are less = absurd (omega arith)
landing_at code_length (l ∷ ls) zero are less = (and_parts (is_in_code code_length l) (list_all (is_in_code code_length) ls) are).0
landing_at code_length (l ∷ ls) (suc k) are less =
    landing_at code_length ls k (and_parts (is_in_code code_length l) (list_all (is_in_code code_length) ls) are).1 (omega (arith, less))

pub unwinds_hold : (code_length count : ℕ) (previous : Option UnwindRow) (landings ks : List ℕ) → count ≤ 65536 → ((address : ℕ) → is_in_code code_length address ≡ true → address < 2 ^ 31) →
    list_all (is_in_code code_length) landings ≡ true → length landings ≡ count → list_all (below count) ks ≡ true →
    AreRows (λ previous. (unwind code_length count previous).Holds) previous (map (unwind_row (λ k. slice_index landings k)) (map continuation_number ks))
unwinds_hold code_length count previous landings [] few small inside many are = tt
unwinds_hold code_length count previous landings (k ∷ ks) few small inside many are =
    let both = and_parts (nat_lt k count) (list_all (below count) ks) are in
    let there = landing_at code_length landings k inside (omega (arith, many, ltb-true k count both.0)) in
    let word = small (slice_index landings k) there in (
      (exit_holds count None k few both.0, (omega (arith, word), (there, tt))),
      unwinds_hold code_length count (Some (unwind_row (λ k. slice_index landings k) (continuation_number k))) landings ks few small inside many both.1,
    )

-- ---- results and flags

pub widths_hold : (previous : Option Width) (ws : List Width) → AreRows (λ previous. width.Holds) previous ws
widths_hold previous [] = tt
widths_hold previous (w ∷ ws) = (width_holds w, widths_hold (Some w) ws)

pub flags_hold : (never aborts : Bool) → flags.Holds (never, aborts)
flags_hold true true = (omega arith, (refl, tt))
flags_hold true false = (omega arith, (refl, tt))
flags_hold false true = (omega arith, (refl, tt))
flags_hold false false = (omega arith, (refl, tt))

-- ---- places of variables

place_fits : (f : Frame) (b : Bool) (l : Location) → f.size < 2 ^ 31 → is_place f l ≡ true → IsPlace f.size (place_while b l)
place_fits f true (Slot offset) small is =
    let word = (and_parts (is_word_in f.size offset) (is_fresh offset (fixed_offsets f)) is).0 in
    let inside = (and_parts (offset % 8 == 0) (nat_le (offset + 8) f.size) word).1 in
    (omega (arith, small, leb-true (offset + 8) f.size inside), inside)
place_fits f true (Saved r) small is = (and_parts (is_register (Saved r)) (is_some (saved_in f.saved r)) is).0
place_fits f true (Temp r) small is = tt
place_fits f false (Slot offset) small is = tt
place_fits f false (Saved r) small is = tt
place_fits f false (Temp r) small is = tt

local_fits : (f : Frame) (b : Bool) (places : List Location) (v : ℕ) → f.size < 2 ^ 31 → list_all (is_place f) places ≡ true → IsPlace f.size (place_while b (local_place places v))
local_fits f true [] v small are = tt
local_fits f false [] v small are = tt
local_fits f b (l ∷ ls) zero small are = place_fits f b l small (and_parts (is_place f l) (list_all (is_place f) ls) are).0
local_fits f b (l ∷ ls) (suc v) small are = local_fits f b ls v small (and_parts (is_place f l) (list_all (is_place f) ls) are).1

pub places_hold : (f : Frame) (live : ℕ → Bool) (places : List Location) (previous : Option VariablePlace) (from count : ℕ) → f.size < 2 ^ 31 → list_all (is_place f) places ≡ true →
    AreRows (λ previous. (variable_place f.size previous).Holds) previous (map (λ v. place_while (live v) (local_place places v)) (range_with_len from count))
places_hold f live places previous from zero small are = tt
places_hold f live places previous from (suc count) small are =
    (local_fits f (live from) places from small are, places_hold f live places (Some (place_while (live from) (local_place places from))) (from + 1) count small are)

-- ---- spans

pub spans_hold : (p : Program) (q : Proc) (value : Constant → ℕ) (previous : Option SpanRow) (spans : List (ℕ × Constant)) →
    ((s : ℕ × Constant) (rest : List (ℕ × Constant)) → spans ≡ s ∷ rest → is_above (option_map (λ s. s.token) previous) s.0 ≡ true) → are_spans p q spans ≡ true →
    All IsSmallSpan (map (span_row value) spans) → AreRows (λ previous. (span previous).Holds) previous (map (span_row value) spans)
spans_hold p q value previous [] first are small = tt
spans_hold p q value previous (s ∷ []) first are small =
    let here : IsSmallSpan (span_row value s) = All-head IsSmallSpan (span_row value s) [] small in
    let token = here.token in let known = here.value in
    (((omega (arith, token), (first s [] refl, tt)), omega (arith, known)), tt)
spans_hold p q value previous (s ∷ t ∷ rest) first are small =
    let here : IsSmallSpan (span_row value s) = All-head IsSmallSpan (span_row value s) (map (span_row value) (t ∷ rest)) small in
    let token = here.token in let known = here.value in
    let both = and_parts (is_some (constant_width p s.1) && nat_lt s.0 t.0) (are_spans p q (t ∷ rest)) are in
    let up = (and_parts (is_some (constant_width p s.1)) (nat_lt s.0 t.0) both.0).1 in (
      ((omega (arith, token), (first s (t ∷ rest) refl, tt)), omega (arith, known)),
      spans_hold p q value (Some (span_row value s)) (t ∷ rest)
          (λ u more is. let same : t.0 ≡ u.0 = cc (is) in subst (λ (n : ℕ). nat_lt s.0 n ≡ true) same up) both.1
          (All-tail IsSmallSpan (span_row value s) (map (span_row value) (t ∷ rest)) small),
    )
