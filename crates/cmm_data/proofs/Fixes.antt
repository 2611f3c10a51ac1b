-- Which fixes there are, that each has its own bytes, and how they are filled one after another.
use Rattle.std.proofs.Common.{◌≡◌, ℕ, zero, suc, ◌+◌, ◌-◌, ◌*◌, ◌≤◌, refl, sym, ◌∙◌, ap, arith, List, [], ◌∷◌, ◌++◌, length, length-append, length-drop, append_assoc, subst, map, take, drop, Some}
use Rattle.std.specs.Prelude.{flat_map, slice_get}
use Rattle.std.specs.List.{All}
use Rattle.std.proofs.lemmas.List.{length-take-le, map-append}
use Rattle.std.proofs.lemmas.List.Elements.{All-head, All-tail}
use Rattle.cmm_items.proofs.Shared.{apart_within, apart_later}
use Rattle.rv_table.specs.Memory.{data_base}
use Rattle.cmm_words.specs.Widths.{bytes}
use Rattle.cmm_words.specs.declared.width.Width.{Width}
use Rattle.cmm_words.specs.declared.constant.Constant.{Constant}
use Rattle.cmm_words.specs.declared.constant.Constant.TheVariants.{Number, Code, Address}
use Rattle.cmm_program.specs.declared.program.Program.{Program}
use Rattle.cmm_program.specs.declared.program.Datum.{Datum}
use Rattle.cmm_program.specs.Layout.{aligned_up, bytes_of, datum_piece, end_of}
use Rattle.cmm_program.proofs.Shared.{aligned_up-grows}
use Rattle.cmm_data.specs.Conditions.{IsLayable, MayStandIn}
use Rattle.cmm_data.specs.Filling.{AreApart, fix_procedures, procedure_address, procedure_addresses, with_value}
use Rattle.cmm_data.specs.Laws.{FixesAreFilled}
use Rattle.cmm_data.specs.inside.Walking.{fix_by, fixes_from, value_fixes}
use Rattle.cmm_data.specs.declared.fix.Fix.{Fix}
use Rattle.cmm_data.proofs.Sizes.{length-bytes_of, values_within}
use Rattle.cmm_data.proofs.Words.{filled-append}

-- ---- whose addresses they wait for
value_procedures : (place : ℕ) (c : Constant) → fix_procedures (fix_by place c) ≡ procedure_address c
value_procedures place (Number word width) = refl
value_procedures place (Code proc plus) = refl
value_procedures place (Address label plus) = refl

values_procedures : (place : ℕ) (width : Width) (cs : List Constant) → fix_procedures (value_fixes place width cs) ≡ flat_map procedure_address cs
values_procedures place width [] = refl
values_procedures place width (c ∷ cs) =
    map-append (λ (f : Fix). (f.procedure, f.plus)) (fix_by place c) (value_fixes (place + bytes width) width cs)
    ∙ ap (λ (xs : List (ℕ × ℕ)). xs ++ fix_procedures (value_fixes (place + bytes width) width cs)) (value_procedures place c)
    ∙ ap (λ (xs : List (ℕ × ℕ)). procedure_address c ++ xs) (values_procedures (place + bytes width) width cs)

all_procedures : (place : ℕ) (ds : List Datum) → fix_procedures (fixes_from place ds) ≡ flat_map (λ (d : Datum). flat_map procedure_address d.values) ds
all_procedures place [] = refl
all_procedures place (d ∷ ds) =
    let at = aligned_up d.align place in
    let mine = value_fixes (at - data_base) d.width d.values in
    let rest = fixes_from (at + d.length) ds in
    map-append (λ (f : Fix). (f.procedure, f.plus)) mine rest
    ∙ ap (λ (xs : List (ℕ × ℕ)). xs ++ fix_procedures rest) (values_procedures (at - data_base) d.width d.values)
    ∙ ap (λ (xs : List (ℕ × ℕ)). flat_map procedure_address d.values ++ xs) (all_procedures (at + d.length) ds)

pub procedures_are : (p : Program) → fix_procedures (fixes_from data_base p.datums) ≡ procedure_addresses p
procedures_are p = all_procedures data_base p.datums

-- ---- each has eight bytes of its own
value_apart : (place size : ℕ) (width : Width) (c : Constant) (fs : List Fix) → MayStandIn width c → AreApart (place + bytes width) fs size → AreApart place (fix_by place c ++ fs) size
value_apart place size width (Number word own) fs may apart = apart_later (λ (f : Fix). f.place) place (place + bytes width) size fs (omega arith) apart
value_apart place size width (Address label plus) fs may apart = apart_later (λ (f : Fix). f.place) place (place + bytes width) size fs (omega arith) apart
value_apart place size width (Code proc plus) fs may apart =
    let P : Width → Type 0 = λ w. AreApart (place + bytes w) fs size in
    (omega arith, subst P may apart)

values_apart : (place size : ℕ) (width : Width) (cs : List Constant) (fs : List Fix) → All (MayStandIn width) cs → AreApart (place + length cs * bytes width) fs size →
    AreApart place (value_fixes place width cs ++ fs) size
values_apart place size width [] fs may apart = apart_later (λ (f : Fix). f.place) place (place + 0 * bytes width) size fs (omega arith) apart
values_apart place size width (c ∷ cs) fs may apart =
    let n = bytes width in
    let on : place + suc (length cs) * n ≡ place + n + length cs * n = omega arith in
    let rest : AreApart (place + n) (value_fixes (place + n) width cs ++ fs) size =
    values_apart (place + n) size width cs fs (All-tail (MayStandIn width) c cs may) (rw on at apart)
    in
    subst (λ (gs : List Fix). AreApart place gs size)
    (sym (append_assoc (fix_by place c) (value_fixes (place + n) width cs) fs))
    (value_apart place size width c (value_fixes (place + n) width cs ++ fs) (All-head (MayStandIn width) c cs may) rest)

pub all_apart : (labels place : ℕ) (ds : List Datum) → data_base ≤ place → All (IsLayable labels) ds →
    AreApart (place - data_base) (fixes_from place ds) (end_of place (map datum_piece ds) - data_base)
all_apart labels place [] from layable = omega arith
all_apart labels place (d ∷ ds) from layable =
    let here : IsLayable labels d = All-head (IsLayable labels) d ds layable in
    let at = aligned_up d.align place in
    let size = end_of (at + d.length) (map datum_piece ds) - data_base in
    let rest = fixes_from (at + d.length) ds in
    let grows : place ≤ at = aligned_up-grows d.align place here.align in
    let behind : AreApart (at + d.length - data_base) rest size =
    all_apart labels (at + d.length) ds (omega (arith, from, grows)) (All-tail (IsLayable labels) d ds layable)
    in
    let left : at - data_base + length d.values * bytes d.width ≤ at + d.length - data_base = omega (arith, values_within d here.length, from, grows) in
    let mine : AreApart (at - data_base) (value_fixes (at - data_base) d.width d.values ++ rest) size =
    values_apart (at - data_base) size d.width d.values rest here.width (apart_later (λ (f : Fix). f.place) (at - data_base + length d.values * bytes d.width) (at + d.length - data_base) size rest left behind)
    in
    apart_later (λ (f : Fix). f.place) (place - data_base) (at - data_base) size (value_fixes (at - data_base) d.width d.values ++ rest) (omega (arith, grows)) mine

-- ---- one after another

length-with_value : (value place : ℕ) (bytes : List ℕ) → place + 8 ≤ length bytes → length (with_value value place bytes) ≡ length bytes
length-with_value value place bytes within =
    omega (
      arith,
      length-append (take place bytes) (bytes_of 8 value ++ drop (place + 8) bytes),
      length-append (bytes_of 8 value) (drop (place + 8) bytes),
      length-bytes_of 8 value,
      length-take-le place bytes (omega arith),
      length-drop (place + 8) bytes,
    )

pub fixes_are_filled : FixesAreFilled
fixes_are_filled = record {
  more = λ code fixes f bytes. filled-append code fixes (f ∷ []) bytes;
  within = apart_within (λ f. f.place);
  kept = length-with_value;
}
