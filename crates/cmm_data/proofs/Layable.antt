-- The data of programs in range can be laid out.
use Rattle.std.proofs.Common.{◌≡◌, ℕ, ◌*◌, ◌≤◌, ◌<◌, refl, ap, arith, Bool, true, false, List, [], ◌∷◌, length, Some, None}
use Rattle.std.specs.Prelude.{◌==◌, ◌&&◌, nat_lt, nat_le, IsTrue}
use Rattle.std.specs.List.{All, list_all}
use Rattle.std.proofs.lemmas.Bool.Decides.{nat_tests}
use Rattle.std.proofs.lemmas.List.Elements.{All-nil, All-cons}
use Rattle.rv_table.specs.Memory.{data_base}
use Rattle.cmm_words.specs.Widths.{bytes}
use Rattle.cmm_words.specs.declared.width.Width.{Width}
use Rattle.cmm_words.specs.declared.width.Width.TheVariants.{W8, W16, W32, W64}
use Rattle.cmm_words.specs.declared.constant.Constant.{Constant}
use Rattle.cmm_words.specs.declared.constant.Constant.TheVariants.{Number, Code, Address}
use Rattle.cmm_program.specs.declared.program.Program.{Program}
use Rattle.cmm_program.specs.declared.program.Datum.{Datum}
use Rattle.cmm_program.specs.declared.program.Label.{Label}
use Rattle.cmm_program.specs.InRange.{is_datum, is_initial, is_label}
use Rattle.cmm_program.specs.Typing.{if_holds, is_alignment, same_width}
use Rattle.cmm_data.specs.Conditions.{IsLayable, IsOnDatum, IsThere, MayStandIn}
use Rattle.cmm_data.specs.Laws.{DataReachesItsEnd, InRangeCanBeLaidOut}
use Rattle.cmm_data.proofs.Ends.{end_of_all}
use Rattle.cmm_data.proofs.Sizes.{length-bytes_by}
use Rattle.cmm_data.proofs.Words.{data_by, word}

-- a list whose elements pass a test
all_by : {A : Type 0} (test : A → Bool) (P : A → Type 0) (xs : List A) → ((x : A) → IsTrue (test x) → P x) → IsTrue (list_all test xs) → All P xs
all_by test P [] gives h = All-nil P
all_by test P (x ∷ xs) gives h =
    let first : IsTrue (test x) = grind (arith, nat_tests, h) in
    let rest : IsTrue (list_all test xs) = grind (arith, nat_tests, h) in
    All-cons P x xs (gives x first) (all_by test P xs gives rest)

eight : (width : Width) → IsTrue (same_width W64 width) → width ≡ W64
eight W8 h = absurd (cc)
eight W16 h = absurd (cc)
eight W32 h = absurd (cc)
eight W64 h = refl

-- what is there, and has this width
holds_there : (test : Bool) (width : Width) → IsTrue (elim (if_holds test W64) [ Some found ↦ same_width found width | None ↦ false ]) → IsTrue test
holds_there true width h = refl
holds_there false width h = absurd (cc)

holds_width : (test : Bool) (width : Width) → IsTrue (elim (if_holds test W64) [ Some found ↦ same_width found width | None ↦ false ]) → width ≡ W64
holds_width true width h = eight width h
holds_width false width h = absurd (cc)

module _ (p : Program) where
  is_there : (width : Width) (c : Constant) → IsTrue (is_initial p width c) → IsThere (length p.labels) c
  is_there width (Number word own) h = tt
  is_there width (Code proc plus) h = tt
  is_there width (Address label plus) h =
      let test : IsTrue (nat_lt label (length p.labels)) = holds_there (nat_lt label (length p.labels)) width h in
      grind (arith, nat_tests, test)

  may_stand : (width : Width) (c : Constant) → IsTrue (is_initial p width c) → MayStandIn width c
  may_stand width (Number word own) h = tt
  may_stand width (Code proc plus) h = holds_width (nat_lt proc (length p.procs)) width h
  may_stand width (Address label plus) h = tt

  -- the values of a datum
  abbrev filling : ℕ → Width → List Constant → Bool
  filling size width values = elim values as (λ _. Bool) [ [] ↦ true | _ ∷ _ ↦ (size == length values * bytes width) && list_all (is_initial p width) values ]

  fill : (size : ℕ) (width : Width) (values : List Constant) → IsTrue (filling size width values) →
      elim values as (λ _. Type 0) [ [] ↦ Unit {0} | _ ∷ _ ↦ size ≡ length values * bytes width ]
  fill size width [] h = tt
  fill size width (c ∷ cs) h = grind (arith, nat_tests, h)

  initial : (size : ℕ) (width : Width) (values : List Constant) → IsTrue (filling size width values) → IsTrue (list_all (is_initial p width) values)
  initial size width [] h = refl
  initial size width (c ∷ cs) h = grind (arith, nat_tests, h)

  aligned : (align : ℕ) → IsTrue (is_alignment align) → 0 < align
  aligned align h = grind (arith, nat_tests, h)

  layable : (d : Datum) → IsTrue (is_datum p d) → IsLayable (length p.labels) d
  layable d h =
      let align : IsTrue (is_alignment d.align) = grind (arith, nat_tests, h) in
      let values : IsTrue (filling d.length d.width d.values) = grind (arith, nat_tests, h) in
      let known = initial d.length d.width d.values values in
      record {
        align = aligned d.align align;
        length = fill d.length d.width d.values values;
        there = all_by (is_initial p d.width) (IsThere (length p.labels)) d.values (is_there d.width) known;
        width = all_by (is_initial p d.width) (MayStandIn d.width) d.values (may_stand d.width) known;
      }

  on : (datums number : ℕ) (at_end : Bool) → IsTrue (elim at_end as (λ _. Bool) [ true ↦ nat_le number datums | false ↦ nat_lt number datums ]) →
      elim at_end as (λ _. Type 0) [ true ↦ number ≤ datums | false ↦ number < datums ]
  on datums number true h = grind (arith, nat_tests, h)
  on datums number false h = grind (arith, nat_tests, h)

  on_datum : (l : Label) → IsTrue (is_label p l) → IsOnDatum (length p.datums) l
  on_datum l h =
      let test : IsTrue (elim l.at_end [ true ↦ nat_le l.datum (length p.datums) | false ↦ nat_lt l.datum (length p.datums) ]) = grind (arith, nat_tests, h) in
      on (length p.datums) l.datum l.at_end test

pub in_range_can : InRangeCanBeLaidOut
in_range_can p range = record {
  datums = all_by (is_datum p) (IsLayable (length p.labels)) p.datums (layable p) range.datums;
  labels = all_by (is_label p) (IsOnDatum (length p.datums)) p.labels (on_datum p) range.labels;
  size = omega (arith, range.data_size);
}

pub data_reaches : DataReachesItsEnd
data_reaches p placement can =
    let same = ap length (data_by p placement) in
    let reach = length-bytes_by (word p placement) (length p.labels) data_base p.datums can.datums in
    omega (arith, same, reach, end_of_all p)
