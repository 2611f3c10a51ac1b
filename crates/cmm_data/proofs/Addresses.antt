-- The addresses of labels lie in the data.
use Rattle.std.proofs.Common.{◌≡◌, ℕ, zero, suc, ◌+◌, ◌≤◌, ◌<◌, refl, sym, ◌∙◌, ap, arith, List, [], ◌∷◌, length, map, take, true, false, Bool}
use Rattle.std.specs.Prelude.{slice_index_or}
use Rattle.std.specs.List.{All}
use Rattle.std.proofs.lemmas.List.Elements.{All-cons, All-head, All-nil, All-tail, All-weaker}
use Rattle.rv_table.specs.Memory.{data_base}
use Rattle.cmm_program.specs.declared.program.Program.{Program}
use Rattle.cmm_program.specs.declared.program.Datum.{Datum}
use Rattle.cmm_program.specs.declared.program.Label.{Label}
use Rattle.cmm_program.specs.Layout.{aligned_up, datum_address, datum_piece, end_before, end_of, label_address, starts}
use Rattle.cmm_program.proofs.Shared.{aligned_up-grows}
use Rattle.cmm_data.specs.Conditions.{HasAlignment, IsLayable, IsOnDatum}
use Rattle.cmm_data.specs.Laws.{LabelsLieInData, LiesInData}
use Rattle.cmm_data.proofs.Ends.{end_of_all, ends_grow, ends_within}

-- no datum ends before the place from which data is laid
ends_behind : (place n : ℕ) (ds : List Datum) → All HasAlignment ds → place ≤ end_of place (take n (map datum_piece ds))
ends_behind place zero ds all = omega arith
ends_behind place (suc n) [] all = omega arith
ends_behind place (suc n) (d ∷ ds) all =
    let here : 0 < d.align = All-head HasAlignment d ds all in
    let rest = ends_behind (aligned_up d.align place + d.length) n ds (All-tail HasAlignment d ds all) in
    omega (arith, aligned_up-grows d.align place here, rest)

abbrev start_of : ℕ → List Datum → ℕ → ℕ
start_of place ds n = slice_index_or (starts place (map datum_piece ds)) n 0

-- a datum that is there begins between that place and the end of all
starts_between : (place n : ℕ) (ds : List Datum) → All HasAlignment ds → n < length ds → (place ≤ start_of place ds n) × (start_of place ds n ≤ end_of place (map datum_piece ds))
starts_between place n [] all less = absurd (omega arith)
starts_between place zero (d ∷ ds) all less =
    let here : 0 < d.align = All-head HasAlignment d ds all in
    let rest = ends_grow (aligned_up d.align place + d.length) ds (All-tail HasAlignment d ds all) in
    (aligned_up-grows d.align place here, omega (arith, rest))
starts_between place (suc n) (d ∷ ds) all less =
    let here : 0 < d.align = All-head HasAlignment d ds all in
    let rest = starts_between (aligned_up d.align place + d.length) n ds (All-tail HasAlignment d ds all) (omega arith) in
    (omega (arith, aligned_up-grows d.align place here, rest.0), rest.1)

module _ (p : Program) (all : All HasAlignment p.datums) where
  label_between : (number : ℕ) (at_end : Bool) → elim at_end as (λ _. Type 0) [ true ↦ number ≤ length p.datums | false ↦ number < length p.datums ] →
      LiesInData p (elim at_end [ true ↦ end_before p number | false ↦ datum_address p number ])
  label_between number true there = record {
    from = ends_behind data_base number p.datums all;
    to = omega (arith, ends_within data_base number p.datums all, end_of_all p);
  }
  label_between number false there =
      let between = starts_between data_base number p.datums all there in
      record { from = between.0; to = omega (arith, between.1, end_of_all p) }

  all_between : (labels : List Label) → All (IsOnDatum (length p.datums)) labels → All (LiesInData p) (map (label_address p) labels)
  all_between [] there = All-nil (LiesInData p)
  all_between (l ∷ ls) there =
      All-cons (LiesInData p) (label_address p l) (map (label_address p) ls)
      (label_between l.datum l.at_end (All-head (IsOnDatum (length p.datums)) l ls there)) (all_between ls (All-tail (IsOnDatum (length p.datums)) l ls there))

pub labels_lie_in_data : LabelsLieInData
labels_lie_in_data p can =
    all_between p (All-weaker (IsLayable (length p.labels)) HasAlignment (λ d layable. layable.align) p.datums can.datums) p.labels can.labels
