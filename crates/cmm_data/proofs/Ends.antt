-- Where data ends, as a list.
use Rattle.std.proofs.Common.{◌≡◌, ℕ, zero, suc, ◌+◌, ◌^◌, ◌≤◌, ◌<◌, refl, sym, ◌∙◌, ap, arith, List, [], ◌∷◌, length, map, take, Some, true, false, Bool}
use Rattle.std.specs.Prelude.{slice_get, slice_index_or}
use Rattle.std.specs.List.{All}
use Rattle.std.proofs.lemmas.List.{take_all, length-map}
use Rattle.std.proofs.lemmas.List.Elements.{All-head, All-tail}
use Rattle.rv_table.specs.Memory.{data_base}
use Rattle.cmm_program.specs.declared.program.Program.{Program}
use Rattle.cmm_program.specs.declared.program.Datum.{Datum}
use Rattle.cmm_program.specs.declared.program.Label.{Label}
use Rattle.cmm_program.specs.Layout.{aligned_up, datum_piece, end_before, end_of, starts}
use Rattle.cmm_program.proofs.Shared.{aligned_up-grows}
use Rattle.cmm_data.specs.Conditions.{HasAlignment, IsOnDatum}
use Rattle.cmm_data.specs.inside.Walking.{address_in, ends_from}

length-ends : (place : ℕ) (ds : List Datum) → length (ends_from place ds) ≡ length ds + 1
length-ends place [] = refl
length-ends place (d ∷ ds) = let rest = length-ends (aligned_up d.align place + d.length) ds in omega (arith, rest)

end_at : (place : ℕ) (ds : List Datum) (n : ℕ) → n ≤ length ds → slice_index_or (ends_from place ds) n 0 ≡ end_of place (take n (map datum_piece ds))
end_at place [] zero h = refl
end_at place [] (suc n) h = absurd (omega arith)
end_at place (d ∷ ds) zero h = refl
end_at place (d ∷ ds) (suc n) h = end_at (aligned_up d.align place + d.length) ds n (omega arith)

start_at : (place : ℕ) (ds : List Datum) (n : ℕ) (d : Datum) → slice_get ds n ≡ Some d →
    slice_index_or (starts place (map datum_piece ds)) n 0 ≡ aligned_up d.align (end_of place (take n (map datum_piece ds)))
start_at place [] n d is = absurd (cc)
start_at place (e ∷ ds) zero d is = let same : e ≡ d = cc in ap (λ (d : Datum). aligned_up d.align place) same
start_at place (e ∷ ds) (suc n) d is = start_at (aligned_up e.align place + e.length) ds n d is

-- no datum ends before a place that it is laid out from
pub ends_grow : (place : ℕ) (ds : List Datum) → All HasAlignment ds → place ≤ end_of place (map datum_piece ds)
ends_grow place [] all = omega arith
ends_grow place (d ∷ ds) all =
    let here : 0 < d.align = All-head HasAlignment d ds all in
    let rest = ends_grow (aligned_up d.align place + d.length) ds (All-tail HasAlignment d ds all) in
    omega (arith, aligned_up-grows d.align place here, rest)

pub ends_within : (place n : ℕ) (ds : List Datum) → All HasAlignment ds → end_of place (take n (map datum_piece ds)) ≤ end_of place (map datum_piece ds)
ends_within place zero ds all = ends_grow place ds all
ends_within place (suc n) [] all = omega arith
ends_within place (suc n) (d ∷ ds) all = ends_within (aligned_up d.align place + d.length) n ds (All-tail HasAlignment d ds all)

-- the end of all data
pub end_of_all : (p : Program) → end_before p (length p.datums) ≡ end_of data_base (map datum_piece p.datums)
end_of_all p =
    let count : length (map datum_piece p.datums) ≤ length p.datums = omega (arith, length-map p.datums datum_piece) in
    ap (end_of data_base) (take_all (length p.datums) (map datum_piece p.datums) count)

-- ---- a label's number is that of an end
most : (datums number : ℕ) (at_end : Bool) → elim at_end as (λ _. Type 0) [ true ↦ number ≤ datums | false ↦ number < datums ] → number ≤ datums
most datums number true h = h
most datums number false h = omega arith

pub number_at_most : (datums : ℕ) (l : Label) → IsOnDatum datums l → l.datum ≤ datums
number_at_most datums l there = most datums l.datum l.at_end there

pub number_within : (ds : List Datum) (l : Label) (ends : List ℕ) → IsOnDatum (length ds) l → ends ≡ ends_from data_base ds → l.datum < length ends
number_within ds l ends there is = omega (arith, number_at_most (length ds) l there, length-ends data_base ds, ap length is)

below : (datums number : ℕ) (at_end : Bool) → at_end ≡ false → elim at_end as (λ _. Type 0) [ true ↦ number ≤ datums | false ↦ number < datums ] → number < datums
below datums number true is h = absurd (cc)
below datums number false is h = h

pub number_below : (datums : ℕ) (l : Label) → l.at_end ≡ false → IsOnDatum datums l → l.datum < datums
number_below datums l is there = below datums l.datum l.at_end is there

pub end_small : (ds : List Datum) (l : Label) (ends : List ℕ) → IsOnDatum (length ds) l → All HasAlignment ds →
    end_of data_base (map datum_piece ds) ≤ data_base + 2 ^ 32 → ends ≡ ends_from data_base ds → slice_index_or ends l.datum 0 ≤ data_base + 2 ^ 32
end_small ds l ends there all size is =
    let value : slice_index_or ends l.datum 0 ≡ end_of data_base (take l.datum (map datum_piece ds)) =
    ap (λ (ends : List ℕ). slice_index_or ends l.datum 0) is ∙ end_at data_base ds l.datum (number_at_most (length ds) l there)
    in
    omega (arith, value, ends_within data_base l.datum ds all, size)

-- ---- the address of a label
chosen : (at_end : Bool) (a b : ℕ) → at_end ≡ true → a ≡ elim at_end [ true ↦ a | false ↦ b ]
chosen true a b is = refl
chosen false a b is = absurd (cc)

other : (at_end : Bool) (a b : ℕ) → at_end ≡ false → b ≡ elim at_end [ true ↦ a | false ↦ b ]
other true a b is = absurd (cc)
other false a b is = refl

pub address_at_end : (ds : List Datum) (l : Label) (ends : List ℕ) → l.at_end ≡ true → IsOnDatum (length ds) l → ends ≡ ends_from data_base ds →
    slice_index_or ends l.datum 0 ≡ address_in ds l
address_at_end ds l ends is there ends_are =
    ap (λ (ends : List ℕ). slice_index_or ends l.datum 0) ends_are
    ∙ end_at data_base ds l.datum (number_at_most (length ds) l there)
    ∙ chosen l.at_end (end_of data_base (take l.datum (map datum_piece ds))) (slice_index_or (starts data_base (map datum_piece ds)) l.datum 0) is

pub address_on : (ds : List Datum) (l : Label) (ends : List ℕ) (d : Datum) → l.at_end ≡ false → slice_get ds l.datum ≡ Some d → IsOnDatum (length ds) l →
    ends ≡ ends_from data_base ds → aligned_up d.align (slice_index_or ends l.datum 0) ≡ address_in ds l
address_on ds l ends d is at there ends_are =
    ap (aligned_up d.align)
    (ap (λ (ends : List ℕ). slice_index_or ends l.datum 0) ends_are ∙ end_at data_base ds l.datum (number_at_most (length ds) l there))
    ∙ sym (start_at data_base ds l.datum d at)
    ∙ other l.at_end (end_of data_base (take l.datum (map datum_piece ds))) (slice_index_or (starts data_base (map datum_piece ds)) l.datum 0) is
