-- How many bytes words and data take.
use Rattle.std.proofs.Common.{◌≡◌, ◌≢◌, ℕ, zero, suc, ◌+◌, ◌-◌, ◌*◌, ◌/◌, ◌≤◌, ◌<◌, refl, sym, ◌∙◌, ap, arith, List, [], ◌∷◌, length, map, length-append}
use Rattle.std.specs.Prelude.{replicate}
use Rattle.std.specs.List.{All}
use Rattle.std.proofs.lemmas.List.{length-replicate}
use Rattle.std.proofs.lemmas.List.Elements.{All-head, All-tail}
use Rattle.cmm_words.specs.Widths.{bytes}
use Rattle.cmm_words.specs.declared.width.Width.{Width}
use Rattle.cmm_words.specs.declared.width.Width.TheVariants.{W8, W16, W32, W64}
use Rattle.cmm_words.specs.declared.constant.Constant.{Constant}
use Rattle.cmm_program.specs.declared.program.Datum.{Datum}
use Rattle.cmm_program.specs.Layout.{aligned_up, bytes_of, datum_piece, end_of}
use Rattle.cmm_program.proofs.Shared.{aligned_up-grows}
use Rattle.cmm_data.specs.Conditions.{Fill, IsLayable}
use Rattle.cmm_data.specs.inside.Walking.{bytes_by, datum_by, padded, value_bytes}

pub bytes_positive : (width : Width) → 0 < bytes width
bytes_positive W8 = omega arith
bytes_positive W16 = omega arith
bytes_positive W32 = omega arith
bytes_positive W64 = omega arith

pub length-bytes_of : (n value : ℕ) → length (bytes_of n value) ≡ n
length-bytes_of zero value = refl
length-bytes_of (suc n) value = ap suc (length-bytes_of n (value / 256))

module _ (word : Constant → ℕ) where
  pub length-value_bytes : (width : Width) (cs : List Constant) → length (value_bytes word width cs) ≡ length cs * bytes width
  length-value_bytes width [] = omega arith
  length-value_bytes width (c ∷ cs) =
      length-append (bytes_of (bytes width) (word c)) (value_bytes word width cs)
      ∙ omega (arith, length-bytes_of (bytes width) (word c), length-value_bytes width cs)

  length-datum_by : (size : ℕ) (width : Width) (cs : List Constant) → elim cs as (λ _. Type 0) [ [] ↦ Unit {0} | _ ∷ _ ↦ size ≡ length cs * bytes width ] →
      length (elim cs as (λ _. List ℕ) [ [] ↦ replicate size 0 | _ ∷ _ ↦ value_bytes word width cs ]) ≡ size
  length-datum_by size width [] fill = length-replicate size 0
  length-datum_by size width (c ∷ cs) fill = length-value_bytes width (c ∷ cs) ∙ sym fill

  pub length-datum : (d : Datum) → Fill d → length (datum_by word d) ≡ d.length
  length-datum d fill = length-datum_by d.length d.width d.values fill

  pub length-padded : (place : ℕ) (d : Datum) → 0 < d.align → Fill d → place + length (padded word place d) ≡ aligned_up d.align place + d.length
  length-padded place d aligned fill =
      omega (
        arith,
        length-append (replicate (aligned_up d.align place - place) 0) (datum_by word d),
        length-replicate {A = ℕ} (aligned_up d.align place - place) 0,
        length-datum d fill,
        aligned_up-grows d.align place aligned,
      )

  -- the bytes of data reach to its end
  pub length-bytes_by : (labels place : ℕ) (ds : List Datum) → All (IsLayable labels) ds → place + length (bytes_by word place ds) ≡ end_of place (map datum_piece ds)
  length-bytes_by labels place [] all = omega arith
  length-bytes_by labels place (d ∷ ds) all =
      let here : IsLayable labels d = All-head (IsLayable labels) d ds all in
      let next = aligned_up d.align place + d.length in
      let rest = length-bytes_by labels next ds (All-tail (IsLayable labels) d ds all) in
      omega (arith, length-append (padded word place d) (bytes_by word next ds), length-padded place d here.align here.length, rest)

-- values take no more than their datum
values_at_most : (size : ℕ) (width : Width) (cs : List Constant) → elim cs as (λ _. Type 0) [ [] ↦ Unit {0} | _ ∷ _ ↦ size ≡ length cs * bytes width ] → length cs * bytes width ≤ size
values_at_most size width [] fill = omega arith
values_at_most size width (c ∷ cs) fill = omega arith

pub values_within : (d : Datum) → Fill d → length d.values * bytes d.width ≤ d.length
values_within d fill = values_at_most d.length d.width d.values fill

-- ---- a datum without values, and one with some
empty_by : (word : Constant → ℕ) (size : ℕ) (width : Width) (cs : List Constant) → cs ≡ [] →
    replicate size 0 ≡ elim cs as (λ _. List ℕ) [ [] ↦ replicate size 0 | _ ∷ _ ↦ value_bytes word width cs ]
empty_by word size width [] is = refl
empty_by word size width (c ∷ cs) is = absurd (cc)

pub empty_datum : (word : Constant → ℕ) (d : Datum) → d.values ≡ [] → replicate d.length 0 ≡ datum_by word d
empty_datum word d is = empty_by word d.length d.width d.values is

full_by : (word : Constant → ℕ) (size : ℕ) (width : Width) (cs : List Constant) → cs ≢ [] →
    value_bytes word width cs ≡ elim cs as (λ _. List ℕ) [ [] ↦ replicate size 0 | _ ∷ _ ↦ value_bytes word width cs ]
full_by word size width [] is = absurd (is refl)
full_by word size width (c ∷ cs) is = refl

pub full_datum : (word : Constant → ℕ) (d : Datum) → d.values ≢ [] → value_bytes word d.width d.values ≡ datum_by word d
full_datum word d is = full_by word d.length d.width d.values is
