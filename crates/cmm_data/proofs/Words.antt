-- Once its fixes are filled, data is that of a placement.
use Rattle.std.proofs.Common.{◌≡◌, ℕ, ◌+◌, ◌-◌, ◌%◌, ◌^◌, ◌≤◌, refl, sym, ◌∙◌, ap, arith, List, [], ◌∷◌, ◌++◌, length, length-append, append_assoc, take, drop}
use Rattle.std.specs.Prelude.{replicate}
use Rattle.std.specs.List.{All}
use Rattle.std.proofs.Math.Path.{fun_ext}
use Rattle.std.proofs.Math.Seq.{take-append_seam, drop-append-add}
use Rattle.std.proofs.lemmas.List.{length-replicate}
use Rattle.std.proofs.lemmas.List.Elements.{All-head, All-tail}
use Rattle.rv_table.specs.Memory.{data_base}
use Rattle.cmm_words.specs.Widths.{bytes}
use Rattle.cmm_words.specs.declared.width.Width.{Width}
use Rattle.cmm_words.specs.declared.constant.Constant.{Constant}
use Rattle.cmm_words.specs.declared.constant.Constant.TheVariants.{Number, Code, Address}
use Rattle.cmm_program.specs.declared.program.Program.{Program}
use Rattle.cmm_program.specs.declared.program.Datum.{Datum}
use Rattle.cmm_program.specs.declared.placement.Placement.{Placement}
use Rattle.cmm_program.specs.Layout.{aligned_up, bytes_from, bytes_of, constant_value, data_bytes, label_addresses}
use Rattle.cmm_program.proofs.Shared.{aligned_up-grows}
use Rattle.cmm_data.specs.Conditions.{CanBeLaidOut, IsLayable, MayStandIn}
use Rattle.cmm_data.specs.Filling.{code_in, filled, with_value}
use Rattle.cmm_data.specs.inside.Walking.{bytes_by, datum_by, fix_by, fixes_from, padded, unfilled, value_bytes, value_fixes, word_by}
use Rattle.cmm_data.specs.declared.fix.Fix.{Fix}
use Rattle.cmm_data.proofs.Sizes.{length-bytes_of, length-datum}

pub filled-append : (code : ℕ → ℕ) (fs gs : List Fix) (bytes : List ℕ) → filled code (fs ++ gs) bytes ≡ filled code gs (filled code fs bytes)
filled-append code [] gs bytes = refl
filled-append code (f ∷ fs) gs bytes = filled-append code fs gs _

-- the word of a value, where the code of each procedure has an address
abbrev pub given : (ℕ → ℕ) → ℕ → ℕ → ℕ
given code proc plus = (code proc + plus) % 2 ^ 64

-- eight bytes after others are changed where they stand
value_put : (value : ℕ) (front back : List ℕ) → with_value value (length front) (front ++ (bytes_of 8 0 ++ back)) ≡ front ++ (bytes_of 8 value ++ back)
value_put value front back =
    let words = bytes_of 8 0 ++ back in
    let a : take (length front) (front ++ words) ≡ front = take-append_seam front words in
    let b : drop (length front + 8) (front ++ words) ≡ back = drop-append-add front words 8 in
    rw (a, b) refl

module _ (addresses : List ℕ) (code : ℕ → ℕ) where
  abbrev before : Constant → ℕ
  before = unfilled addresses

  abbrev after : Constant → ℕ
  after = word_by addresses (given code)

  value_filled : (c : Constant) (width : Width) (front back : List ℕ) → MayStandIn width c →
      filled code (fix_by (length front) c) (front ++ (bytes_of (bytes width) (before c) ++ back)) ≡ front ++ (bytes_of (bytes width) (after c) ++ back)
  value_filled (Number word own) width front back may = refl
  value_filled (Address label plus) width front back may = refl
  value_filled (Code proc plus) width front back may = eight
    where
      eight : filled code (fix_by (length front) (Code proc plus)) (front ++ (bytes_of (bytes width) 0 ++ back)) ≡ front ++ (bytes_of (bytes width) (given code proc plus) ++ back)
      eight =
          ap (λ (w : Width). with_value (given code proc plus) (length front) (front ++ (bytes_of (bytes w) 0 ++ back))) may
          ∙ value_put (given code proc plus) front back
          ∙ ap (λ (w : Width). front ++ (bytes_of (bytes w) (given code proc plus) ++ back)) (sym may)

  values_filled : (cs : List Constant) (width : Width) (front back : List ℕ) → All (MayStandIn width) cs →
      filled code (value_fixes (length front) width cs) (front ++ (value_bytes before width cs ++ back)) ≡ front ++ (value_bytes after width cs ++ back)
  values_filled [] width front back may = refl
  values_filled (c ∷ cs) width front back may =
      let n = bytes width in
      let old = bytes_of n (before c) in
      let new = bytes_of n (after c) in
      let fixes = value_fixes (length front + n) width cs in
      let next = front ++ new in
      let there : length next ≡ length front + n = length-append front new ∙ ap (λ k. length front + k) (length-bytes_of n (after c)) in
      let rest : filled code fixes (next ++ (value_bytes before width cs ++ back)) ≡ next ++ (value_bytes after width cs ++ back) =
      rw there at (values_filled cs width next back (All-tail (MayStandIn width) c cs may))
      in
      filled-append code (fix_by (length front) c) fixes (front ++ ((old ++ value_bytes before width cs) ++ back))
      ∙ ap (λ (xs : List ℕ). filled code fixes (filled code (fix_by (length front) c) (front ++ xs))) (append_assoc old (value_bytes before width cs) back)
      ∙ ap (λ (xs : List ℕ). filled code fixes xs)
      (value_filled c width front (value_bytes before width cs ++ back) (All-head (MayStandIn width) c cs may)
      ∙ sym (append_assoc front new (value_bytes before width cs ++ back)))
      ∙ rest
      ∙ append_assoc front new (value_bytes after width cs ++ back)
      ∙ ap (λ (xs : List ℕ). front ++ xs) (sym (append_assoc new (value_bytes after width cs) back))

  datum_by_filled : (size : ℕ) (width : Width) (cs : List Constant) (front back : List ℕ) → All (MayStandIn width) cs →
      filled code (value_fixes (length front) width cs) (front ++ (elim cs as (λ _. List ℕ) [ [] ↦ replicate size 0 | _ ∷ _ ↦ value_bytes before width cs ] ++ back))
      ≡ front ++ (elim cs as (λ _. List ℕ) [ [] ↦ replicate size 0 | _ ∷ _ ↦ value_bytes after width cs ] ++ back)
  datum_by_filled size width [] front back may = refl
  datum_by_filled size width (c ∷ cs) front back may = values_filled (c ∷ cs) width front back may

  datum_filled : (labels : ℕ) (d : Datum) (front back : List ℕ) → IsLayable labels d →
      filled code (value_fixes (length front) d.width d.values) (front ++ (datum_by before d ++ back)) ≡ front ++ (datum_by after d ++ back)
  datum_filled labels d front back layable = datum_by_filled d.length d.width d.values front back layable.width

  all_filled : (labels place : ℕ) (ds : List Datum) (front : List ℕ) → data_base + length front ≡ place → All (IsLayable labels) ds →
      filled code (fixes_from place ds) (front ++ bytes_by before place ds) ≡ front ++ bytes_by after place ds
  all_filled labels place [] front at layable = refl
  all_filled labels place (d ∷ ds) front at layable =
      let here : IsLayable labels d = All-head (IsLayable labels) d ds layable in
      let up = aligned_up d.align place in
      let zeros = replicate (up - place) 0 in
      let behind = front ++ zeros in
      let old = datum_by before d in
      let new = datum_by after d in
      let left = bytes_by before (up + d.length) ds in
      let mine = value_fixes (up - data_base) d.width d.values in
      let fixes = fixes_from (up + d.length) ds in
      let grows : place ≤ up = aligned_up-grows d.align place here.align in
      let count : length behind ≡ up - data_base = omega (arith, length-append front zeros, length-replicate {A = ℕ} (up - place) 0, grows, at) in
      let next : data_base + length (behind ++ new) ≡ up + d.length = omega (arith, length-append behind new, length-datum after d here.length, count, grows, at) in
      let joined : (xs rest : List ℕ) → front ++ ((zeros ++ xs) ++ rest) ≡ behind ++ (xs ++ rest) =
      λ xs rest. ap (λ (ys : List ℕ). front ++ ys) (append_assoc zeros xs rest) ∙ sym (append_assoc front zeros (xs ++ rest))
      in
      let first : filled code mine (behind ++ (old ++ left)) ≡ behind ++ (new ++ left) = rw count at (datum_filled labels d behind left here) in
      filled-append code mine fixes (front ++ ((zeros ++ old) ++ left))
      ∙ ap (λ (xs : List ℕ). filled code fixes (filled code mine xs)) (joined old left)
      ∙ ap (λ (xs : List ℕ). filled code fixes xs) (first ∙ sym (append_assoc behind new left))
      ∙ all_filled labels (up + d.length) ds (behind ++ new) next (All-tail (IsLayable labels) d ds layable)
      ∙ append_assoc behind new (bytes_by after (up + d.length) ds)
      ∙ sym (joined new (bytes_by after (up + d.length) ds))

-- ---- the words that a placement gives
module _ (p : Program) (placement : Placement) where
  abbrev pub word : Constant → ℕ
  word = word_by (label_addresses p) (given (code_in placement))

  same_word : (c : Constant) → constant_value p placement c ≡ word c
  same_word (Number n width) = refl
  same_word (Code proc plus) = refl
  same_word (Address label plus) = refl

  from_by : (value : Constant → ℕ) (place : ℕ) (ds : List Datum) → value ≡ constant_value p placement → bytes_by value place ds ≡ bytes_from p placement place ds
  from_by value place [] is = refl
  from_by value place (d ∷ ds) is =
      ap (λ (value : Constant → ℕ). padded value place d ++ bytes_by value (aligned_up d.align place + d.length) ds) is
      ∙ ap (λ (xs : List ℕ). padded (constant_value p placement) place d ++ xs) (from_by (constant_value p placement) (aligned_up d.align place + d.length) ds refl)

  pub data_by : bytes_by word data_base p.datums ≡ data_bytes p placement
  data_by = from_by word data_base p.datums (sym (fun_ext same_word))

  pub data_filled : CanBeLaidOut p → filled (code_in placement) (fixes_from data_base p.datums) (bytes_by (unfilled (label_addresses p)) data_base p.datums) ≡ data_bytes p placement
  data_filled can =
      all_filled (label_addresses p) (code_in placement) (length p.labels) data_base p.datums [] refl can.datums ∙ data_by
