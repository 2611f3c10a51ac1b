-- The bytes that wait are 0.
use Rattle.std.proofs.Common.{◌≡◌, ℕ, ◌+◌, ◌-◌, ◌≤◌, refl, sym, ◌∙◌, ap, subst, arith, List, [], ◌∷◌, ◌++◌, length, length-append, append_assoc, take}
use Rattle.std.specs.Prelude.{replicate}
use Rattle.std.specs.List.{All}
use Rattle.std.proofs.Math.Seq.{drop-append_seam}
use Rattle.std.proofs.lemmas.List.{length-replicate}
use Rattle.std.proofs.lemmas.List.Elements.{All-append, All-cons, All-head, All-nil, All-tail}
use Rattle.rv_table.specs.Memory.{data_base}
use Rattle.cmm_words.specs.Widths.{bytes}
use Rattle.cmm_words.specs.declared.width.Width.{Width}
use Rattle.cmm_words.specs.declared.constant.Constant.{Constant}
use Rattle.cmm_words.specs.declared.constant.Constant.TheVariants.{Number, Code, Address}
use Rattle.cmm_program.specs.declared.program.Datum.{Datum}
use Rattle.cmm_program.specs.Layout.{aligned_up, bytes_of}
use Rattle.cmm_program.proofs.Shared.{aligned_up-grows}
use Rattle.cmm_data.specs.Conditions.{IsLayable, MayStandIn}
use Rattle.cmm_data.specs.Filling.{IsWaiting}
use Rattle.cmm_data.specs.inside.Walking.{bytes_by, datum_by, fix_by, fixes_from, unfilled, value_bytes, value_fixes}
use Rattle.cmm_data.specs.declared.fix.Fix.{Fix}
use Rattle.cmm_data.proofs.Sizes.{length-bytes_of, length-datum}

-- each fix waits in these bytes
abbrev pub All-wait : List ℕ → List Fix → Type 0
All-wait bytes fixes = All (IsWaiting bytes) fixes

module _ (addresses : List ℕ) where
  abbrev word : Constant → ℕ
  word = unfilled addresses

  value_waits : (c : Constant) (width : Width) (front back : List ℕ) → MayStandIn width c →
      All-wait (front ++ (bytes_of (bytes width) (word c) ++ back)) (fix_by (length front) c)
  value_waits (Number n own) width front back may = All-nil (IsWaiting (front ++ (bytes_of (bytes width) n ++ back)))
  value_waits (Address label plus) width front back may = All-nil (IsWaiting (front ++ (bytes_of (bytes width) (word (Address label plus)) ++ back)))
  value_waits (Code proc plus) width front back may =
      let whole = front ++ (bytes_of (bytes width) 0 ++ back) in
      let f : Fix = record { place = length front; procedure = proc; plus = plus } in
      let eight : take 8 (bytes_of (bytes width) 0 ++ back) ≡ replicate 8 0 = ap (λ (w : Width). take 8 (bytes_of (bytes w) 0 ++ back)) may in
      All-cons (IsWaiting whole) f [] (ap (take 8) (drop-append_seam front (bytes_of (bytes width) 0 ++ back)) ∙ eight) (All-nil (IsWaiting whole))

  values_wait : (cs : List Constant) (width : Width) (front back : List ℕ) → All (MayStandIn width) cs →
      All-wait (front ++ (value_bytes word width cs ++ back)) (value_fixes (length front) width cs)
  values_wait [] width front back may = All-nil (IsWaiting (front ++ back))
  values_wait (c ∷ cs) width front back may =
      let n = bytes width in
      let mine = bytes_of n (word c) in
      let left = value_bytes word width cs in
      let whole = front ++ ((mine ++ left) ++ back) in
      let there : length (front ++ mine) ≡ length front + n = length-append front mine ∙ ap (λ k. length front + k) (length-bytes_of n (word c)) in
      let first : All-wait whole (fix_by (length front) c) =
      subst (λ (xs : List ℕ). All-wait (front ++ xs) (fix_by (length front) c)) (sym (append_assoc mine left back))
      (value_waits c width front (left ++ back) (All-head (MayStandIn width) c cs may))
      in
      let joined : (front ++ mine) ++ (left ++ back) ≡ whole = append_assoc front mine (left ++ back) ∙ ap (λ (xs : List ℕ). front ++ xs) (sym (append_assoc mine left back)) in
      let rest : All-wait whole (value_fixes (length front + n) width cs) =
      subst (λ (k : ℕ). All-wait whole (value_fixes k width cs)) there
      (subst (λ (xs : List ℕ). All-wait xs (value_fixes (length (front ++ mine)) width cs)) joined (values_wait cs width (front ++ mine) back (All-tail (MayStandIn width) c cs may)))
      in
      All-append (IsWaiting whole) (fix_by (length front) c) (value_fixes (length front + n) width cs) first rest

  datum_by_waits : (size : ℕ) (width : Width) (cs : List Constant) (front back : List ℕ) → All (MayStandIn width) cs →
      All-wait (front ++ (elim cs as (λ _. List ℕ) [ [] ↦ replicate size 0 | _ ∷ _ ↦ value_bytes word width cs ] ++ back)) (value_fixes (length front) width cs)
  datum_by_waits size width [] front back may = All-nil (IsWaiting (front ++ (replicate size 0 ++ back)))
  datum_by_waits size width (c ∷ cs) front back may = values_wait (c ∷ cs) width front back may

  all_wait : (labels place : ℕ) (ds : List Datum) (front : List ℕ) → data_base + length front ≡ place → All (IsLayable labels) ds →
      All-wait (front ++ bytes_by word place ds) (fixes_from place ds)
  all_wait labels place [] front at layable = All-nil (IsWaiting (front ++ []))
  all_wait labels place (d ∷ ds) front at layable =
      let here : IsLayable labels d = All-head (IsLayable labels) d ds layable in
      let up = aligned_up d.align place in
      let zeros = replicate (up - place) 0 in
      let behind = front ++ zeros in
      let mine = datum_by word d in
      let left = bytes_by word (up + d.length) ds in
      let whole = front ++ ((zeros ++ mine) ++ left) in
      let grows : place ≤ up = aligned_up-grows d.align place here.align in
      let count : length behind ≡ up - data_base = omega (arith, length-append front zeros, length-replicate {A = ℕ} (up - place) 0, grows, at) in
      let next : data_base + length (behind ++ mine) ≡ up + d.length = omega (arith, length-append behind mine, length-datum word d here.length, count, grows, at) in
      let joined : behind ++ (mine ++ left) ≡ whole = append_assoc front zeros (mine ++ left) ∙ ap (λ (xs : List ℕ). front ++ xs) (sym (append_assoc zeros mine left)) in
      let first : All-wait whole (value_fixes (up - data_base) d.width d.values) =
      subst (λ (k : ℕ). All-wait whole (value_fixes k d.width d.values)) count
      (subst (λ (xs : List ℕ). All-wait xs (value_fixes (length behind) d.width d.values)) joined (datum_by_waits d.length d.width d.values behind left here.width))
      in
      let rest : All-wait whole (fixes_from (up + d.length) ds) =
      subst (λ (xs : List ℕ). All-wait xs (fixes_from (up + d.length) ds)) (append_assoc behind mine left ∙ joined)
      (all_wait labels (up + d.length) ds (behind ++ mine) next (All-tail (IsLayable labels) d ds layable))
      in
      All-append (IsWaiting whole) (value_fixes (up - data_base) d.width d.values) (fixes_from (up + d.length) ds) first rest

  pub data_waits : (labels : ℕ) (ds : List Datum) → All (IsLayable labels) ds → All-wait (bytes_by word data_base ds) (fixes_from data_base ds)
  data_waits labels ds layable = all_wait labels data_base ds [] refl layable
