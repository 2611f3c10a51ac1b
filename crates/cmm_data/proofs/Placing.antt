-- One more value, and one more datum, of those that are added one after another.
use Rattle.std.proofs.Common.{◌≡◌, ℕ, ◌+◌, ◌-◌, ◌*◌, ◌^◌, ◌≤◌, ◌<◌, sym, ◌∙◌, ap, arith, List, [], ◌∷◌, ◌++◌, length, length-append, append_assoc, map, drop, Some}
use Rattle.std.specs.Prelude.{replicate, slice_get}
use Rattle.std.specs.List.{All}
use Rattle.std.proofs.lemmas.List.Elements.{All-drop}
use Rattle.std.proofs.lemmas.List.{append-nil, drop_more, length-replicate}
use Rattle.std.proofs.lemmas.Option.{get_or_from_slice_get, slice_get_within}
use Rattle.rv_table.specs.Memory.{data_base}
use Rattle.cmm_words.specs.Widths.{bytes}
use Rattle.cmm_words.specs.declared.width.Width.{Width}
use Rattle.cmm_words.specs.declared.constant.Constant.{Constant}
use Rattle.cmm_program.specs.declared.program.Datum.{Datum}
use Rattle.cmm_program.specs.Layout.{aligned_up, bytes_of, datum_piece, end_of}
use Rattle.cmm_program.proofs.Shared.{aligned_up-grows}
use Rattle.cmm_data.specs.Conditions.{HasAlignment, IsLayable}
use Rattle.cmm_data.specs.inside.Walking.{bytes_by, datum_by, fix_by, fixes_from, padded, value_bytes, value_fixes}
use Rattle.cmm_data.specs.declared.fix.Fix.{Fix}
use Rattle.cmm_data.proofs.Ends.{ends_grow}
use Rattle.cmm_data.proofs.Sizes.{bytes_positive, length-bytes_of, length-padded}

-- what is left begins with the one at the index
pub left_at : {X : Type 0} (xs : List X) (i : ℕ) (x : X) → slice_get xs i ≡ Some x → drop i xs ≡ x ∷ drop (i + 1) xs
left_at xs i x is =
    drop_more xs i x (slice_get_within xs i x is) ∙ ap (λ y. y ∷ drop (i + 1) xs) (get_or_from_slice_get xs i x x is)

-- ---- a value
pub values_more : (word : Constant → ℕ) (width : Width) (old : List ℕ) (cs : List Constant) (i : ℕ) (c : Constant) → slice_get cs i ≡ Some c →
    (old ++ bytes_of (bytes width) (word c)) ++ value_bytes word width (drop (i + 1) cs) ≡ old ++ value_bytes word width (drop i cs)
values_more word width old cs i c is =
    append_assoc old (bytes_of (bytes width) (word c)) (value_bytes word width (drop (i + 1) cs))
    ∙ ap (λ cs. old ++ value_bytes word width cs) (sym (left_at cs i c is))

pub value_fixes_more : (width : Width) (size : ℕ) (old : List Fix) (cs : List Constant) (i : ℕ) (c : Constant) → slice_get cs i ≡ Some c →
    (old ++ fix_by size c) ++ value_fixes (size + bytes width) width (drop (i + 1) cs) ≡ old ++ value_fixes size width (drop i cs)
value_fixes_more width size old cs i c is =
    append_assoc old (fix_by size c) (value_fixes (size + bytes width) width (drop (i + 1) cs))
    ∙ ap (λ cs. old ++ value_fixes size width cs) (sym (left_at cs i c is))

pub length-word : (old : List ℕ) (width : Width) (word : ℕ) → length (old ++ bytes_of (bytes width) word) ≡ length old + bytes width
length-word old width word = length-append old (bytes_of (bytes width) word) ∙ ap (λ n. length old + n) (length-bytes_of (bytes width) word)

-- there is room for the value, and for those after it
pub room_more : (width : Width) (size : ℕ) (cs : List Constant) (i : ℕ) (c : Constant) → slice_get cs i ≡ Some c →
    size + length (drop i cs) * bytes width ≤ 2 ^ 32 → size + bytes width + length (drop (i + 1) cs) * bytes width ≤ 2 ^ 32
room_more width size cs i c is room =
    omega (arith, ap (λ (cs : List Constant). length cs * bytes width) (left_at cs i c is), room)

pub room_now : (width : Width) (size : ℕ) (cs : List Constant) (i : ℕ) (c : Constant) → slice_get cs i ≡ Some c →
    size + length (drop i cs) * bytes width ≤ 2 ^ 32 → size < 2 ^ 32
room_now width size cs i c is room =
    omega (arith, room_more width size cs i c is room, bytes_positive width)

-- ---- a datum
abbrev pub zeros : ℕ → Datum → List ℕ
zeros place d = replicate (aligned_up d.align place - place) 0

module _ (old : List ℕ) (d : Datum) (aligned : 0 < d.align) where
  abbrev place : ℕ
  place = data_base + length old

  pub length-aligned : length (old ++ zeros place d) ≡ aligned_up d.align place - data_base
  length-aligned =
      omega (arith, length-append old (zeros place d), length-replicate {A = ℕ} (aligned_up d.align place - place) 0, aligned_up-grows d.align place aligned)

module _ (word : Constant → ℕ) (labels : ℕ) (old : List ℕ) (d : Datum) (layable : IsLayable labels d) where
  abbrev here : ℕ
  here = data_base + length old

  abbrev new : List ℕ
  new = (old ++ zeros here d) ++ datum_by word d

  pub next_place : data_base + length new ≡ aligned_up d.align here + d.length
  next_place =
      let joined : new ≡ old ++ padded word here d = append_assoc old (zeros here d) (datum_by word d) in
      omega (arith, ap length joined, length-append old (padded word here d), length-padded word here d layable.align layable.length)

  pub bytes_more : (ds : List Datum) (i : ℕ) → slice_get ds i ≡ Some d →
      new ++ bytes_by word (data_base + length new) (drop (i + 1) ds) ≡ old ++ bytes_by word here (drop i ds)
  bytes_more ds i is =
      let rest = bytes_by word (aligned_up d.align here + d.length) (drop (i + 1) ds) in
      ap (λ (place : ℕ). new ++ bytes_by word place (drop (i + 1) ds)) next_place
      ∙ ap (λ (xs : List ℕ). xs ++ rest) (append_assoc old (zeros here d) (datum_by word d))
      ∙ append_assoc old (padded word here d) rest
      ∙ ap (λ ds. old ++ bytes_by word here ds) (sym (left_at ds i d is))

  pub fixes_more : (fixes : List Fix) (ds : List Datum) (i : ℕ) → slice_get ds i ≡ Some d →
      (fixes ++ value_fixes (length (old ++ zeros here d)) d.width d.values) ++ fixes_from (data_base + length new) (drop (i + 1) ds) ≡ fixes ++ fixes_from here (drop i ds)
  fixes_more fixes ds i is =
      let rest = fixes_from (aligned_up d.align here + d.length) (drop (i + 1) ds) in
      let mine = value_fixes (aligned_up d.align here - data_base) d.width d.values in
      ap (λ (place : ℕ). (fixes ++ value_fixes (length (old ++ zeros here d)) d.width d.values) ++ fixes_from place (drop (i + 1) ds)) next_place
      ∙ ap (λ (place : ℕ). (fixes ++ value_fixes place d.width d.values) ++ rest) (length-aligned old d layable.align)
      ∙ append_assoc fixes mine rest
      ∙ ap (λ ds. fixes ++ fixes_from here ds) (sym (left_at ds i d is))

  pub end_more : (ds : List Datum) (i : ℕ) → slice_get ds i ≡ Some d →
      end_of (data_base + length new) (map datum_piece (drop (i + 1) ds)) ≡ end_of here (map datum_piece (drop i ds))
  end_more ds i is =
      ap (λ (place : ℕ). end_of place (map datum_piece (drop (i + 1) ds))) next_place
      ∙ ap (λ ds. end_of here (map datum_piece ds)) (sym (left_at ds i d is))

-- there is room for a datum behind its padding
pub room_for_datum : (old : List ℕ) (ds : List Datum) (i : ℕ) (d : Datum) → All HasAlignment ds → 0 < d.align → slice_get ds i ≡ Some d →
    end_of (data_base + length old) (map datum_piece (drop i ds)) ≤ data_base + 2 ^ 32 → length (old ++ zeros (data_base + length old) d) + d.length ≤ 2 ^ 32
room_for_datum old ds i d all aligned is size =
    let here = data_base + length old in
    let at = aligned_up d.align here in
    let e : end_of here (map datum_piece (drop i ds)) ≡ end_of (at + d.length) (map datum_piece (drop (i + 1) ds)) =
    ap (λ (ds : List Datum). end_of here (map datum_piece ds)) (left_at ds i d is)
    in
    let grows = ends_grow (at + d.length) (drop (i + 1) ds) (All-drop HasAlignment (i + 1) ds all) in
    let there : length (old ++ zeros here d) + here ≡ length old + at =
    omega (arith, length-append old (zeros here d), length-replicate {A = ℕ} (at - here) 0, aligned_up-grows d.align here aligned)
    in
    omega (arith, e, grows, there, size)

-- no values have no fixes
pub no_fixes : (fixes : List Fix) (place : ℕ) (width : Width) (cs : List Constant) → cs ≡ [] → fixes ≡ fixes ++ value_fixes place width cs
no_fixes fixes place width [] is = sym (append-nil fixes)
no_fixes fixes place width (c ∷ cs) is = absurd (cc)
