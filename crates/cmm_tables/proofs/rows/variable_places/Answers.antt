use Rattle.std.proofs.Common.{◌∙◌, ◌≡◌, ◌++◌, ◌∷◌, [], ℕ, List, map, slice_index_or, sym, ap, refl, arith}
use Rattle.std.specs.List.{range_with_len}
use Rattle.std.proofs.lemmas.List.FromFn.{map-range_with_len_more}
use Rattle.cmm_image.specs.declared.rows.VariablePlace.{VariablePlace}
use Rattle.cmm_bitset.specs.Sets.{has}
use Rattle.cmm_tables.specs.SiteRows.{local_place, place_while}
use Rattle.cmm_tables.proofs.rows.variable_places.Goals as goal

pub loop-number-preserved : goal.loop-number-preserved
loop-number-preserved c =
    let place = λ (v : ℕ). place_while (has (slice_index_or c.args.live.now c.args.site []) v) (local_place c.args.places.now v) in
    let k = c.loop-number.number in
    let is : c.place_while.result ≡ place k = rw (c.place_while.ensures, c.is_live.ensures, c.local_place.ensures) refl in
    c.in_ok-push.ensures.ok
    ∙ (ap (λ (rows : List VariablePlace). rows ++ c.place_while.result ∷ []) c.loop-number.invariant
    ∙ (ap (λ (row : VariablePlace). map place (range_with_len 0 k) ++ row ∷ []) is ∙ sym (map-range_with_len_more place 0 k k (omega arith))))
