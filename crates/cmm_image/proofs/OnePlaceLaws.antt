-- Where version 2's tables hold, each variable has one place in its procedure.
use Rattle.std.proofs.Common.{◌≡◌, ℕ, List, [], ◌∷◌, ◌++◌, length, map, flat_map, slice_get, Option, Some, None, refl, sym, ap, subst, ◌∙◌, append_assoc}
use Rattle.std.specs.List.{zip}
use Rattle.cmm_format.specs.Formats.{AreRowsBehind}
use Rattle.cmm_image.specs.declared.procedure_record.ProcedureRecord.{ProcedureRecord}
use Rattle.cmm_image.specs.declared.rows.SiteRow.{SiteRow}
use Rattle.cmm_image.specs.declared.rows.VariablePlace.{VariablePlace}
use Rattle.cmm_image.specs.ImageFormat.{Tables}
use Rattle.cmm_image.specs.Migration.{HaveOnePlace}
use Rattle.cmm_image.specs.SecondFormat.{placed, procedure_record, records_of, row_places, second_tables}
use Rattle.cmm_image.proofs.AgreeLaws.{IsUnder, one_place}
use Rattle.cmm_image.proofs.DistinctLaws.{Each, each_append, order_each}
use Rattle.cmm_image.proofs.MaskLaws.{Under}
use Rattle.cmm_image.proofs.OrderLaws.{AreOf}
use Rattle.cmm_image.proofs.SecondLaws.{AllUnder, are_own, are_under}

-- the places of the procedure of a number
abbrev or_nowhere : Option ProcedureRecord → List VariablePlace
or_nowhere None = []
or_nowhere (Some r) = r.places

abbrev places_at : List ProcedureRecord → ℕ → List VariablePlace
places_at rs n = or_nowhere (slice_get rs n)

record_at : (before rs : List ProcedureRecord) (r : ProcedureRecord) → places_at (before ++ (r ∷ rs)) (length before) ≡ r.places
record_at [] rs r = refl
record_at (b ∷ bs) rs r = record_at bs rs r

module _ (all : List ProcedureRecord) where
  each_under : (n : ℕ) (places : List VariablePlace) (ss : List SiteRow) → places_at all n ≡ places → AreOf n ss → AllUnder places ss → Each (IsUnder (places_at all)) ss
  each_under n places [] at are under = tt
  each_under n places (s ∷ ss) at are under =
      (subst (λ (ps : List VariablePlace). Under ps s.variables) (sym (ap (places_at all) are.0 ∙ at)) under.0, each_under n places ss at are.1 under.1)

  all_under_own : (code_length procedures total : ℕ) (before rs : List ProcedureRecord) → before ++ rs ≡ all →
      AreRowsBehind (λ before. (procedure_record code_length procedures total before).Holds) before rs → Each (IsUnder (places_at all)) (flat_map (λ r. r.sites) rs)
  all_under_own code_length procedures total before [] same rows = tt
  all_under_own code_length procedures total before (r ∷ rs) same rows =
      let vs = map placed (zip r.row.variables r.places) in
      let count = length r.row.continuations in
      let sites = rows.0.0.1.0.1 in
      let own = are_own code_length before (row_places vs) count None r.sites sites in
      let under = are_under code_length before (row_places vs) count None r.sites sites in
      let places : row_places vs ≡ r.places = ap (λ (x : ProcedureRecord). x.places) rows.0.1 in
      let at : places_at all (length before) ≡ row_places vs =
      subst (λ (xs : List ProcedureRecord). places_at xs (length before) ≡ r.places) same (record_at before rs r) ∙ sym places in
      each_append (IsUnder (places_at all)) r.sites (flat_map (λ r. r.sites) rs) (each_under (length before) (row_places vs) r.sites at own under)
      (all_under_own code_length procedures total (before ++ (r ∷ [])) rs (append_assoc before (r ∷ []) rs ∙ same) rows.1)

pub second_has_one_place : (code_length procedures sites : ℕ) (t : Tables) → (second_tables code_length procedures sites).Holds t → HaveOnePlace t.1
second_has_one_place code_length procedures sites t holds =
    let rs = records_of t in
    let all = all_under_own rs code_length procedures sites [] rs refl holds.0.1 in
    let ordered = order_each (IsUnder (places_at rs)) (flat_map (λ r. r.sites) rs) all in
    one_place (places_at rs) t.1 (subst (λ (u : Tables). Each (IsUnder (places_at rs)) u.1) holds.1 ordered)
