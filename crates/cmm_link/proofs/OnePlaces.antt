-- Each variable has one place in its whole procedure: the row of each site gives it the place of its local, or none.
use Rattle.std.proofs.Common.{◌≡◌, ℕ, zero, suc, ◌+◌, Bool, true, false, All, Option, Some, None, List, [], length, map, slice_get, inl, inr, refl, sym, subst}
use Rattle.std.proofs.lemmas.List.Elements.{All-weaker}
use Rattle.std.specs.List.{range_with_len}
use Rattle.std.specs.Prelude.{◌⊎◌}
use Rattle.cmm_chain.specs.declared.frame.Location.{Location}
use Rattle.cmm_words.specs.declared.constant.Constant.{Constant}
use Rattle.cmm_program.specs.declared.procedure.Proc.{Proc}
use Rattle.cmm_program.specs.Liveness.{is_live_at}
use Rattle.cmm_image.specs.declared.rows.SiteRow.{SiteRow}
use Rattle.cmm_image.specs.declared.rows.VariablePlace.{VariablePlace}
use Rattle.cmm_image.specs.declared.rows.VariablePlace.TheVariants.{Dead}
use Rattle.cmm_image.specs.Migration.{HaveOnePlace}
use Rattle.cmm_image.proofs.Shared.{Under, places_are_one}
use Rattle.cmm_allocate.specs.declared.procedure.ProcedurePlaces.{ProcedurePlaces}
use Rattle.cmm_tables.specs.SiteRows.{local_place, place_while}
use Rattle.cmm_link.proofs.SiteTable.{IsRow}

-- the places of a procedure's variables
abbrev places_in : Option Proc → Option ProcedurePlaces → List VariablePlace
places_in None k = []
places_in (Some p) None = []
places_in (Some p) (Some k) = map (λ v. place_while true (local_place k.locals v)) (range_with_len 0 (length p.vars))

live_or_not : (live : Bool) (l : Location) → (place_while live l ≡ Dead) ⊎ (place_while live l ≡ place_while true l)
live_or_not true l = inr refl
live_or_not false l = inl refl

all_under : (live : ℕ → Bool) (locals : List Location) (from count : ℕ) →
    Under (map (λ v. place_while true (local_place locals v)) (range_with_len from count)) (map (λ v. place_while (live v) (local_place locals v)) (range_with_len from count))
all_under live locals from zero = tt
all_under live locals from (suc count) = (live_or_not (live from) (local_place locals from), all_under live locals (from + 1) count)

module _ (value : Constant → ℕ) (procs : List Proc) (places : List ProcedurePlaces) (landings addresses : List (List ℕ)) where
  abbrev places_of : ℕ → List VariablePlace
  places_of q = places_in (slice_get procs q) (slice_get places q)

  abbrev IsUnder : SiteRow → Type 0
  IsUnder s = Under (places_of s.procedure) s.variables

  row_under : (row : SiteRow) → IsRow value procs places landings addresses row → IsUnder row
  row_under row is =
      let own = all_under (λ v. is_live_at is.p is.n v) is.k.locals 0 (length is.p.vars) in
      let procedure = is.is_procedure in
      let locals = is.is_places in
      subst IsUnder (sym is.is_row) (rw (procedure, locals) own)

  pub sites_have_one_place : (sites : List SiteRow) → All (IsRow value procs places landings addresses) sites → HaveOnePlace sites
  sites_have_one_place sites are = places_are_one places_of sites (All-weaker (IsRow value procs places landings addresses) IsUnder row_under sites are)
