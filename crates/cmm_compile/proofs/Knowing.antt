-- The sets that places keep for call sites have just the variables that are live there.
use Rattle.std.proofs.Common.{List, [], ◌∷◌}
use Rattle.std.proofs.lemmas.List.Elements.{All-head, All-tail}
use Rattle.std.specs.Prelude.{All}
use Rattle.std.specs.List.{AllZip}
use Rattle.cmm_program.specs.declared.procedure.Proc.{Proc}
use Rattle.cmm_program.specs.declared.program.Program.{Program}
use Rattle.cmm_program.specs.InRange.{IsProcInRange}
use Rattle.cmm_graph.specs.declared.graph.Graph.{Graph}
use Rattle.cmm_hoisted.specs.Flow.{IsHoistedFlow}
use Rattle.cmm_hoisted.specs.Laws.{HoistedSetsAreOfProcedure}
use Rattle.cmm_allocate.specs.declared.procedure.ProcedurePlaces.{ProcedurePlaces}
use Rattle.cmm_allocate.specs.Places.{HavePlaces}
use Rattle.cmm_link.specs.Linked.{KnowLive}
use Rattle.cmm_compile.specs.inside.Laws.{PlacesKnowLive}

module _ (sets : HoistedSetsAreOfProcedure) (p : Program) where
  all_know : (procs : List Proc) (graphs : List Graph) (found : List ProcedurePlaces) → All (IsProcInRange p) procs → AllZip IsHoistedFlow procs graphs → HavePlaces procs graphs found → KnowLive procs found
  all_know [] [] [] are flows places = tt
  all_know [] [] (k ∷ found) are flows places = absurd places
  all_know [] (g ∷ graphs) found are flows places = absurd flows
  all_know (q ∷ procs) [] found are flows places = absurd flows
  all_know (q ∷ procs) (g ∷ graphs) [] are flows places = absurd places
  all_know (q ∷ procs) (g ∷ graphs) (k ∷ found) are flows places =
      let own = All-head (IsProcInRange p) q procs are in (
        λ n v is_site is_variable. (sets p q g k.live own flows.0 places.0.live n v is_site is_variable).tested,
        all_know procs graphs found (All-tail (IsProcInRange p) q procs are) flows.1 places.1,
      )

pub places_know_live : HoistedSetsAreOfProcedure → PlacesKnowLive
places_know_live sets p graphs found are flows places = all_know sets p p.procs graphs found are.procedures flows places
