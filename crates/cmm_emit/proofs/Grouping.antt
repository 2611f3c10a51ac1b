-- Units of procedures, one after another.
use Rattle.std.proofs.Common.{◌≡◌, ℕ, ◌+◌, ◌≤◌, ap, sym, subst, arith, List, [], ◌∷◌, ◌++◌, Some, slice_get}
use Rattle.std.specs.List.Sorted.{IsNonDecreasingBy}
use Rattle.std.proofs.lemmas.Option.{get_or_from_slice_get, slice_get_within}
use Rattle.cmm_graph.specs.declared.graph.Graph.{Graph}
use Rattle.cmm_unit_code.specs.declared.unit_code.UnitCode.{UnitCode}
use Rattle.cmm_allocate.specs.declared.procedure.ProcedurePlaces.{ProcedurePlaces}
use Rattle.cmm_program.proofs.Shared.{all_get}
use Rattle.cmm_program.specs.declared.procedure.Proc.{Proc}
use Rattle.cmm_program.specs.declared.program.Program.{Program}
use Rattle.cmm_program.specs.InRange.{IsInRange, IsProcInRange}
use Rattle.cmm_emit.proofs.Belonging.{there_at}
use Rattle.cmm_emit.specs.Units.{AreUnits, IsUnit, IsUnitEnd}

-- behind some units stands one more
pub units_more : (p : Program) (graphs : List Graph) (found : List ProcedurePlaces) (first middle count : ℕ) (us : List UnitCode) (u : UnitCode) →
    AreUnits p graphs found first middle us → IsUnit p graphs found middle count u → AreUnits p graphs found first (middle + count) (us ++ u ∷ [])
units_more p graphs found first middle count [] u are is = (count, subst (λ (n : ℕ). IsUnit p graphs found n count u) (sym are) is, ap (λ (n : ℕ). n + count) are)
units_more p graphs found first middle count (v ∷ us) u are is = (are.0, are.1, units_more p graphs found (first + are.0) middle count us u are.2 is)

-- ---- how many units there are

rises : (procs : List Proc) → IsNonDecreasingBy (λ q. q.unit) procs → (i j : ℕ) (q r : Proc) → i ≤ j → slice_get procs i ≡ Some q → slice_get procs j ≡ Some r → q.unit ≤ r.unit
rises procs ascending i j q r before is also =
    let one = ap (λ (x : Proc). x.unit) (get_or_from_slice_get procs i q q is) in
    let two = ap (λ (x : Proc). x.unit) (get_or_from_slice_get procs j r q also) in
    omega (arith, ascending i j q before (slice_get_within procs j r also), one, two)

-- where procedures ascend by unit, as many units as end before a procedure are at most its number of a unit
abbrev pub AreBefore : List Proc → ℕ → ℕ → Type 0
AreBefore procs first count = (q : Proc) → slice_get procs first ≡ Some q → count ≤ q.unit

module _ (p : Program) (range : IsInRange p) (ascending : IsNonDecreasingBy (λ q. q.unit) p.procs) (first end count : ℕ) (ends : IsUnitEnd p.procs first end)
    (before : AreBefore p.procs first count) where
  here : (q : Proc) × (slice_get p.procs first ≡ Some q)
  here = let behind = ends.behind in let within = ends.within in there_at p.procs first (omega (arith, behind, within))

  pub still_few : count + 1 ≤ 256
  still_few =
      let limit = (all_get (IsProcInRange p) p.procs first here.0 range.procedures here.1).unit in
      omega (arith, limit, before here.0 here.1)

  pub before_next : AreBefore p.procs end (count + 1)
  before_next r is =
      let behind = ends.behind in
      let up = rises p.procs ascending first end here.0 r (omega (arith, behind)) here.1 is in
      let other = ends.other here.0 r here.1 is in
      let most = before here.0 here.1 in
      grind (arith, up, other, most)
