use Rattle.std.proofs.Common.{◌≡◌, ◌≤◌, ◌-◌, ◌∷◌, List, length}
use Rattle.cmm_unit_code.specs.declared.unit_code.UnitCode.{UnitCode as CodeOfUnit}
use Rattle.cmm_emit.proofs.Grouping.{AreBefore}
use Rattle.cmm_emit.specs.Units.{AreUnits}
use Rattle.cmm_emit.proofs.units.unit_codes.Given as goal

-- the units of the procedures so far, which are as many as have a lower number than that of the next
abbrev pub invariant-loop-first : goal.invariant-loop-first
invariant-loop-first l = record {
  within : l.first ≤ length l.program.procs;
  codes : (units : List CodeOfUnit) × (l.codes ≡ l.fn.start ∷ units) × AreUnits l.program l.graphs l.places 0 l.first units × (length units ≤ 256)
      × AreBefore l.program.procs l.first (length units);
}

abbrev pub decreases-loop-first : goal.decreases-loop-first
decreases-loop-first l = length l.program.procs - l.first
