use Rattle.cmm_emit.specs.Units.{AreOfOneUnit}
use Rattle.cmm_emit.proofs.units.unit_end.Given as goal

-- the procedures so far are of the unit
abbrev pub invariant-loop-end : goal.invariant-loop-end
invariant-loop-end l = AreOfOneUnit l.procedures l.first l.end
