use Rattle.std.proofs.Common.{◌≡◌, take}
use Rattle.cmm_emit.specs.Naming.{variable_places}
use Rattle.cmm_emit.proofs.operand.variable_places.Given as goal

-- the places of the variables so far
abbrev pub invariant-loop-variable : goal.invariant-loop-variable
invariant-loop-variable l = l.places ≡ variable_places l.context (take l.variable-index l.variables)
