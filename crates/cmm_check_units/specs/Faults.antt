-- The fault that an answer names.
use Rattle.std.specs.Prelude.{◌≡◌, List, Some}
use Rattle.cmm_ast.specs.declared.unit.Unit.{Unit as UnitTree}
use Rattle.cmm_static_semantics.specs.Faults.{first_fault}
use Rattle.cmm_check_units.specs.declared.fault.StaticFault.{StaticFault}
use Rattle.cmm_check_units.specs.declared.fault.StaticFault.TheVariants.{At, Memory}

-- it is the one that is named of units
abbrev pub IsFaultOf : List UnitTree → StaticFault → Type 0
IsFaultOf us (At fault) = first_fault us ≡ Some fault
IsFaultOf us Memory = Unit {0}
