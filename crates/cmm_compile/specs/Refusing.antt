-- What is said of units that are refused.
use Rattle.cmm_static_semantics.specs.declared.fault.Fault.{Fault}
use Rattle.cmm_front.specs.declared.fault.FrontFault.{FrontFault}
use Rattle.cmm_front.specs.declared.fault.FrontFault.TheVariants as front
use Rattle.cmm_compile.specs.declared.fault.BuildFault.{BuildFault}
use Rattle.cmm_compile.specs.declared.fault.BuildFault.TheVariants.{At, Memory}

-- what is said of a fault that is named; of want of memory nothing is
abbrev pub IsRefused : (Fault → Type 0) → BuildFault → Type 0
IsRefused P (At f) = P f
IsRefused P Memory = Unit {0}

-- a fault of the front, as that of the build
abbrev pub of_front : FrontFault → BuildFault
of_front (front.At f) = At f
of_front front.Memory = Memory
