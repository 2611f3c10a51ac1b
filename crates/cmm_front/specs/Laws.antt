-- Units mean one program, or have one fault, and never both.
use Rattle.std.specs.Prelude.{◌≡◌, ℕ, List}
use Rattle.cmm_static_semantics.specs.declared.fault.Fault.{Fault}
use Rattle.cmm_program.specs.declared.program.Program.{Program}
use Rattle.cmm_front.specs.Programs.{IsProgramOf}
use Rattle.cmm_front.specs.Refusing.{IsFaultOf}

-- units mean one program at most
abbrev pub OneProgram : Type 0
OneProgram = (units : List (List ℕ)) (p q : Program) → IsProgramOf units p → IsProgramOf units q → p ≡ q

-- units have one fault at most
abbrev pub OneFault : Type 0
OneFault = (units : List (List ℕ)) (f g : Fault) → IsFaultOf units f → IsFaultOf units g → f ≡ g

-- units that mean a program have no fault
abbrev pub NeverBoth : Type 0
NeverBoth = (units : List (List ℕ)) (p : Program) (f : Fault) → IsProgramOf units p → IsFaultOf units f → ⊥
