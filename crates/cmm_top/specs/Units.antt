-- Units in files, and what there is to say where they have no image.
use Rattle.std.specs.Prelude.{◌≡◌, ◌⊎◌, ℕ, List, slice_get, Some}
use Rattle.cmm_static_semantics.specs.declared.fault.Fault.{Fault}
use Rattle.cmm_front.specs.Refusing.{IsFaultOf}
use Rattle.cmm_work.specs.declared.status.Status.TheVariants.{Refused}
use Rattle.cmm_work.specs.Files.{FailsToRead, HasUnits}
use Rattle.cmm_work.specs.Lines.{refused_line}
use Rattle.cmm_work.specs.Work.{DoesNothing, Ends, RanOutOfMemory, Work}

-- units are refused, for a fault of the one that has this name, and nothing was done
pub record IsRefused (names : List (List ℕ)) (HasFault : Fault → Type 0) (w : Work) : Type 0 where
  pub fault : Fault
  pub name : List ℕ
  pub named : slice_get names fault.unit ≡ Some name
  pub cause : HasFault fault
  pub nothing : DoesNothing w
  pub ends : Ends w (refused_line name fault) Refused

-- the units in the files have this fault
abbrev pub HaveFault : List (List ℕ) → Work → Fault → Type 0
HaveFault names w fault = HasUnits w.before.files names (λ units. IsFaultOf units fault)

-- there is no image of the units in the files of these names, where just the files of those names were to be read
abbrev pub HaveNoImage : List (List ℕ) → List (List ℕ) → Work → Type 0
HaveNoImage names read w = IsRefused names (HaveFault names w) w ⊎ (FailsToRead read w ⊎ RanOutOfMemory w)
