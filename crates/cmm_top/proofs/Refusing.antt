-- What is said of a fault that a layer below names, and of units that have no image.
use Rattle.std.proofs.Common.{◌≡◌, List, ℕ, Option, None, inl, inr, refl, subst, sym}
use Rattle.std.specs.Prelude.{◌⊎◌}
use Rattle.cmm_static_semantics.specs.declared.fault.Fault.{Fault}
use Rattle.cmm_compile.specs.declared.fault.BuildFault.{BuildFault}
use Rattle.cmm_compile.specs.declared.fault.BuildFault.TheVariants as build
use Rattle.cmm_compile.specs.Refusing.{IsRefused as IsRefusedBy, of_front}
use Rattle.cmm_front.specs.declared.fault.FrontFault.{FrontFault}
use Rattle.cmm_front.specs.declared.fault.FrontFault.TheVariants.{At, Memory}
use Rattle.cmm_front.specs.Refusing.{BreaksLexis, IsFaultOf, IsRefused as IsRefusedAtFront}
use Rattle.cmm_outside.specs.Storage.{Contents}
use Rattle.cmm_work.specs.Standing.{Outside}
use Rattle.cmm_work.specs.Ending.{work_of}
use Rattle.cmm_work.specs.Files.{HasUnits}
use Rattle.cmm_work.specs.Work.{RanOutOfMemory}
use Rattle.cmm_work.specs.declared.ending.Ending.{Ending}
use Rattle.cmm_work.specs.declared.ending.Ending.TheVariants as ending
use Rattle.cmm_work.proofs.Shared.{ran_out}
use Rattle.cmm_top.specs.Units.{HaveFault, IsRefused}
use Rattle.cmm_top.specs.declared.sources.Sources.{Sources}
use Rattle.cmm_top.specs.inside.Reading.{AreRead, AreUnits}
use Rattle.cmm_top.specs.inside.Refusals.{LackImage, Refuses}

pub lexis_is : (units : List (List ℕ)) (e : FrontFault) → IsRefusedAtFront (BreaksLexis units) e → IsRefusedBy (IsFaultOf units) (of_front e)
lexis_is units (At f) broken = inl broken
lexis_is units Memory broken = tt

-- units that are refused come to that
pub is_refused : (names : List (List ℕ)) (HasFault : Fault → Type 0) (before after : Outside) (fault : BuildFault) (end : Ending) → after ≡ before → Refuses names fault end →
    IsRefusedBy HasFault fault → IsRefused names HasFault (work_of end None before after) ⊎ RanOutOfMemory (work_of end None before after)
is_refused names HasFault before after (build.At f) (ending.Refused name g) same refuses has =
    inl record {
      fault = g;
      name = name.now;
      named = refuses.1;
      cause = subst HasFault (sym refuses.0) has;
      nothing = record { same = same; no_image = refl };
      ends = record { line = refl; status = refl };
    }
is_refused names HasFault before after (build.At f) ending.Usage same refuses has = absurd refuses
is_refused names HasFault before after (build.At f) (ending.BadImage rule offset) same refuses has = absurd refuses
is_refused names HasFault before after (build.At f) (ending.BadScript rule line) same refuses has = absurd refuses
is_refused names HasFault before after (build.At f) (ending.BadSnapshot rule offset) same refuses has = absurd refuses
is_refused names HasFault before after (build.At f) (ending.FileFault name) same refuses has = absurd refuses
is_refused names HasFault before after (build.At f) ending.OutputFault same refuses has = absurd refuses
is_refused names HasFault before after (build.At f) ending.OutOfMemory same refuses has = absurd refuses
is_refused names HasFault before after (build.At f) ending.Written same refuses has = absurd refuses
is_refused names HasFault before after (build.At f) ending.Walked same refuses has = absurd refuses
is_refused names HasFault before after (build.At f) (ending.Ran outcome) same refuses has = absurd refuses
is_refused names HasFault before after (build.At f) (ending.BadElf rule offset) same refuses has = absurd refuses
is_refused names HasFault before after (build.At f) (ending.Inspected code initial start) same refuses has = absurd refuses
is_refused names HasFault before after build.Memory ending.OutOfMemory same refuses has = inr (ran_out before after same)
is_refused names HasFault before after build.Memory ending.Usage same refuses has = absurd refuses
is_refused names HasFault before after build.Memory (ending.Refused name g) same refuses has = absurd refuses
is_refused names HasFault before after build.Memory (ending.BadImage rule offset) same refuses has = absurd refuses
is_refused names HasFault before after build.Memory (ending.BadScript rule line) same refuses has = absurd refuses
is_refused names HasFault before after build.Memory (ending.BadSnapshot rule offset) same refuses has = absurd refuses
is_refused names HasFault before after build.Memory (ending.FileFault name) same refuses has = absurd refuses
is_refused names HasFault before after build.Memory ending.OutputFault same refuses has = absurd refuses
is_refused names HasFault before after build.Memory ending.Written same refuses has = absurd refuses
is_refused names HasFault before after build.Memory ending.Walked same refuses has = absurd refuses
is_refused names HasFault before after build.Memory (ending.Ran outcome) same refuses has = absurd refuses
is_refused names HasFault before after build.Memory (ending.BadElf rule offset) same refuses has = absurd refuses
is_refused names HasFault before after build.Memory (ending.Inspected code initial start) same refuses has = absurd refuses

-- a fault that the units have in the files
pub fault_in : (contents : Option Contents) (names : List (List ℕ)) (fault : BuildFault) → HasUnits contents names (λ units. IsRefusedBy (IsFaultOf units) fault) →
    IsRefusedBy (λ f. HasUnits contents names (λ units. IsFaultOf units f)) fault
fault_in contents names (build.At f) has = has
fault_in contents names build.Memory has = tt

-- what was read has no image
pub no_image : (names : List (List ℕ)) (before after : Outside) (sources : Sources) (end : Ending) → after ≡ before → AreRead before.files names sources →
    ((units : List (List ℕ)) → AreUnits units sources → LackImage names units end) →
    IsRefused names (HaveFault names (work_of end None before after)) (work_of end None before after) ⊎ RanOutOfMemory (work_of end None before after)
no_image names before after sources end same (units, hold, are) lack =
    let l = lack units are in
    is_refused names (λ f. HaveFault names (work_of end None before after) f) before after l.fault end same l.refuses (fault_in before.files names l.fault (units, hold, l.cause))
