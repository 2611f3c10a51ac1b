-- What means a program is built and run: where the files tell that they hold accepted units, no call refuses them.
use Rattle.std.specs.Prelude.{◌≡◌, ◌⊎◌, ◌++◌, ℕ, List, [], ◌∷◌, Option, Some}
use Rattle.cmm_program.specs.declared.program.Program.{Program}
use Rattle.cmm_script.specs.declared.script.Script.{Script}
use Rattle.cmm_front.specs.Programs.{IsProgramOf}
use Rattle.cmm_generated.specs.Generated.{generated}
use Rattle.cmm_outside.specs.Storage.{Contents}
use Rattle.cmm_command.specs.declared.command.RunLimits.{RunLimits}
use Rattle.cmm_work.specs.Files.{FailsToRead, Hold}
use Rattle.cmm_work.specs.Script.{HasScript, named_file}
use Rattle.cmm_work.specs.Work.{RanOutOfMemory, Work}
use Rattle.cmm_work.specs.Writing.{FailsToWrite}
use Rattle.cmm_top.specs.Building.{Builds, HasBuilt, IsBuiltOf}
use Rattle.cmm_top.specs.Executing.{Executes, HasBadScript, HasRun}
use Rattle.cmm_top.specs.Generating as generating

-- `exec` runs units that mean a program, unless the file of the client holds no script, a read fails or memory runs out
abbrev pub AcceptedUnitsRun : Type 0
AcceptedUnitsRun = (names : List (List ℕ)) (client : Option (List ℕ)) (limits : RunLimits) (w : Work) (files : Contents) (units : List (List ℕ)) (p : Program) →
    w.before.files ≡ Some files → Hold files names units → IsProgramOf units p → Executes names client limits w →
    HasRun names client limits w ⊎ (HasBadScript names client w ⊎ (FailsToRead (names ++ named_file client) w ⊎ RanOutOfMemory w))

-- and where that file holds a script, or there is none, it runs them unless a read fails or memory runs out
abbrev pub AcceptedUnitsRunWithScripts : Type 0
AcceptedUnitsRunWithScripts = (names : List (List ℕ)) (client : Option (List ℕ)) (limits : RunLimits) (w : Work) (files : Contents) (units : List (List ℕ)) (p : Program)
    (script : Script) → w.before.files ≡ Some files → Hold files names units → IsProgramOf units p → HasScript (Some files) client script → Executes names client limits w →
    HasRun names client limits w ⊎ (FailsToRead (names ++ named_file client) w ⊎ RanOutOfMemory w)

-- `build` writes the image of units that mean a program, unless a call on the files fails or memory runs out
abbrev pub AcceptedUnitsAreBuilt : Type 0
AcceptedUnitsAreBuilt = (names : List (List ℕ)) (name : List ℕ) (w : Work) (files : Contents) (units : List (List ℕ)) (p : Program) →
    w.before.files ≡ Some files → Hold files names units → IsProgramOf units p → Builds names name w →
    HasBuilt names name w ⊎ (FailsToWrite (IsBuiltOf w.before.files names) name w ⊎ (FailsToRead names w ⊎ RanOutOfMemory w))

-- `gen` runs the unit of a number if that means a program, unless the log fails or memory runs out
abbrev pub AcceptedGeneratedUnitRuns : Type 0
AcceptedGeneratedUnitRuns = (number : ℕ) (w : Work) (p : Program) → IsProgramOf (generated number ∷ []) p → generating.Generates number w →
    generating.HasRun number w ⊎ (generating.FailsToCount number w ⊎ RanOutOfMemory w)
