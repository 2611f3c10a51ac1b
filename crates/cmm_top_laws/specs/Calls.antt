-- What calls of the program come to, in the words of the C-- machine.
use Rattle.std.specs.Prelude.{ℕ, List, [], ◌∷◌, IfSome, Option}
use Rattle.std.specs.List.{All}
use Rattle.rv_table.specs.Machine as rv
use Rattle.cmm_outside.specs.Output.{Appends}
use Rattle.cmm_outside.specs.Storage.{Contents}
use Rattle.cmm_script.specs.declared.script.Script.{Script}
use Rattle.cmm_program.specs.declared.program.Program.{Program}
use Rattle.cmm_program.specs.Bounds.{step_factor}
use Rattle.cmm_program.specs.Placed.{IsPlaced}
use Rattle.cmm_generated.specs.Generated.{generated}
use Rattle.cmm_program.specs.Memory.{IsByte}
use Rattle.cmm_front.specs.Programs.{IsProgramOf}
use Rattle.cmm_image.specs.declared.parts.ImageParts.{ImageParts}
use Rattle.cmm_image_machine.specs.Machine.{region_of, IsStackSize, launch_of}
use Rattle.cmm_image_machine.specs.Walks.{chain_walk}
use Rattle.cmm_image_machine.specs.Tables.{placement_of}
use Rattle.cmm_compile.specs.Agreement.{setting_of}
use Rattle.cmm_run.specs.declared.outcome.Outcome.{Outcome}
use Rattle.cmm_run.specs.Outside.{Outside as Streams}
use Rattle.cmm_command.specs.declared.command.RunLimits.{RunLimits}
use Rattle.cmm_work.specs.Files.{HasUnits}
use Rattle.cmm_top.specs.Generating.{usual_limits}
use Rattle.cmm_top.specs.Counts.{counts_lines}
use Rattle.cmm_work.specs.Lines.{outcome_line}
use Rattle.cmm_work.specs.Saving.{Saves, is_stopped, saved_to}
use Rattle.cmm_work.specs.Script.{HasScript}
use Rattle.cmm_work.specs.Status.{status_of}
use Rattle.cmm_top.specs.Words.{Task, build, convert, execute, generate, inspect, migrate, run, walk}
use Rattle.cmm_work.specs.Work.{Ends, Work, no_script}
use Rattle.cmm_top_laws.specs.Explained.{IsExplained}

-- what a run may be asked for: stacks are as words give them, and an input that tells what it has has bytes
pub record CanRun (limits : RunLimits) (before : Streams) : Type 0 where
  pub stack : IsStackSize limits.stack
  pub bytes : IfSome before.input (All IsByte)

-- what is asked for has a stack of such a size, if it has one
abbrev pub HasStackSize : Task → Type 0
HasStackSize (execute names client limits) = IsStackSize limits.stack
HasStackSize (run name client limits save) = IsStackSize limits.stack
HasStackSize (walk name snapshot) = Unit {0}
HasStackSize (build names name) = Unit {0}
HasStackSize (generate number) = Unit {0}
HasStackSize (convert name file) = Unit {0}
HasStackSize (migrate name file) = Unit {0}
HasStackSize (inspect name) = Unit {0}

-- The C-- machine of a program explains a run of it that came to this state, with the placement that an image shows, which is a valid one of the program, and a client's
-- script.
abbrev pub RunsOf : Program → ImageParts → Script → RunLimits → Streams → Streams → Outcome → rv.State → Type 0
RunsOf p i script limits before after answer stood =
    IsExplained (setting_of p i script limits.stack) (step_factor p) limits.steps before after answer (chain_walk i (region_of (launch_of i script limits.stack)) stood)

-- the units in the files mean a program, and the C-- machine explains what the call wrote, took and answered
pub record IsMachineOf (names : List (List ℕ)) (client : Option (List ℕ)) (limits : RunLimits) (w : Work) : Type 0 where
  pub program : Program
  pub means : HasUnits w.before.files names (λ units. IsProgramOf units program)
  pub image : ImageParts
  pub placed : IsPlaced program (placement_of image)
  pub script : Script
  pub has_script : HasScript w.before.files client script
  pub answer : Outcome
  pub stood : rv.State
  pub explained : RunsOf program image script limits w.before.streams w.after.streams answer stood
  pub ends : Ends w (outcome_line answer) (status_of answer)

-- The units that files held mean a program, and the C-- machine explains what a later call did with the file that was built of them: what it wrote, took and left.
pub record IsMachineOfBuilt (contents : Option Contents) (names : List (List ℕ)) (client : Option (List ℕ)) (limits : RunLimits) (save : Option (List ℕ)) (w : Work) : Type 0 where
  pub program : Program
  pub means : HasUnits contents names (λ units. IsProgramOf units program)
  pub image : ImageParts
  pub placed : IsPlaced program (placement_of image)
  pub script : Script
  pub has_script : HasScript w.before.files client script
  pub answer : Outcome
  pub stood : rv.State
  pub explained : RunsOf program image script limits w.before.streams w.after.streams answer stood
  pub saves : Saves image limits.stack stood answer (saved_to (is_stopped answer) save) w

-- The unit of a number means a program, and behind its counts the C-- machine, at whose first yield the run stops, explains what the call wrote, took and answered.
pub record IsMachineOfGenerated (number : ℕ) (w : Work) : Type 0 where
  pub program : Program
  pub means : IsProgramOf (generated number ∷ []) program
  pub told : Option (List ℕ)
  pub counts : Appends w.before.streams.log told (counts_lines program)
  pub image : ImageParts
  pub placed : IsPlaced program (placement_of image)
  pub answer : Outcome
  pub stood : rv.State
  pub explained : RunsOf program image no_script usual_limits (record w.before.streams { log = told }) w.after.streams answer stood
  pub ends : Ends w (outcome_line answer) (status_of answer)
