-- What a user relies on: calls do what the C-- machine does.
use Rattle.std.specs.Prelude.{◌≡◌, ℕ, suc, true, IfSome, List, Option, Some}
use Rattle.std.specs.List.{All}
use Rattle.rv_table.specs.Machine as rv
use Rattle.cmm_outside.specs.Storage.{Contents}
use Rattle.cmm_script.specs.declared.script.Script.{Script}
use Rattle.cmm_script.specs.Walk.{Activation}
use Rattle.cmm_program.specs.Machine.{start}
use Rattle.cmm_program.specs.State.{Setting}
use Rattle.cmm_program.specs.Walks.{walk_of}
use Rattle.cmm_program.specs.Memory.{IsByte}
use Rattle.cmm_image.specs.declared.parts.ImageParts.{ImageParts}
use Rattle.cmm_image.specs.Images.{SpellsImage}
use Rattle.cmm_image_machine.specs.Machine.{Launch, first_run, region_of, launch_of}
use Rattle.cmm_image_machine.specs.Observed.{image_machine}
use Rattle.cmm_image_machine.specs.Walks.{chain_walk}
use Rattle.cmm_simulation.specs.Agreement.{Agrees}
use Rattle.cmm_simulation.specs.Seen.{Seen}
use Rattle.cmm_compile.specs.Agreement.{setting_of}
use Rattle.cmm_run.specs.declared.outcome.Outcome.{Outcome}
use Rattle.cmm_run.specs.declared.outcome.Outcome.TheVariants.{Stopped}
use Rattle.cmm_run.specs.Outside.{Outside as Streams}
use Rattle.cmm_run.specs.Runs.{Runs}
use Rattle.cmm_run.specs.Sessions.{IsSnapshotOf}
use Rattle.cmm_command.specs.declared.command.RunLimits.{RunLimits}
use Rattle.cmm_top.specs.Building.{HasBuilt}
use Rattle.cmm_top.specs.Executing as executing
use Rattle.cmm_top.specs.Generating as generating
use Rattle.cmm_work.specs.Running as running
use Rattle.cmm_work.specs.Saving.{HasSaved}
use Rattle.cmm_work.specs.Walking.{HasWalked}
use Rattle.cmm_top.specs.Words.{Task, task_of}
use Rattle.cmm_work.specs.Work.{Work}
use Rattle.cmm_top_laws.specs.Calls.{CanRun, HasStackSize, IsMachineOf, IsMachineOfBuilt, IsMachineOfGenerated}
use Rattle.cmm_top_laws.specs.Explained.{Errs, IsExplained, StandsThere, machine_in, state_at}
use Rattle.cmm_top_laws.specs.Walked.{WalksSo}

-- the C-- machine explains a run of an image that agrees with it
abbrev pub RunsAreExplained : Type 0
RunsAreExplained = (s : Setting) (l : Launch) (factor n : ℕ) (before after : Streams) (answer : Outcome) (stood : rv.State) (runs : Runs l n before after answer stood) →
    Agrees (machine_in s) (image_machine l) factor factor 1 (start s runs.input) (first_run l runs.input) →
    IsExplained s factor n before after answer (chain_walk l.image (region_of l) stood)

-- a machine that errs with a step after so many at most is wrong one step behind them; so where it is not wrong then, it stands where the call ended
abbrev pub ErrorsLast : Type 0
ErrorsLast = (s : Setting) (input : List ℕ) (most : ℕ) (shown : Seen ℕ) → Errs s input most shown → (machine_in s).wrong (state_at s input (suc most)) ≡ true

-- where `exec` has run what it built
abbrev pub ExecIsTheMachine : Type 0
ExecIsTheMachine = (names : List (List ℕ)) (client : Option (List ℕ)) (limits : RunLimits) (w : Work) → CanRun limits w.before.streams →
    executing.HasRun names client limits w → IsMachineOf names client limits w

-- where `build` has written bytes, and `run` has run the same bytes
abbrev pub BuiltBytesRunSo : Type 0
BuiltBytesRunSo = (names : List (List ℕ)) (to from : List ℕ) (client : Option (List ℕ)) (limits : RunLimits) (save : Option (List ℕ)) (built ran : Work) →
    CanRun limits ran.before.streams → (made : HasBuilt names to built) (run : running.HasRun from client limits save ran) → made.bytes ≡ run.spelled.0 →
    IsMachineOfBuilt built.before.files names client limits save ran

-- where `build` has written a file, and `run` has run what it held then, for files that tell what they hold
abbrev pub BuiltFilesRunSo : Type 0
BuiltFilesRunSo = (names : List (List ℕ)) (name : List ℕ) (client : Option (List ℕ)) (limits : RunLimits) (save : Option (List ℕ)) (built ran : Work) →
    CanRun limits ran.before.streams → (files : Contents) → built.before.files ≡ Some files → HasBuilt names name built →
    (now later : Contents) → built.after.files ≡ Some now → ran.before.files ≡ Some later → later name ≡ now name →
    running.HasRun name client limits save ran → IsMachineOfBuilt built.before.files names client limits save ran

-- where `gen` has run the unit of a number, within the usual limits
abbrev pub GenIsTheMachine : Type 0
GenIsTheMachine = (number : ℕ) (w : Work) → IfSome w.before.streams.input (All IsByte) → generating.HasRun number w → IsMachineOfGenerated number w

-- words ask for no stack of another size
abbrev pub WordsGiveStackSizes : Type 0
WordsGiveStackSizes = (words : List (List ℕ)) (task : Task) → task_of words ≡ Some task → HasStackSize task

-- where a run of an image stood so when its client stopped it, and `walk` has read this image and the snapshot of that
abbrev pub SnapshotsWalkSo : Type 0
SnapshotsWalkSo = (image : ImageParts) (script : Script) (stack : ℕ) (stood : rv.State) (bytes : List ℕ) (walk : List Activation) → IsSnapshotOf image stack stood bytes →
    chain_walk image (region_of (launch_of image script stack)) stood ≡ Some walk → (name snapshot : List ℕ) (w : Work) (walked : HasWalked name snapshot w) →
    walked.program.image ≡ image → walked.stopped.0 ≡ bytes → WalksSo walk w

-- where the client has stopped a run of what was built, its snapshot was saved, and `walk` has read the same image and the same snapshot: wherever the machine stands where the
-- run ended, as it does unless it has erred on the way, `walk` writes the machine's walk
abbrev pub SavedRunsWalkSo : Type 0
SavedRunsWalkSo = (contents : Option Contents) (names : List (List ℕ)) (client : Option (List ℕ)) (limits : RunLimits) (saved : List ℕ) (ran : Work)
    (so : IsMachineOfBuilt contents names client limits (Some saved) ran) → so.answer ≡ Stopped → (has : HasSaved so.image limits.stack so.stood saved ran) →
    (name : List ℕ) (w : Work) (walked : HasWalked name saved w) → SpellsImage walked.spelled.0 so.image → walked.stopped.0 ≡ has.bytes →
    let s = setting_of so.program so.image so.script limits.stack in
    (there : StandsThere s so.explained.input limits.steps so.explained.shown so.answer (chain_walk so.image (region_of (launch_of so.image so.script limits.stack)) so.stood)) →
    WalksSo (walk_of s (state_at s so.explained.input there.steps).store) w
