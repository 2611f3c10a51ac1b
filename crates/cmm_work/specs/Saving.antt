-- What a run leaves in files: nothing, but where the client stopped it and words name a file for that, its snapshot.
use Rattle.std.specs.Prelude.{◌≡◌, ◌⊎◌, ℕ, Bool, true, false, List, Option, Some, None}
use Rattle.rv_table.specs.Machine.{State}
use Rattle.cmm_image.specs.declared.parts.ImageParts.{ImageParts}
use Rattle.cmm_outside.specs.Faults.{Rose}
use Rattle.cmm_outside.specs.Storage.{StopsWriting, Writes}
use Rattle.cmm_run.specs.declared.outcome.Outcome.{Outcome}
use Rattle.cmm_run.specs.declared.outcome.Outcome.TheVariants as outcome
use Rattle.cmm_run.specs.Sessions.{IsSnapshotOf}
use Rattle.cmm_work.specs.Standing.{SameFiles}
use Rattle.cmm_work.specs.Lines.{file_fault_line, memory_line, outcome_line}
use Rattle.cmm_work.specs.Status.{status_of}
use Rattle.cmm_work.specs.Work.{Ends, Work}
use Rattle.cmm_work.specs.declared.status.Status.TheVariants.{FileFault, Memory, Stopped}

-- the client has stopped the run
abbrev pub is_stopped : Outcome → Bool
is_stopped outcome.Stopped = true
is_stopped (outcome.Done value) = false
is_stopped outcome.StackLimit = false
is_stopped outcome.StepLimit = false
is_stopped (outcome.Trap trap) = false
is_stopped outcome.InputFault = false
is_stopped outcome.OutputFault = false
is_stopped (outcome.Torn torn) = false

-- the file to which a run with this outcome is saved, if it is
abbrev pub saved_to : Bool → Option (List ℕ) → Option (List ℕ)
saved_to true save = save
saved_to false save = None

-- the file of this name holds the snapshot now
pub record HasSaved (image : ImageParts) (stack : ℕ) (machine : State) (name : List ℕ) (w : Work) : Type 0 where
  pub bytes : List ℕ
  pub snapshot : IsSnapshotOf image stack machine bytes
  pub written : Writes w.before.files w.after.files name (λ _. bytes)
  pub file_faults : w.after.file_faults ≡ w.before.file_faults
  pub last_failed : w.after.last_failed ≡ w.before.last_failed
  pub ends : Ends w (outcome_line outcome.Stopped) Stopped

-- the snapshot could not be written to the file of this name, or only a front of it
pub record FailsToSave (image : ImageParts) (stack : ℕ) (machine : State) (name : List ℕ) (w : Work) : Type 0 where
  pub bytes : List ℕ
  pub snapshot : IsSnapshotOf image stack machine bytes
  pub stops : StopsWriting w.before.files w.after.files w.after.last_failed name bytes
  pub rose : Rose w.before.file_faults w.after.file_faults
  pub ends : Ends w (file_fault_line name) FileFault

-- memory ran out behind the run, and no file has changed
pub record LacksMemory (w : Work) : Type 0 where
  pub files : SameFiles w.before w.after
  pub ends : Ends w memory_line Memory

-- no file has changed, and the run's own line closes the log
pub record SavesNothing (outcome : Outcome) (w : Work) : Type 0 where
  pub files : SameFiles w.before w.after
  pub ends : Ends w (outcome_line outcome) (status_of outcome)

abbrev pub Saves : ImageParts → ℕ → State → Outcome → Option (List ℕ) → Work → Type 0
Saves image stack machine outcome None w = SavesNothing outcome w
Saves image stack machine outcome (Some name) w =
    HasSaved image stack machine name w ⊎ (FailsToSave image stack machine name w ⊎ LacksMemory w)
