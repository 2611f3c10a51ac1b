-- What `run` promises: the image in the file runs with the client's script, and its snapshot is saved where the client stopped it; or there is a cause why not.
use Rattle.std.specs.Prelude.{◌≡◌, ◌⊎◌, ℕ, List, ◌∷◌, Option, None}
use Rattle.cmm_command.specs.declared.command.RunLimits.{RunLimits}
use Rattle.cmm_image_machine.specs.Machine.{launch_of}
use Rattle.cmm_image.specs.declared.parts.ImageParts.{ImageParts}
use Rattle.cmm_image.specs.Images.{IsFirstFault, SpellsImage}
use Rattle.cmm_rules.specs.declared.rule.Rule.{Rule}
use Rattle.cmm_run.specs.Runs.{Runs}
use Rattle.cmm_run.specs.declared.outcome.Outcome.{Outcome}
use Rattle.rv_table.specs.Machine.{State}
use Rattle.cmm_script.specs.declared.script.Script.{Script}
use Rattle.cmm_work.specs.declared.status.Status.TheVariants.{BadImage}
use Rattle.cmm_work.specs.Files.{FailsToRead, HasBytes}
use Rattle.cmm_work.specs.Lines.{bad_image_line}
use Rattle.cmm_work.specs.Script.{HasScript, HoldsNoScript, named_file}
use Rattle.cmm_work.specs.Saving.{Saves, is_stopped, saved_to}
use Rattle.cmm_work.specs.Work.{DoesNothing, Ends, RanOutOfMemory, Work}

-- the file holds an image, which has run with the script, and what the run leaves was saved
pub record HasRun (name : List ℕ) (client : Option (List ℕ)) (limits : RunLimits) (save : Option (List ℕ)) (w : Work) : Type 0 where
  pub image : ImageParts
  pub no_image : w.image ≡ None
  pub spelled : HasBytes w.before.files name (λ bytes. SpellsImage bytes image)
  pub script : Script
  pub has_script : HasScript w.before.files client script
  pub outcome : Outcome
  pub machine : State
  pub runs : Runs (launch_of image script limits.stack) limits.steps w.before.streams w.after.streams outcome machine
  pub saves : Saves image limits.stack machine outcome (saved_to (is_stopped outcome) save) w

-- the file holds an image, and that of the client holds no script
pub record HasBadScript (name : List ℕ) (client : Option (List ℕ)) (w : Work) : Type 0 where
  pub image : ImageParts
  pub spelled : HasBytes w.before.files name (λ bytes. SpellsImage bytes image)
  pub bad : HoldsNoScript client w

-- the bytes of the file have a fault, and nothing was done
pub record IsRefusedFor (Fault : List ℕ → Rule → ℕ → Type 0) (name : List ℕ) (w : Work) : Type 0 where
  pub rule : Rule
  pub offset : ℕ
  pub first : HasBytes w.before.files name (λ bytes. Fault bytes rule offset)
  pub nothing : DoesNothing w
  pub ends : Ends w (bad_image_line rule offset) BadImage

-- the file holds no image: this rule is the first that its bytes break
abbrev pub IsRefused : List ℕ → Work → Type 0
IsRefused name w = IsRefusedFor IsFirstFault name w

-- there is nothing to run: the file holds no image, or that of the client no script
abbrev pub CannotRun : List ℕ → Option (List ℕ) → Work → Type 0
CannotRun name client w = HasBadScript name client w ⊎ (IsRefused name w ⊎ (FailsToRead (name ∷ named_file client) w ⊎ RanOutOfMemory w))

abbrev pub RunsFile : List ℕ → Option (List ℕ) → RunLimits → Option (List ℕ) → Work → Type 0
RunsFile name client limits save w = HasRun name client limits save w ⊎ CannotRun name client w
