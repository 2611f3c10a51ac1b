-- What the program's call promises, for all words, files and streams.
use Rattle.std.specs.Prelude.{◌≡◌, ◌⊎◌, ℕ, List, Option, Some, None}
use Rattle.cmm_image.specs.declared.parts.ImageParts.{ImageParts}
use Rattle.cmm_work.specs.declared.status.Status.{Status}
use Rattle.cmm_work.specs.declared.status.Status.TheVariants.{Usage}
use Rattle.cmm_top.specs.Building.{Builds}
use Rattle.cmm_top.specs.Call.{Call, Closes}
use Rattle.cmm_work.specs.Standing.{Outside}
use Rattle.cmm_work.specs.Converting.{Converts, Migrates}
use Rattle.cmm_top.specs.Executing.{Executes}
use Rattle.cmm_top.specs.Generating.{Generates}
use Rattle.cmm_work.specs.Inspecting.{Inspects}
use Rattle.cmm_work.specs.Lines.{usage_line}
use Rattle.cmm_work.specs.Running.{RunsFile}
use Rattle.cmm_work.specs.Status.{number_of}
use Rattle.cmm_work.specs.Walking.{Walks}
use Rattle.cmm_top.specs.Words.{Task, execute, run, build, walk, generate, convert, migrate, inspect, task_of}
use Rattle.cmm_work.specs.Work.{DoesNothing, Ends, RanOutOfMemory, Work}

abbrev pub Does : Task → Work → Type 0
Does (execute names client limits) w = Executes names client limits w
Does (run name client limits save) w = RunsFile name client limits save w
Does (walk name snapshot) w = Walks name snapshot w
Does (build names name) w = Builds names name w
Does (generate number) w = Generates number w
Does (convert name file) w = Converts name file w
Does (migrate name file) w = Migrates name file w
Does (inspect name) w = Inspects name w

-- the words are none that the program takes, and nothing was done
pub record IsUsage (words : List (List ℕ)) (w : Work) : Type 0 where
  pub none : task_of words ≡ None
  pub nothing : DoesNothing w
  pub ends : Ends w usage_line Usage

-- the words ask for a task, which was done
pub record IsDone (words : List (List ℕ)) (w : Work) : Type 0 where
  pub task : Task
  pub asked : task_of words ≡ Some task
  pub done : Does task w

-- what words come to
pub record ComesTo (words : List (List ℕ)) (w : Work) : Type 0 where
  pub is : IsUsage words w ⊎ (IsDone words w ⊎ RanOutOfMemory w)

-- a call comes to what its words ask for, and closes with the line and the status of that
pub record Answers (c : Call) : Type 0 where
  pub last : Outside
  pub line : List ℕ
  pub status : Status
  pub comes : ComesTo c.words (record { before = c.before; after = last; image = c.image; line = line; status = status })
  pub closes : Closes c last line status

-- a call that ends with some status, and an image if one was loaded, answers so, and this is that status's number
pub record EndsWith (call : Status → Option ImageParts → Call) (number : ℕ) : Type 0 where
  pub ended : Status
  pub image : Option ImageParts
  pub is : number ≡ number_of ended
  pub answers : Answers (call ended image)
