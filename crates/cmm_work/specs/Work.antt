-- What a call does, all but the line that it ends with.
use Rattle.std.specs.Prelude.{◌≡◌, ℕ, List, [], Option, None}
use Rattle.cmm_command.specs.declared.command.RunLimits.{RunLimits}
use Rattle.cmm_image_machine.specs.Machine.{launch_of}
use Rattle.cmm_image.specs.declared.parts.ImageParts.{ImageParts}
use Rattle.cmm_run.specs.declared.outcome.Outcome.{Outcome}
use Rattle.cmm_run.specs.Outside.{Outside as Streams}
use Rattle.cmm_run.specs.Runs.{Runs}
use Rattle.cmm_script.specs.declared.script.Script.{Script}
use Rattle.rv_table.specs.Machine.{State}
use Rattle.cmm_work.specs.declared.status.Status.{Status}
use Rattle.cmm_work.specs.declared.status.Status.TheVariants.{Memory}
use Rattle.cmm_work.specs.Standing.{Outside, SameFiles}
use Rattle.cmm_work.specs.Lines.{memory_line, outcome_line}
use Rattle.cmm_work.specs.Status.{status_of}

pub record Work : Type 0 where
  pub before : Outside
  pub after : Outside
  -- the image that was made and loaded to be run, if one was
  pub image : Option ImageParts
  -- the line that is to be written, and the status where that succeeds
  pub line : List ℕ
  pub status : Status

-- it ends with this line and this status
pub record Ends (w : Work) (text : List ℕ) (number : Status) : Type 0 where
  pub line : w.line ≡ text
  pub status : w.status ≡ number

-- nothing was done, and there is no image
pub record DoesNothing (w : Work) : Type 0 where
  pub same : w.after ≡ w.before
  pub no_image : w.image ≡ None

-- memory ran out before anything was done: no cause is asked
pub record RanOutOfMemory (w : Work) : Type 0 where
  pub nothing : DoesNothing w
  pub ends : Ends w memory_line Memory

-- the script without a block, at which each yield stops the run
abbrev pub no_script : Script
no_script = record { blocks = [] }

-- An image has run with a script, from where the streams stood so, as the definition of an image says: what was written and taken, and what it came to. Where the
-- client stopped it, its registers and its memory stood so.
pub record Ran (w : Work) (start : Streams) (image : ImageParts) (script : Script) (limits : RunLimits) : Type 0 where
  pub files : SameFiles w.before w.after
  pub outcome : Outcome
  pub machine : State
  pub runs : Runs (launch_of image script limits.stack) limits.steps start w.after.streams outcome machine
  pub ends : Ends w (outcome_line outcome) (status_of outcome)
