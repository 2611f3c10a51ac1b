-- A call of the program: what it is given, what stands outside before and after it, and what it answers.
use Rattle.std.specs.Prelude.{◌≡◌, ◌⊎◌, ℕ, List, Option}
use Rattle.cmm_image.specs.declared.parts.ImageParts.{ImageParts}
use Rattle.cmm_outside.specs.Faults.{Rose}
use Rattle.cmm_outside.specs.Output.{Appends, AppendsFront}
use Rattle.cmm_work.specs.declared.status.Status.{Status}
use Rattle.cmm_work.specs.declared.status.Status.TheVariants.{OutputFault}
use Rattle.cmm_work.specs.Standing.{Outside, SameButLog}

pub record Call : Type 0 where
  pub words : List (List ℕ)
  pub before : Outside
  pub after : Outside
  pub status : Status
  -- the image that was made and loaded to be run, if one was
  pub image : Option ImageParts

-- ---- how a call ends

-- the log gets a line whole, and the status is this one
pub record Tells (c : Call) (last : Outside) (line : List ℕ) (status : Status) : Type 0 where
  pub is : c.status ≡ status
  pub log : Appends last.streams.log c.after.streams.log line
  pub faults : c.after.streams.log_faults ≡ last.streams.log_faults

-- the log fails, and gets a front of the line
pub record FailsToTell (c : Call) (last : Outside) (line : List ℕ) : Type 0 where
  pub is : c.status ≡ OutputFault
  pub log : AppendsFront last.streams.log c.after.streams.log line
  pub faults : Rose last.streams.log_faults c.after.streams.log_faults

-- From where all but its line is done, a call ends with this line and this status, unless the log fails.
pub record Closes (c : Call) (last : Outside) (line : List ℕ) (status : Status) : Type 0 where
  pub same : SameButLog last c.after
  pub told : Tells c last line status ⊎ FailsToTell c last line
