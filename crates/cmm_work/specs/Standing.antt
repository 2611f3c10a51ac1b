-- What stands outside of a call, and what of it stays.
use Rattle.std.specs.Prelude.{◌≡◌, ℕ, Option}
use Rattle.cmm_outside.specs.Storage.{Contents, FailedCall}
use Rattle.cmm_run.specs.Outside.{Outside as Streams}

-- What the files hold, where they tell it, how many calls on them failed so far, and the last that did; and the streams.
pub record Outside : Type 0 where
  pub files : Option Contents
  pub file_faults : ℕ
  pub last_failed : Option FailedCall
  pub streams : Streams

-- what files tell, beside streams
abbrev pub standing : {F : Type 0} → (F → Option Contents) → (F → ℕ) → (F → Option FailedCall) → F → Streams → Outside
standing contents faults last_failed files streams = record {
  files = contents files;
  file_faults = faults files;
  last_failed = last_failed files;
  streams = streams;
}

-- ---- what stays

-- the files hold what they held, and no call on them failed
pub record SameFiles (before after : Outside) : Type 0 where
  pub files : after.files ≡ before.files
  pub file_faults : after.file_faults ≡ before.file_faults
  pub last_failed : after.last_failed ≡ before.last_failed

-- nothing changes but what the log has taken, and its count of faults
pub record SameButLog (before after : Outside) : Type 0 where
  pub files : after.files ≡ before.files
  pub file_faults : after.file_faults ≡ before.file_faults
  pub last_failed : after.last_failed ≡ before.last_failed
  pub input : after.streams.input ≡ before.streams.input
  pub input_faults : after.streams.input_faults ≡ before.streams.input_faults
  pub output : after.streams.output ≡ before.streams.output
  pub output_faults : after.streams.output_faults ≡ before.streams.output_faults
