-- Sessions that have run.
use Rattle.std.specs.Prelude.{◌≡◌, ℕ, Some}
use Rattle.cmm_image_machine.specs.Machine.{Launch}
use Rattle.cmm_run.specs.declared.outcome.Outcome.{Outcome}
use Rattle.cmm_run.specs.Outside.{Outside as Streams}
use Rattle.cmm_run.specs.Runs.{Runs}
use Rattle.cmm_run.specs.Sessions.{SessionState, machine_of}

-- a session of this launch has run, and stands now so
pub record HasRunSo (l : Launch) (steps : ℕ) (before after : Streams) (outcome : Outcome) (s : SessionState) : Type 0 where
  pub launch : s.launch ≡ l
  pub answer : s.answer ≡ Some outcome
  pub runs : Runs l steps before after outcome (machine_of s)
