-- What it is that the C-- machine explains what a call wrote, took and answered.
use Rattle.std.specs.Prelude.{◌≡◌, ◌≢◌, ◌⊎◌, ℕ, suc, ◌+◌, ◌*◌, ◌≤◌, ◌++◌, Bool, true, false, List, IfSome, Option, Some}
use Rattle.rv_table.specs.declared.trap.Trap.{Trap}
use Rattle.cmm_outside.specs.Output.{Appends, AppendsFront}
use Rattle.cmm_simulation.specs.Machine.{Machine, Stands, after}
use Rattle.cmm_simulation.specs.Seen.{Seen, Input, IsWithin}
use Rattle.cmm_script.specs.Walk.{Activation}
use Rattle.cmm_program.specs.Control.{State}
use Rattle.cmm_program.specs.Machine.{start}
use Rattle.cmm_program.specs.State as c
use Rattle.cmm_program.specs.State.{Setting}
use Rattle.cmm_program.specs.Todo.{Todo, todo_control}
use Rattle.cmm_program.specs.Walks.{walk_of}
use Rattle.cmm_machine_laws.specs.Observed.{Call, Ending, machine_of}
use Rattle.cmm_image_machine.specs.Machine as image
use Rattle.cmm_walk.specs.declared.chain.Torn.{Torn}
use Rattle.cmm_run.specs.declared.outcome.Outcome.{Outcome}
use Rattle.cmm_run.specs.declared.outcome.Outcome.TheVariants as outcome
use Rattle.cmm_run.specs.Outside.{Outside as Streams}
use Rattle.cmm_run.specs.Runs.{answer_of}

-- where the input tells what it has, these bytes were taken from its front
pub record Gave (before after : Streams) (taken : List ℕ) : Type 0 where
  pub rest : List ℕ
  pub had : IfSome before.input (λ bytes. bytes ≡ taken ++ rest)
  pub has : IfSome before.input (λ _. after.input ≡ Some rest)

-- output and log got just so much, and the input gave it
pub record ShowsAll (before after : Streams) (shown : Seen ℕ) : Type 0 where
  pub output : Appends before.output after.output shown.output
  pub log : Appends before.log after.log shown.log
  pub taken : Gave before after shown.taken

-- output and log got a front of it each
pub record ShowsFront (before after : Streams) (shown : Seen ℕ) : Type 0 where
  pub output : AppendsFront before.output after.output shown.output
  pub log : AppendsFront before.log after.log shown.log

-- where writing failed, a front was written
abbrev pub Shows : Outcome → Streams → Streams → Seen ℕ → Type 0
Shows outcome.OutputFault before after shown = ShowsFront before after shown
Shows outcome.InputFault before after shown = ShowsAll before after shown
Shows (outcome.Done value) before after shown = ShowsAll before after shown
Shows outcome.Stopped before after shown = ShowsAll before after shown
Shows outcome.StackLimit before after shown = ShowsAll before after shown
Shows outcome.StepLimit before after shown = ShowsAll before after shown
Shows (outcome.Trap trap) before after shown = ShowsAll before after shown
Shows (outcome.Torn torn) before after shown = ShowsAll before after shown

-- the outcome is a fault of the input, the output or the log
abbrev pub is_fault : Outcome → Bool
is_fault outcome.InputFault = true
is_fault outcome.OutputFault = true
is_fault (outcome.Done value) = false
is_fault outcome.Stopped = false
is_fault outcome.StackLimit = false
is_fault outcome.StepLimit = false
is_fault (outcome.Trap trap) = false
is_fault (outcome.Torn torn) = false

-- the C-- machine of a program with its placement and its client
abbrev pub machine_in : Setting → Machine (State Todo) ℕ Call Ending
machine_in s = machine_of (todo_control s.program) s

-- its state after m steps
abbrev pub state_at : Setting → List ℕ → ℕ → State Todo
state_at s input m = after (machine_in s) m (start s input)

-- After some steps, at most so many, the machine stands where the call ended: it has shown no more than was written and taken, and shows that with its next step; where the
-- call ended by the program, its client or the stack's limit, it has ended so, with just what was shown; where the input failed, it is about to take from it; where the client
-- stopped the call, the walk is the machine's; and the call came to no trap and no break of the chain.
pub record StandsThere (s : Setting) (input : List ℕ) (most : ℕ) (shown : Seen ℕ) (answer : Outcome) (walk : Option (List Activation)) : Type 0 where
  pub steps : ℕ
  pub soon : steps ≤ most
  pub right : (machine_in s).wrong (state_at s input steps) ≡ false
  pub least : IsWithin ((machine_in s).seen (state_at s input steps)) shown
  pub within : IsWithin shown ((machine_in s).seen (state_at s input (suc steps)))
  pub comes : (how : c.Outcome) → answer ≡ answer_of (image.Ended how) →
      ((state_at s input steps).store.status ≡ c.Ended how) × ((machine_in s).seen (state_at s input steps) ≡ shown)
  pub takes : answer ≡ outcome.InputFault → Stands (machine_in s) Input shown (state_at s input steps)
  pub leaves : answer ≡ outcome.Stopped → walk ≡ Some (walk_of s (state_at s input steps).store)
  pub no_trap : (trap : Trap) → answer ≢ outcome.Trap trap
  pub no_break : (torn : Torn) → answer ≢ outcome.Torn torn

-- The machine commits an unchecked error with a step after so many at most, and all that it has shown before that was written and taken.
pub record Errs (s : Setting) (input : List ℕ) (most : ℕ) (shown : Seen ℕ) : Type 0 where
  pub steps : ℕ
  pub soon : steps ≤ most
  pub right : (machine_in s).wrong (state_at s input steps) ≡ false
  pub error : (machine_in s).wrong (state_at s input (suc steps)) ≡ true
  pub before : IsWithin ((machine_in s).seen (state_at s input steps)) shown

-- A call within n instructions, with this outcome and with this walk of the stack at its end, wrote and took what the C-- machine does, where a step of it takes at least one instruction and at most `factor`:
-- for the input that there is, where it tells its bytes, or for some input of which it gave the front that was taken.
pub record IsExplained (s : Setting) (factor n : ℕ) (before after : Streams) (answer : Outcome) (walk : Option (List Activation)) : Type 0 where
  pub input : List ℕ
  pub told : IfSome before.input (λ left. left ≡ input)
  -- what was written, or was to be, and what was taken
  pub shown : Seen ℕ
  pub shows : Shows answer before after shown
  -- all that the machine shows in the steps for which there was time
  pub soon : is_fault answer ≡ false → (m : ℕ) → factor * (m + 1) ≤ n → (machine_in s).wrong (state_at s input m) ≡ false →
      IsWithin ((machine_in s).seen (state_at s input m)) shown
  -- and no more, where it has ended by then: the outcome is its own
  pub ended : is_fault answer ≡ false → (m : ℕ) → factor * (m + 1) ≤ n → (how : c.Outcome) → (state_at s input m).store.status ≡ c.Ended how →
      (answer ≡ answer_of (image.Ended how)) × (shown ≡ (machine_in s).seen (state_at s input m))
  -- and it stands where the call ended, or has erred on the way
  pub stands : StandsThere s input n shown answer walk ⊎ Errs s input n shown
