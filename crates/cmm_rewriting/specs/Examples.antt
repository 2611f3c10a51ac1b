-- Two controls beside one that is given: one makes a quiet step before each step, and one where it enters a procedure.
use Rattle.std.specs.Prelude.{◌≡◌, ℕ, Bool, true, false, List}
use Rattle.cmm_machine_laws.specs.Observed.{machine_of}
use Rattle.cmm_program.specs.Acts.{Nothing}
use Rattle.cmm_program.specs.Control.{Control}
use Rattle.cmm_program.specs.Machine.{start, start_of}
use Rattle.cmm_program.specs.State.{Setting}
use Rattle.cmm_program.specs.Todo.{todo_control}
use Rattle.cmm_simulation.specs.Following.{Follows}
use Rattle.cmm_simulation.specs.Simulation.{SimulatesLazily}
use Rattle.cmm_simulation.specs.Ticking.{ticks_left}
use Rattle.cmm_rewriting.specs.States.{TogetherAt}

-- places come with whether their step is next; where it isn't, nothing is done first
module _ {C : Type 0} (m : Control C) where
  -- before each step
  abbrev pub ticked : Control (C × Bool)
  ticked = record {
    act = λ u. elim u.1 [ true ↦ m.act u.0 | false ↦ Nothing ];
    on = λ way u. elim u.1 [ true ↦ (m.on way u.0, false) | false ↦ (u.0, true) ];
    later = λ u. (m.later u.0, false);
    back = λ u. (m.back u.0, false);
    resume = λ n u. (m.resume n u.0, false);
    begin = λ n. (m.begin n, false);
  }

  -- where an activation begins
  abbrev pub entering : Control (C × Bool)
  entering = record {
    act = λ u. elim u.1 [ true ↦ m.act u.0 | false ↦ Nothing ];
    on = λ way u. elim u.1 [ true ↦ (m.on way u.0, true) | false ↦ (u.0, true) ];
    later = λ u. (m.later u.0, true);
    back = λ u. (m.back u.0, true);
    resume = λ n u. (m.resume n u.0, true);
    begin = λ n. (m.begin n, false);
  }

-- the C-- machine passes over the quiet steps of one that makes one before each of its own
abbrev pub TicksArePassedOver : Type 0
TicksArePassedOver = (s : Setting) →
    SimulatesLazily (machine_of (ticked (todo_control s.program)) s) (λ _. 1) (machine_of (todo_control s.program) s) (λ _. 1) 2
    (TogetherAt (λ store u d. d ≡ u.0) (λ u d. d ≡ u.0) (λ st. Unit {0}) (λ u. ticks_left u.1))

-- one that makes one where it enters a procedure follows the C-- machine at three steps for one: its own, a quiet one behind it, and that of `main`
abbrev pub EntriesFollow : Type 0
EntriesFollow = (s : Setting) (input : List ℕ) →
    Follows (machine_of (todo_control s.program) s) (λ _. 3) (machine_of (entering (todo_control s.program)) s) (λ _. 1) (start s input)
    (start_of (entering (todo_control s.program)) s input)
