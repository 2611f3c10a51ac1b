-- What the C-- machine is followed by is followed where events are tested, since all its events pass.
use Rattle.std.proofs.Common.{ℕ, zero, suc, List, refl}
use Rattle.std.specs.List.{All}
use Rattle.cmm_simulation.specs.Following.{Follows}
use Rattle.cmm_simulation.specs.Machine.{Machine, after}
use Rattle.cmm_program.specs.Control.{State}
use Rattle.cmm_program.specs.Machine.{start}
use Rattle.cmm_program.specs.State.{Setting}
use Rattle.cmm_program.specs.Todo.{Todo, todo_control}
use Rattle.cmm_machine_laws.specs.Fitting.{IsSetUp, IsSound, StatesAreSound}
use Rattle.cmm_program.specs.Memory.{IsByte}
use Rattle.cmm_machine_laws.specs.Observed.{Call, Ending, machine_of}
use Rattle.cmm_located.specs.LocatedMachine.{located_machine}
use Rattle.cmm_client_laws.specs.Fits.{event_fits}
use Rattle.cmm_client_laws.proofs.Shared.{sound_events_fit}
use Rattle.cmm_simulation.proofs.Testing.{follows_tested}
use Rattle.cmm_simulation.specs.Tested.{tested}
use Rattle.cmm_yield_laws.specs.Laws.{FittingRunsFollow}

module _ (are_sound : StatesAreSound) (s : Setting) (set : IsSetUp s) (input : List ℕ) (bytes : All IsByte input) where
  sound_after : (m : ℕ) → IsSound s (after (machine_of (todo_control s.program) s) m (start s input))
  sound_after zero = are_sound.first s set input bytes
  sound_after (suc m) = are_sound.next s set (after (machine_of (todo_control s.program) s) m (start s input)) (sound_after m)

  pub fits_follow : {T : Type 0} (a : State Todo → ℕ) (B : Machine T ℕ Call Ending) (b : T → ℕ) (t : T) → Follows (machine_of (todo_control s.program) s) a B b (start s input) t →
      Follows (machine_of (todo_control s.program) s) a (tested event_fits B) b (start s input) t
  fits_follow a B b t follows = follows_tested (machine_of (todo_control s.program) s) B event_fits refl a b 1 (start s input) t
      (λ m good e is. sound_events_fit s (after (machine_of (todo_control s.program) s) m (start s input)) (sound_after m) e is)
      follows

pub fitting_runs_follow : StatesAreSound → FittingRunsFollow
fitting_runs_follow are_sound s set c input bytes a b at follows = fits_follow are_sound s set input bytes a (located_machine s c) b at follows
