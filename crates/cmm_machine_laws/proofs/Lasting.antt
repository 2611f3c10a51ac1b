-- The machine of any control lasts: what is seen of it only grows, and a run that is over or wrong stays so. It begins right.
use Rattle.std.proofs.Common.{◌≡◌, ℕ, List, [], arith, refl}
use Rattle.std.specs.Prelude.{false, Option, Some, None}
use Rattle.cmm_program.specs.Control.{Control, State, arrived, over}
use Rattle.cmm_program.specs.Exits.{Instead, Landing, land}
use Rattle.cmm_program.specs.Machine.{first_store, start_of}
use Rattle.cmm_program.specs.State.{Setting, Store, Running, Ended, StackLimit}
use Rattle.cmm_simulation.specs.Machine.{Lasts}
use Rattle.cmm_machine_laws.specs.Observed.{machine_of}
use Rattle.cmm_machine_laws.proofs.Growing.{step_shows}

-- the machine of any control lasts
pub machine_lasts : {C : Type 0} (k : Control C) (s : Setting) → Lasts (machine_of k s)
machine_lasts k s = grind (arith, step_shows k s)

-- and has not gone wrong where it begins
pub starts_right : {C : Type 0} (k : Control C) (s : Setting) (input : List ℕ) → (machine_of k s).wrong (start_of k s input) ≡ false
starts_right {C = C} k s input = by (land s (Instead s.program.main []) (first_store s input))
  where
    by : (o : Option Store) →
        (machine_of k s).wrong
        (elim o as (λ _. State C) [
          | Some after ↦ record { store = over Running after; controls = arrived k (Instead s.program.main []) [] }
          | None ↦ record { store = over (Ended StackLimit) (first_store s input); controls = [] }
        ]) ≡ false
    by (Some after) = refl
    by None = refl
