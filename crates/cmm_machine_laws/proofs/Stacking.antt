-- The stack of a state: each step of any control keeps it.
use Rattle.cmm_machine_laws.proofs.Growing.{step_leads}
use Rattle.cmm_machine_laws.proofs.Steps.{kept_by_steps, start_keeps}
use Rattle.cmm_machine_laws.specs.Stacks.{IsStack, stack_of, stackdata_of}
use Rattle.cmm_program.specs.Control.{Control}
use Rattle.cmm_program.specs.Machine.{start_of, steps_of}
use Rattle.cmm_program.specs.State.{Activation, Setting}
use Rattle.std.proofs.Common.{arith, List, [], ap, length, refl, suc, ℕ, ◌∷◌, ◌≡◌}
use Rattle.std.proofs.lemmas.List.{length-map}

module _ {C : Type 0} (k : Control C) (s : Setting) where
  -- each state of a run has its stack
  pub steps_stack : (input : List ℕ) (m : ℕ) → IsStack s (stack_of (steps_of k s m (start_of k s input)).store)
  steps_stack input m = kept_by_steps k s (λ st. IsStack s (stack_of st.store)) (λ st. (step_leads k s st).1.1) m (start_of k s input)
      ((start_keeps k s input).1.1 (grind (arith, length-map)))

-- one room for each frame
pub length_stackdata : (s : Setting) (fs : List Activation) → length (stackdata_of s fs) ≡ length fs
length_stackdata s [] = refl
length_stackdata s (f ∷ fs) = ap suc (length_stackdata s fs)
