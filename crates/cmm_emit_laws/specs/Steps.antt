-- What the code of one node does, whatever runs before and behind it.
use Rattle.std.specs.Prelude.{◌≡◌, ℕ, ◌*◌, false, true, List, ◌∷◌}
use Rattle.rv_table.specs.Machine.{State, Asks, instruction_step}
use Rattle.rv_table.specs.declared.request.Request.TheVariants.{End}
use Rattle.rv_asm.specs.Reaching.{Reaches}
use Rattle.cmm_program.specs.State.{Done, Ended, Setting}
use Rattle.cmm_graph.specs.declared.node.NodeKind.TheVariants.{Return}
use Rattle.cmm_graph.specs.declared.operand.Argument.{Argument}
use Rattle.cmm_image_machine.specs.Machine.{Launch, map_of}
use Rattle.cmm_located.specs.Compiled.{Compiled, Located}
use Rattle.cmm_located.specs.LocatedMachine.{located_machine, located_step}
use Rattle.cmm_emit_laws.specs.Finished.{Finished}
use Rattle.cmm_emit_laws.specs.Laws.{most_for_step}
use Rattle.cmm_emit_laws.specs.NodeCode.{IsCodeOf}
use Rattle.cmm_emit_laws.specs.ProgramCode.{IsCodeAround, is_coded}
use Rattle.cmm_emit_laws.specs.Represented.{IsRepresented}
use Rattle.cmm_emit_laws.specs.Serving.{IsDoneBy}
use Rattle.cmm_emit_laws.specs.Standing.{IsOfRun, Stands, outside_at}

-- the code of the node at which control stands
abbrev pub HasItsCode : (s : Setting) (c : Compiled) (l : Launch) (f : Finished) (rest : ℕ → ℕ) (at : Located) (t : State) → Stands s c l f rest at t → Type 0
HasItsCode s c l f rest at t stands = IsCodeOf s c l f at.procedure at.node stands.node.kind (32 * stands.node.tokens)

-- At a node that does not yield, code does the step, unless it is wrong, and keeps what every state of a run has.
abbrev pub StepsAreDoneByCode : Type 0
StepsAreDoneByCode = (s : Setting) (c : Compiled) (l : Launch) (f : Finished) (rest : ℕ → ℕ) (at : Located) (t : State) → IsCodeAround s c l f → (stands : Stands s c l f rest at t) →
    HasItsCode s c l f rest at t stands → is_coded stands.node.kind ≡ true → IsOfRun s c at → (located_machine s c).wrong (located_step s c at) ≡ false →
    IsDoneBy (located_machine s c) l outside_at (Stands s c l f rest) (IsOfRun s c) at (most_for_step s c at) t × IsOfRun s c (located_step s c at)

-- a state represents what is left of the program where its run has ended, with its value as the first of those that travel, and the rest of memory
abbrev pub RepresentsLeft : Setting → Finished → (ℕ → ℕ) → Located → ℕ → State → Type 0
RepresentsLeft s f rest after value u = (values : List ℕ) × IsRepresented f.symbols rest s after.holdings after.store (value ∷ values) u

-- Within n instructions code comes to the return address of the oldest activation, and to the ECALL behind it, which asks for the end with that value. Both
-- states represent what is left, so from the one to the other nothing is changed of it.
pub record ComesToEnd (s : Setting) (l : Launch) (f : Finished) (rest : ℕ → ℕ) (most value : ℕ) (t : State) (after : Located) : Type 0 where
  pub returns : Reaches (map_of l) 0 most t (λ u. (u.pc ≡ f.symbols.last_return) × RepresentsLeft s f rest after value u)
  pub asks : Reaches (map_of l) 0 most t (λ u. (instruction_step (map_of l) u ≡ Asks (End value)) × RepresentsLeft s f rest after value u)

-- a return that ends the run comes so to its end
abbrev pub EndsAreRepresented : Type 0
EndsAreRepresented = (s : Setting) (c : Compiled) (l : Launch) (f : Finished) (rest : ℕ → ℕ) (at : Located) (t : State) → IsCodeAround s c l f → (stands : Stands s c l f rest at t) →
    HasItsCode s c l f rest at t stands → (exit alternates : ℕ) (results : List Argument) → stands.node.kind ≡ Return exit alternates results →
    (value : ℕ) → (located_step s c at).store.status ≡ Ended (Done value) →
    ComesToEnd s l f rest (most_for_step s c at) value t (located_step s c at)
