-- Which states of the machine represent a state of the located machine, with where control is.
use Rattle.std.specs.Prelude.{◌≡◌, ◌≤◌, ℕ, List, [], ◌∷◌, length, map, Some}
use Rattle.std.specs.List.{All}
use Rattle.rv_table.specs.Bounds.{IsSound}
use Rattle.rv_table.specs.Machine.{State}
use Rattle.rv_table.specs.declared.trap.TrapKind.TheVariants.{Breakpoint}
use Rattle.cmm_program.specs.State as c
use Rattle.cmm_program.specs.State.{Activation, Setting}
use Rattle.cmm_program.specs.Memory.{IsByte}
use Rattle.cmm_machine_laws.specs.Observed.{store_seen}
use Rattle.cmm_graph.specs.declared.node.Node.{Node}
use Rattle.cmm_graph.specs.GraphControl.{in_graph}
use Rattle.cmm_graph.specs.Paths.{node_of}
use Rattle.cmm_graph.specs.declared.node.NodeKind.{NodeKind}
use Rattle.cmm_graph.specs.declared.node.NodeKind.TheVariants.{Entry, CopyIn}
use Rattle.cmm_image_machine.specs.Machine.{Launch, Status, Running, Ended, Trapped}
use Rattle.cmm_emit_laws.specs.Outside.{Outside}
use Rattle.cmm_emit_laws.specs.Represented.{IsRepresented}
use Rattle.cmm_located.specs.Compiled.{Compiled, Located, bare}
use Rattle.cmm_located.specs.LocatedMachine.{tokens_at}
use Rattle.cmm_emit_laws.specs.Finished.{Finished}

-- ---- what is outside of registers and memory

-- While the client is waited for, the image still runs. Of a wrong state nothing is required.
abbrev pub status_of : c.Status → Status
status_of c.Running = Running
status_of (c.Waiting values) = Running
status_of (c.Ended outcome) = Ended outcome
status_of (c.Wrong error) = Trapped Breakpoint 0

abbrev pub outside_at : Located → Outside
outside_at at = record {
  input = at.store.input;
  taken = at.store.taken;
  output = at.store.output;
  log = (store_seen at.store).log;
  status = status_of at.store.status;
}

-- ---- where control is

-- the activation that runs, above older ones
pub record IsYoungest (at : Located) : Type 0 where
  pub activation : Activation
  pub older : List Activation
  pub youngest : at.store.activations ≡ activation ∷ older
  pub same : activation.procedure ≡ at.procedure

-- control is inside of its body, and brings nothing
pub record IsInBody (at : Located) : Type 0 where
  pub activation : Activation
  pub older : List Activation
  pub youngest : at.store.activations ≡ activation ∷ older
  pub same : activation.procedure ≡ at.procedure
  pub carried : at.carried ≡ []

-- at an Entry its activation is still to come, and at a CopyIn control brings values
abbrev pub IsInside : NodeKind → Located → Type 0
IsInside (Entry formals next) at = Unit {0}
IsInside (CopyIn to next) at = IsYoungest at
IsInside _ at = IsInBody at

-- the activations have no values
abbrev pub AreBare : Located → Type 0
AreBare at = map bare at.store.activations ≡ at.store.activations

-- elsewhere, memory is the rest
module _ (s : Setting) (c' : Compiled) (l : Launch) (f : Finished) (rest : ℕ → ℕ) where
  pub record Stands (at : Located) (t : State) : Type 0 where
    pub running : at.store.status ≡ c.Running
    pub node : Node
    pub there : in_graph c'.graphs at.procedure (λ g. node_of g at.node) ≡ Some node
    pub inside : IsInside node.kind at
    pub shown : IsRepresented f.symbols rest s at.holdings at.store at.carried t
    pub pc : t.pc ≡ f.node_at at.procedure at.node
    pub sound : IsSound t

-- ---- the run

-- what every state of a run has, at a node
pub record IsOfRun (s : Setting) (c' : Compiled) (at : Located) : Type 0 where
  pub tokens : 1 ≤ tokens_at s c' at
  pub registers : length at.store.registers ≡ length s.program.globals
  pub bytes : All IsByte at.store.input
  pub are_bare : AreBare at
