-- What the layers above use of the paths of a graph, and of runs over graphs.
use Rattle.std.specs.Prelude.{◌≡◌, ◌⊎◌, ℕ, Bool, true, false, IsTrue, All, Contains, List, [], ◌∷◌, flat_map, slice_index_or, Some}
use Rattle.cmm_program.specs.Acts.{evaluated}
use Rattle.cmm_program.specs.Control.{State}
use Rattle.cmm_program.specs.State.{Activation, Running, Setting, Store}
use Rattle.cmm_program.specs.Values.{Reads, Value}
use Rattle.cmm_program.specs.Writes.{variables_of}
use Rattle.cmm_graph.specs.declared.number.NodeId.{NodeId}
use Rattle.cmm_graph.specs.declared.number.Temporary.{Temporary}
use Rattle.cmm_graph.specs.declared.operand.Local.{Local}
use Rattle.cmm_graph.specs.declared.operand.Local.TheVariants as local
use Rattle.cmm_graph.specs.declared.operand.Rvalue.{Rvalue}
use Rattle.cmm_graph.specs.declared.node.Node.{Node}
use Rattle.cmm_graph.specs.declared.node.NodeKind.{NodeKind}
use Rattle.cmm_graph.specs.declared.node.NodeKind.TheVariants.{Assign}
use Rattle.cmm_graph.specs.declared.graph.Graph.{Graph}
use Rattle.cmm_graph.specs.Paths.{node_of, operands_of_rvalue, read_by, reads, writes}
use Rattle.cmm_graph.specs.Liveness.{IsLiveBefore, IsLiveAfter}
use Rattle.cmm_graph.specs.Ranges.{IsValid, is_step}
use Rattle.cmm_graph.specs.Values.{rvalue_value}
use Rattle.cmm_graph.specs.Acting.{Keeping, act_of, led}
use Rattle.cmm_graph.specs.GraphControl.{Position, kind_here}
use Rattle.cmm_graph.specs.GraphMachine.{graph_state_after, graph_step}

-- what a node reads is live before it
abbrev pub ReadIsLive : Type 0
ReadIsLive = (g : Graph) (n : NodeId) (node : Node) (l : Local) → node_of g n ≡ Some node → Contains (reads node.kind) l →
    IsLiveBefore g l n

-- what is live after a node that does not write it is live before the node
abbrev pub UnwrittenStaysLive : Type 0
UnwrittenStaysLive = (g : Graph) (n : NodeId) (node : Node) (l : Local) → node_of g n ≡ Some node →
    IsLiveAfter g l node → ¬ Contains (writes node.kind) l → IsLiveBefore g l n

-- and nothing else is live before it
abbrev pub NothingElseIsLive : Type 0
NothingElseIsLive = (g : Graph) (n : NodeId) (node : Node) (l : Local) → node_of g n ≡ Some node → IsLiveBefore g l n →
    Contains (reads node.kind) l ⊎ IsLiveAfter g l node × (¬ Contains (writes node.kind) l)

-- where the graphs of a program are in range, no activation of a run stands at an Entry or a CopyIn
abbrev pub RunsStandAtSteps : Type 0
RunsStandAtSteps = (graphs : List Graph) (s : Setting) (input : List ℕ) (m : ℕ) → All IsValid graphs →
    All (λ c. IsTrue (is_step (kind_here graphs c))) (graph_state_after graphs s input m).controls

-- ---- reads and writes are those of the machine

-- two ways of keeping locals hold the same in these, where only the variables of the store differ
abbrev pub HoldAlike : (Local → Value) → (Local → Value) → Reads → (ℕ → ℕ) → List Local → Type 0
HoldAlike held other r variables locals =
    (l : Local) → Contains locals l → held l r ≡ other l (record r { variable = variables })

-- a right side has the same value where what it reads is held alike
abbrev pub ValueIsByReads : Type 0
ValueIsByReads = (held other : Local → Value) (r : Reads) (variables : ℕ → ℕ) (value : Rvalue) →
    HoldAlike held other r variables (flat_map read_by (operands_of_rvalue value)) →
    rvalue_value held value r ≡ rvalue_value other value (record r { variable = variables })

abbrev pub is_assignment : NodeKind → Bool
is_assignment (Assign to value next) = true
is_assignment _ = false

-- a node that is no assignment asks for the same order where what it reads is held alike
abbrev pub OrderIsByReads : Type 0
OrderIsByReads = (k l : Keeping) (r : Reads) (variables : ℕ → ℕ) (kind : NodeKind) → HoldAlike k.held l.held r variables (reads kind) →
    is_assignment kind ≡ false → evaluated r (act_of k kind) ≡ evaluated (record r { variable = variables }) (act_of l kind)

-- what a local holds: a variable of the youngest of these activations, or one of these temporaries
abbrev pub held_among : List Activation → (Temporary → ℕ) → Local → ℕ
held_among activations temporaries (local.Variable v) = slice_index_or (variables_of activations) v.number 0
held_among activations temporaries (local.Temporary t) = temporaries t

-- what a local of the youngest activation holds in a state
abbrev pub held_in : State Position → Local → ℕ
held_in st l = elim st.controls [ [] ↦ 0 | c ∷ _ ↦ held_among st.store.activations c.temporaries l ]

-- a step at a node that leads on leaves what each local holds that the node does not write
abbrev pub UnwrittenKeepsValue : Type 0
UnwrittenKeepsValue = (graphs : List Graph) (s : Setting) (store : Store) (c : Position) (cs : List Position) (l : Local) (n : NodeId) →
    store.status ≡ Running → led 0 (kind_here graphs c) ≡ Some n → ¬ Contains (writes (kind_here graphs c)) l →
    let st : State Position = record { store = store; controls = c ∷ cs } in held_in (graph_step graphs s st) l ≡ held_in st l
