-- What a builder lays: nodes behind those that it has, which are the code of something wherever those of labels and
-- continuations, which stand in front of all, lead.
use Rattle.std.specs.Prelude.{◌≡◌, ℕ, ◌+◌, ◌++◌, ◌≤◌, ◌&&◌, Bool, true, false, IsTrue, List, [], ◌∷◌, length, min, slice_get, Some}
use Rattle.std.specs.List.{list_all}
use Rattle.cmm_program.specs.declared.statement.Form.{Form}
use Rattle.cmm_program.specs.Bodies.{Mark, AtContinuation, AtLabel, is_mark}
use Rattle.cmm_graph.specs.declared.graph.Graph.{Graph}
use Rattle.cmm_graph.specs.declared.node.Node.{Node}
use Rattle.cmm_graph.specs.declared.node.NodeKind.{NodeKind}
use Rattle.cmm_graph.specs.declared.node.NodeKind.TheVariants.{Entry, CopyIn, Assign, Store, Branch, Switch, Call, Yield, Host, Goto, Stop}
use Rattle.cmm_graph.specs.declared.number.NodeId.{NodeId}
use Rattle.cmm_graph.specs.Paths.{arm_nodes, if_there}
use Rattle.cmm_graph.specs.Ranges.{is_copy_in, is_step, leads_to}
use Rattle.cmm_flow.specs.declared.builder.Builder.{Builder}
use Rattle.cmm_flow.specs.Flow.{all_tokens}
use Rattle.cmm_flow.specs.Waiting.{times, waiting_at, waiting_sites}
use Rattle.cmm_flow.specs.inside.Nodes.{unled}

-- behind any nodes in front, as many as there are to be
abbrev pub OnFronts : Builder → (List Node → Type 0) → Type 0
OnFronts b P = (front : List Node) → length front ≡ b.stop.number → P (front ++ b.nodes)

-- more nodes behind those that there were
pub record Extends (a b : Builder) : Type 0 where
  pub more : List Node
  pub nodes : b.nodes ≡ a.nodes ++ more
  pub stop : b.stop ≡ a.stop

-- ---- where nodes lead

-- the nodes to which control goes on from a node of this kind in its procedure
abbrev pub steps_of : NodeKind → List NodeId
steps_of (Entry formals next) = next ∷ []
steps_of (CopyIn to next) = next ∷ []
steps_of (Assign to value next) = next ∷ []
steps_of (Store width aligned address value next) = next ∷ []
steps_of (Branch test then_ otherwise) = then_ ∷ otherwise ∷ []
steps_of (Switch value arms otherwise) = arm_nodes arms ++ otherwise ∷ []
steps_of (Host call next) = next ∷ []
steps_of (Goto next) = next ∷ []
steps_of _ = []

-- the CopyIn of a normal exit
abbrev pub normal_of : NodeKind → List NodeId
normal_of (Call site callee arguments exits) = if_there exits.normal
normal_of (Yield site values exits) = if_there exits.normal
normal_of _ = []

-- a run may stand at each of some nodes
abbrev pub AreSteps : Graph → List NodeId → Type 0
AreSteps g ns = IsTrue (list_all (leads_to g is_step) ns)

abbrev pub AreCopyIns : Graph → List NodeId → Type 0
AreCopyIns g ns = IsTrue (list_all (leads_to g is_copy_in) ns)

-- a node leads to nodes where a run may stand, and by a normal exit to a CopyIn
abbrev pub leads_on : Graph → NodeKind → Bool
leads_on g kind = list_all (leads_to g is_step) (steps_of kind) && list_all (leads_to g is_copy_in) (normal_of kind)

-- ---- what is required of nodes

-- a test of nodes, wherever they lead, and the graph in which they lead on
pub record Asked : Type 0 where
  pub test : Node → Bool
  pub graph : Graph

abbrev pub passes : Asked → Node → Bool
passes x node = x.test (unled node) && leads_on x.graph node.kind

abbrev pub AreAsked : Asked → List Node → Type 0
AreAsked x nodes = IsTrue (list_all (passes x) nodes)

-- a builder's nodes stand in a graph, with nodes in front of them and behind them
pub record StandIn (b : Builder) (g : Graph) : Type 0 where
  pub front : List Node
  pub later : List Node
  pub many : length front ≡ b.stop.number
  pub nodes : g.nodes ≡ (front ++ b.nodes) ++ later

-- what is required of a builder's nodes holds of those of another, where something holds of what is asked
abbrev pub Keeps : (Asked → Type 0) → Builder → Builder → Type 0
Keeps If a b = (x : Asked) → StandIn b x.graph → If x → AreAsked x a.nodes → AreAsked x b.nodes

-- these nodes pass the test, a run may stand at some nodes, and others are CopyIns
pub record Holds (laid : List Node) (ahead normal : List NodeId) (x : Asked) : Type 0 where
  pub test : IsTrue (list_all x.test laid)
  pub steps : AreSteps x.graph ahead
  pub copy_ins : AreCopyIns x.graph normal

-- a builder's nodes wait where another's do, and at these sites at most
abbrev pub AddsSites : List ℕ → Builder → Builder → Type 0
AddsSites sites a b = (site : ℕ) → times site (waiting_sites b.nodes) ≤ times site (waiting_sites a.nodes) + times site sites

-- and have n tokens more at most
abbrev pub AddsTokens : ℕ → Builder → Builder → Type 0
AddsTokens most a b = all_tokens b.nodes ≤ all_tokens a.nodes + most

-- Nodes like these, wherever they lead, of which something holds, with labels and continuations left as they were. They lead to each other, to these
-- nodes where a run may stand, and by normal exits to these CopyIns, they wait at these sites at most, and have as many tokens at most.
pub record LaysAt (sites : List ℕ) (laid : List Node) (ahead normal : List NodeId) (a b : Builder) (P : List Node → Type 0) : Type 0 where
  pub extends : Extends a b
  pub labels : b.labels ≡ a.labels
  pub continuations : b.continuations ≡ a.continuations
  pub code : OnFronts b P
  pub keeps : Keeps (Holds laid ahead normal) a b
  pub waits : AddsSites sites a b
  pub adds : AddsTokens (all_tokens laid) a b

-- nodes that wait at no site
abbrev pub Lays : List Node → List NodeId → Builder → Builder → (List Node → Type 0) → Type 0
Lays laid ahead a b P = LaysAt [] laid ahead [] a b P

-- one node
abbrev pub LaysNode : Node → Builder → Builder → NodeId → Type 0
LaysNode node a b n =
    LaysAt (waiting_at node.kind) (unled node ∷ []) (steps_of node.kind) (normal_of node.kind) a b (λ nodes. slice_get nodes n.number ≡ Some node)

-- ---- statements with labels and continuations

-- the node of a label; labels have the first numbers, and those that a body lacks share the next one
abbrev pub label_of : ℕ → ℕ → NodeId
label_of count label = record { number = min label count }

-- a builder that has n labels, and begins with a Stop
pub record IsReady (count : ℕ) (b : Builder) : Type 0 where
  pub labels : length b.labels ≡ count
  pub stop : slice_get b.nodes 0 ≡ Some record { tokens = 1; kind = Stop }

-- of where each mark led before and leads now
pub record Moved (a b : Builder) (M : Mark → NodeId → NodeId → Type 0) : Type 0 where
  pub labels : (l : ℕ) (before after : NodeId) → slice_get a.labels l ≡ Some before → slice_get b.labels l ≡ Some after → M (AtLabel l) before after
  pub continuations : (k : ℕ) (before after : NodeId) → slice_get a.continuations k ≡ Some before → slice_get b.continuations k ≡ Some after →
      M (AtContinuation k) before after

-- nodes of which something holds, with what holds of where marks lead
pub record LaysMarked (a b : Builder) (P : List Node → Type 0) (M : List Node → Mark → NodeId → NodeId → Type 0) : Type 0 where
  pub extends : Extends a b
  pub labels : length b.labels ≡ length a.labels
  pub continuations : length b.continuations ≡ length a.continuations
  pub code : OnFronts b P
  pub marks : OnFronts b (λ nodes. Moved a b (M nodes))

-- a mark that is set to a node, with all others left
abbrev pub SetsMark : Form → NodeId → Mark → NodeId → NodeId → Type 0
SetsMark form to mark before after = elim (is_mark mark form) [ true ↦ after ≡ to | false ↦ after ≡ before ]
