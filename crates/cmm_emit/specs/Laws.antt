-- How many instructions the code of a node has for its tokens.
use Rattle.std.specs.Prelude.{◌≡◌, ℕ, ◌+◌, ◌*◌, ◌≤◌, IsTrue, List, length, slice_get, sum_by, Some}
use Rattle.std.specs.List.{list_all}
use Rattle.cmm_abi.specs.Registers.{callee_saves}
use Rattle.cmm_graph.specs.Covering.{covers}
use Rattle.cmm_graph.specs.Ranges.{is_node}
use Rattle.cmm_graph.specs.declared.graph.Graph.{Graph}
use Rattle.cmm_graph.specs.declared.node.Node.{Node}
use Rattle.cmm_graph.specs.declared.node.NodeKind.TheVariants.{Entry}
use Rattle.cmm_graph.specs.declared.number.NodeId.{NodeId}
use Rattle.cmm_graph.specs.declared.number.Variable.{Variable}
use Rattle.cmm_hoisted.specs.Flow.{entry_tokens}
use Rattle.cmm_emit.specs.declared.context.Context.{Context}
use Rattle.cmm_emit.specs.declared.context.Targets.{Targets}
use Rattle.cmm_emit.specs.Costs.{cost_of, total_cost}

-- The frame of a procedure whose Entry has n tokens is small: at most the callee-saves registers are saved, and what is made 0 and the two words of each
-- continuation's pair come to at most one for each token.
pub record IsSmallFor (p : Context) (whole : ℕ) : Type 0 where
  pub saved : length p.frame.saved ≤ length callee_saves
  pub words : length p.zeroed + 2 * length p.frame.pairs ≤ whole

-- the code of a node that has tokens enough, and what leads on behind it, are at most 32 instructions a token
abbrev pub NodesAreShort : Type 0
NodesAreShort =
    (p : Context) (y : Targets) (g : Graph) (whole : ℕ) (node : Node) → IsSmallFor p whole → IsTrue (is_node g node) → IsTrue (covers whole node) →
    cost_of p y node.kind ≤ 32 * node.tokens

-- A graph whose nodes have tokens enough, and together at most twice those of the procedure and two more. Its first node is the Entry.
pub record IsShortFor (g : Graph) (whole : ℕ) : Type 0 where
  pub nodes : IsTrue (list_all (is_node g) g.nodes)
  pub covered : IsTrue (list_all (covers (entry_tokens g)) g.nodes)
  pub tokens : sum_by (λ node. node.tokens) g.nodes ≤ 2 * whole + 2
  pub some : 5 ≤ entry_tokens g
  pub formals : List Variable
  pub next : NodeId
  pub entry : slice_get g.nodes g.first.number ≡ Some record { tokens = entry_tokens g; kind = Entry formals next }

-- the code of all its nodes, with one instruction behind it, is at most 64 instructions for each token of the procedure
abbrev pub GraphsAreShort : Type 0
GraphsAreShort =
    (p : Context) (y : Targets) (g : Graph) (whole : ℕ) → IsSmallFor p (entry_tokens g) → IsShortFor g whole → total_cost p y g.nodes + 1 ≤ 64 * whole
