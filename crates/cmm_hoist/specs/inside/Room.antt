-- Which graphs have tokens to spare for constants.
use Rattle.std.specs.Prelude.{◌≡◌, ◌≢◌, ℕ, ◌+◌, ◌≤◌, ◌<◌, ◌^◌, List, length, slice_set, Some}
use Rattle.cmm_graph.specs.declared.number.NodeId.{NodeId}
use Rattle.cmm_graph.specs.declared.number.Variable.{Variable}
use Rattle.cmm_graph.specs.declared.node.Node.{Node}
use Rattle.cmm_graph.specs.declared.node.NodeKind.TheVariants.{Entry}
use Rattle.cmm_graph.specs.declared.graph.Graph.{Graph}
use Rattle.cmm_graph.specs.Paths.{node_of}
use Rattle.cmm_hoist.specs.Graphs.{frame_words}
use Rattle.cmm_hoist.specs.declared.hoisting.Beginning.{Beginning}
use Rattle.cmm_hoist.specs.declared.hoisting.TheConstants.{MOST_KEPT}

-- the Entry of a graph, as it is read
pub record IsBeginningOf (g : Graph) (b : Beginning) : Type 0 where
  pub variables : List Variable
  pub node : node_of g g.first ≡ Some record { tokens = b.tokens; kind = Entry variables b.next }
  pub formals : b.formals ≡ length variables

-- a graph with these tokens at its Entry, which has these formals and leads there
abbrev pub with_entry : Graph → ℕ → List Variable → NodeId → Graph
with_entry g tokens formals next = record g { nodes = slice_set g.nodes g.first.number record { tokens = tokens; kind = Entry formals next } }

-- a number of tokens is enough for an Entry with so many formals, if as many constants are kept as may be
pub record IsEnough (g : Graph) (count tokens : ℕ) : Type 0 where
  pub words : frame_words g + MOST_KEPT ≤ tokens
  pub formals : count + 3 ≤ tokens
  pub some : 5 ≤ tokens

-- no node but the first has more tokens
abbrev pub OthersHaveWithin : ℕ → Graph → Type 0
OthersHaveWithin most g = (n : ℕ) (node : Node) → node_of g (record { number = n }) ≡ Some node → n ≢ g.first.number → node.tokens ≤ most

-- A graph may be hoisted where no node is to have more tokens: so many are enough for its Entry, and the others have no more. The numbers of the nodes that are added
-- have 32 bits.
pub record MayBeHoisted (most : ℕ) (g : Graph) : Type 0 where
  pub beginning : Beginning
  pub begins : IsBeginningOf g beginning
  pub entry : IsEnough g beginning.formals most
  pub others : OthersHaveWithin most g
  pub nodes : length g.nodes + MOST_KEPT < 2 ^ 32
