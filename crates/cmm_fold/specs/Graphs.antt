-- What folding does to a graph.
use Rattle.std.specs.Prelude.{◌≡◌, ◌⊎◌}
use Rattle.std.specs.List.{All, AllZip}
use Rattle.cmm_graph.specs.declared.graph.Graph.{Graph}
use Rattle.cmm_graph.specs.declared.node.Node.{Node}
use Rattle.cmm_graph.specs.declared.node.NodeKind.{NodeKind}
use Rattle.cmm_graph.specs.declared.node.NodeKind.TheVariants.{Assign}
use Rattle.cmm_graph.specs.declared.number.NodeId.{NodeId}
use Rattle.cmm_graph.specs.declared.operand.Destination.{Destination}
use Rattle.cmm_graph.specs.declared.operand.Rvalue.{Rvalue}
use Rattle.cmm_fold.specs.Folding.{IsIrreducible, StandsFor}

-- an assignment computes its value otherwise
pub record AssignsOtherwise (old new : NodeKind) : Type 0 where
  pub to : Destination
  pub value : Rvalue
  pub folded : Rvalue
  pub next : NodeId
  pub was : old ≡ Assign to value next
  pub is : new ≡ Assign to folded next
  pub stands : StandsFor value folded

-- a node is what it was, but that an assignment may compute its value otherwise
abbrev pub KindStandsFor : NodeKind → NodeKind → Type 0
KindStandsFor old new = (new ≡ old) ⊎ AssignsOtherwise old new

pub record NodeStandsFor (old new : Node) : Type 0 where
  pub tokens : new.tokens ≡ old.tokens
  pub kind : KindStandsFor old.kind new.kind

pub record GraphStandsFor (old new : Graph) : Type 0 where
  pub variables : new.variables ≡ old.variables
  pub temporaries : new.temporaries ≡ old.temporaries
  pub first : new.first ≡ old.first
  pub continuations : new.continuations ≡ old.continuations
  pub nodes : AllZip NodeStandsFor old.nodes new.nodes

abbrev pub KindIsIrreducible : NodeKind → Type 0
KindIsIrreducible (Assign to value next) = IsIrreducible value
KindIsIrreducible kind = Unit {0}

-- no node has an operator that folding takes away
abbrev pub IsFolded : Graph → Type 0
IsFolded g = All (λ node. KindIsIrreducible node.kind) g.nodes
