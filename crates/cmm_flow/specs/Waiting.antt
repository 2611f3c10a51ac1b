-- At which sites the nodes of a graph wait, beside the sites that the statements of a procedure have.
use Rattle.std.specs.List.{filter}
use Rattle.std.specs.Prelude.{◌≡◌, ℕ, ◌==◌, ◌&&◌, ◌≤◌, not, Bool, true, IsTrue, List, [], ◌∷◌, flat_map, length, Some, None}
use Rattle.cmm_program.specs.declared.procedure.Proc.{Proc}
use Rattle.cmm_program.specs.Liveness.{is_among}
use Rattle.cmm_program.specs.Numbering.{body_numbers, site_number}
use Rattle.cmm_graph.specs.declared.graph.Graph.{Graph}
use Rattle.cmm_graph.specs.declared.node.Node.{Node}
use Rattle.cmm_graph.specs.declared.node.NodeKind.{NodeKind}
use Rattle.cmm_graph.specs.declared.number.NodeId.{NodeId}
use Rattle.cmm_graph.specs.Paths.{node_of}
use Rattle.cmm_live.specs.Sites.{site_of}

-- the site at which a node waits, if it does
abbrev pub waiting_at : NodeKind → List ℕ
waiting_at kind = elim (site_of kind) [ Some site ↦ site.number ∷ [] | None ↦ [] ]

-- the sites at which nodes wait
abbrev pub waiting_sites : List Node → List ℕ
waiting_sites nodes = flat_map (λ node. waiting_at node.kind) nodes

abbrev pub all_different : List ℕ → Bool
all_different [] = true
all_different (n ∷ ns) = not (is_among n ns) && all_different ns

-- no two nodes wait at one site
abbrev pub WaitOnce : Graph → Type 0
WaitOnce g = IsTrue (all_different (waiting_sites g.nodes))

-- how often a number stands in a list
abbrev pub times : ℕ → List ℕ → ℕ
times n ns = length (filter (λ m. m == n) ns)

-- no more nodes wait at a site than statements of the procedure have its number
abbrev pub WaitAtSites : Proc → Graph → Type 0
WaitAtSites q g = (site : ℕ) → times site (waiting_sites g.nodes) ≤ times site (body_numbers site_number q)

-- some node waits at a site
pub record IsWaitedAt (g : Graph) (site : ℕ) : Type 0 where
  pub at : NodeId
  pub node : Node
  pub is_there : node_of g at ≡ Some node
  pub waits : site_of node.kind ≡ Some record { number = site }
