-- A variable is live in the graph of a procedure just where it is live in the procedure (Ramsey and Peyton Jones, PLDI 2000, flow edges): before the
-- code of statements where some path from these reads it before it is written, and behind the node of a call site where it is live at the site.
use Rattle.std.specs.Prelude.{◌≡◌, ℕ, ◌<◌, ◌↔◌, ◌&&◌, true, IsTrue, IsFalse, Contains, List, length, map, slice_get, Some}
use Rattle.std.specs.List.{All, list_all}
use Rattle.cmm_program.specs.declared.procedure.Proc.{Proc}
use Rattle.cmm_program.specs.declared.procedure.Site.{Site}
use Rattle.cmm_program.specs.declared.program.Program.{Program}
use Rattle.cmm_program.specs.declared.statement.Statement.{Statement}
use Rattle.cmm_program.specs.Bodies.{AtContinuation, follow}
use Rattle.cmm_program.specs.Frames.{parameters}
use Rattle.cmm_program.specs.InRange.{IsProcInRange, is_body_in, is_statement}
use Rattle.cmm_program.specs.Liveness.{is_among, is_live_at}
use Rattle.cmm_program.specs.LivePaths
use Rattle.cmm_program.specs.LivePaths.{IsReadFrom}
use Rattle.cmm_graph.specs.declared.graph.Graph.{Graph}
use Rattle.cmm_graph.specs.declared.node.Node.{Node}
use Rattle.cmm_graph.specs.declared.number.NodeId.{NodeId}
use Rattle.cmm_graph.specs.declared.number.SiteId.{SiteId}
use Rattle.cmm_graph.specs.declared.operand.Local.{Local}
use Rattle.cmm_graph.specs.declared.operand.Local.TheVariants as local
use Rattle.cmm_graph.specs.Counterpart.{HasSite, parameter_targets, taken_at}
use Rattle.cmm_graph.specs.Liveness.{IsLiveAfter, IsLiveBefore}
use Rattle.cmm_graph.specs.Paths.{node_of}
use Rattle.cmm_live.specs.declared.live_sets.LiveSets.{LiveSets}
use Rattle.cmm_live.specs.Exact.{AreLiveSets, is_at, is_on_cut}
use Rattle.cmm_live.specs.Sites as GraphSites
use Rattle.cmm_live.specs.Sites.{IsLiveAt, cut_nodes, site_of}
use Rattle.cmm_flow.specs.Flow.{IsFlow, IsFlowOf}
use Rattle.cmm_flow.specs.Statements.{ListCode}
use Rattle.cmm_flow.specs.Waiting.{WaitOnce}

-- a variable of the procedure in its graph
abbrev pub variable : ℕ → Local
variable v = local.Variable record { number = v }

-- A graph has the variables of a procedure, the CopyIn of each continuation takes its parameters, and each node that waits has the exits
-- of its site.
pub record HasLandingsOf (q : Proc) (g : Graph) : Type 0 where
  pub variables : g.variables ≡ length q.vars
  pub continuations : map (taken_at g) g.continuations ≡ map (λ c. Some (parameter_targets q c)) q.conts
  pub sites : All (λ node. HasSite q g node.kind) g.nodes

-- a graph of a procedure in range, which is the procedure's flow
pub record IsFlowInRange (p : Program) (q : Proc) (g : Graph) : Type 0 where
  pub range : IsProcInRange p q
  pub graph : HasLandingsOf q g
  pub flow : IsFlowOf q g

-- as is what `flow` answers for such a procedure
abbrev pub AnswersAreInRange : Type 0
AnswersAreInRange = (p : Program) (q : Proc) (g : Graph) → IsProcInRange p q → IsFlow q g → IsFlowInRange p q g

-- ---- where the code of statements begins

-- these statements are in range, and those inside them
abbrev pub AreInRange : Program → Proc → List Statement → Type 0
AreInRange p q rest = IsTrue (list_all (λ s. is_statement p q s && is_body_in p q s.form) rest)

-- some path from the statements reads a variable before it is written just where it is live before the node
abbrev pub CodeKeepsLiveness : Type 0
CodeKeepsLiveness = (p : Program) (q : Proc) (g : Graph) (flows : IsFlowInRange p q g) (rest : List Statement) (n : NodeId) (v : ℕ) →
    AreInRange p q rest → ListCode q g.nodes flows.flow.label_node rest n → IsReadFrom q v rest ↔ IsLiveBefore g (variable v) n

-- ---- at call sites

-- A variable is live on a cut exit of a site: it is read from where a continuation begins to which the site also cuts, and is no
-- parameter of that continuation.
pub record IsLiveOnCut (q : Proc) (site v : ℕ) : Type 0 where
  pub exits : Site
  pub is_site : slice_get q.sites site ≡ Some exits
  pub continuation : ℕ
  pub is_cut : Contains exits.cuts continuation
  pub unwritten : IsFalse (is_among v (parameters q continuation))
  pub is_read : IsReadFrom q v (follow q (AtContinuation continuation))

abbrev pub site_id : ℕ → SiteId
site_id site = record { number = site }

-- A node is that of a site: it waits there, and behind it, by any exit and by its cut exits, just those variables are live that are live at
-- the site.
pub record IsNodeOfSite (q : Proc) (g : Graph) (site : ℕ) (node : Node) : Type 0 where
  pub waits : site_of node.kind ≡ Some (site_id site)
  pub live : (v : ℕ) → LivePaths.IsLiveAt q site v ↔ IsLiveAfter g (variable v) node
  pub live_on_cut : (v : ℕ) → IsLiveOnCut q site v ↔ ((next : NodeId) × Contains (cut_nodes g node.kind) next × IsLiveBefore g (variable v) next)

pub record HasNode (q : Proc) (g : Graph) (site : ℕ) : Type 0 where
  pub at : NodeId
  pub node : Node
  pub is_there : node_of g at ≡ Some node
  pub is_its : IsNodeOfSite q g site node

-- each site of a procedure has its node
abbrev pub SitesHaveNodes : Type 0
SitesHaveNodes = (p : Program) (q : Proc) (g : Graph) → IsFlowInRange p q g → (site : ℕ) → site < length q.sites → HasNode q g site

-- what is live at a site, and on its cut exits, by the paths of the procedure and by those of the graph
pub record IsKeptAtSite (q : Proc) (g : Graph) (site v : ℕ) : Type 0 where
  pub live : LivePaths.IsLiveAt q site v ↔ IsLiveAt g (variable v) (site_id site)
  pub live_on_cut : IsLiveOnCut q site v ↔ GraphSites.IsLiveOnCut g (variable v) (site_id site)

abbrev pub SitesKeepLiveness : Type 0
SitesKeepLiveness = (p : Program) (q : Proc) (g : Graph) → IsFlowInRange p q g → WaitOnce g → (site v : ℕ) → site < length q.sites →
    IsKeptAtSite q g site v

-- The sets that are computed for a graph have just the variables of the procedure that are live at a site, and on its cut exits. So whether the
-- set of a site has a variable is what the test of liveness says.
pub record AreSetsAtSite (q : Proc) (g : Graph) (found : LiveSets) (site v : ℕ) : Type 0 where
  pub live : (is_at g found (site_id site) (variable v) ≡ true) ↔ LivePaths.IsLiveAt q site v
  pub live_on_cut : (is_on_cut g found (site_id site) (variable v) ≡ true) ↔ IsLiveOnCut q site v
  pub tested : is_at g found (site_id site) (variable v) ≡ is_live_at q site v

abbrev pub SetsAreOfProcedure : Type 0
SetsAreOfProcedure = (p : Program) (q : Proc) (g : Graph) (found : LiveSets) → IsFlowInRange p q g → WaitOnce g → AreLiveSets g found →
    (site v : ℕ) → site < length q.sites → v < length q.vars → AreSetsAtSite q g found site v
