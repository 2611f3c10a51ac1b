-- When a graph is the flow of a procedure: its nodes are the code of the body, and of what follows each label and each
-- continuation.
use Rattle.std.specs.Prelude.{◌≡◌, ℕ, ◌+◌, ◌*◌, ◌<◌, ◌≤◌, nat_le, nat_lt, IsTrue, List, length, map, sum_by, Some}
use Rattle.std.specs.List.{All, list_all, range_with_len}
use Rattle.cmm_program.specs.declared.procedure.Proc.{Proc}
use Rattle.cmm_program.specs.declared.procedure.Target.{Target}
use Rattle.cmm_program.specs.Bodies.{AtLabel, AtContinuation, body_statements, follow}
use Rattle.cmm_program.specs.declared.program.Program.{Program}
use Rattle.cmm_program.specs.Errors.{with_some}
use Rattle.cmm_program.specs.InRange.{IsProcInRange}
use Rattle.cmm_graph.specs.declared.number.NodeId.{NodeId}
use Rattle.cmm_graph.specs.declared.number.Variable.{Variable}
use Rattle.cmm_graph.specs.declared.node.Node.{Node}
use Rattle.cmm_graph.specs.declared.node.NodeKind.TheVariants.{Entry, CopyIn, Goto}
use Rattle.cmm_graph.specs.declared.graph.Graph.{Graph}
use Rattle.cmm_graph.specs.Covering.{covers}
use Rattle.cmm_graph.specs.Counterpart.{HasSite, formals_of, names_there, parameter_targets, taken_at}
use Rattle.cmm_graph.specs.Paths.{landing_of, node_of}
use Rattle.cmm_graph.specs.Ranges.{is_node}
use Rattle.cmm_flow.specs.Code.{IsNode}
use Rattle.cmm_flow.specs.Few.{PassFew, YieldThere}
use Rattle.cmm_flow.specs.Statements.{ListCode}
use Rattle.cmm_flow.specs.Waiting.{WaitAtSites}

-- a procedure's Entry, of as many tokens as the procedure, leads to the code of its body
pub record IsBegun (q : Proc) (g : Graph) (label_node : ℕ → NodeId) : Type 0 where
  pub formals : List Variable
  pub next : NodeId
  pub node : IsNode g.nodes g.first q.tokens (Entry formals next)
  pub code : ListCode q g.nodes label_node q.body next

-- the node to which a `goto` goes leads to the code of what follows the label
pub record IsBehindLabel (q : Proc) (g : Graph) (label_node : ℕ → NodeId) (l : ℕ) : Type 0 where
  pub next : NodeId
  pub node : IsNode g.nodes (label_node l) 1 (Goto next)
  pub code : ListCode q g.nodes label_node (follow q (AtLabel l)) next

-- the CopyIn of a continuation leads to the code of what follows its beginning
pub record IsLandedAt (q : Proc) (g : Graph) (label_node : ℕ → NodeId) (k : ℕ) : Type 0 where
  pub at : NodeId
  pub tokens : ℕ
  pub to : List Target
  pub next : NodeId
  pub landing : landing_of g record { number = k } ≡ Some at
  pub node : IsNode g.nodes at tokens (CopyIn to next)
  pub code : ListCode q g.nodes label_node (follow q (AtContinuation k)) next

pub record IsFlowOf (q : Proc) (g : Graph) : Type 0 where
  -- the node to which a `goto` to each label goes
  pub label_node : ℕ → NodeId
  pub begun : IsBegun q g label_node
  pub labels : (l : ℕ) → IsBehindLabel q g label_node l
  pub continuations : (k : ℕ) → k < length q.conts → IsLandedAt q g label_node k

-- no node has more tokens than the procedure
abbrev pub HasTokens : Proc → Graph → Type 0
HasTokens q g = IsTrue (list_all (λ node. nat_le node.tokens q.tokens) g.nodes)

-- n tokens are as many as those of any word in memory, and of the CopyIn of each site, which has one, and one for each result
pub record CoversSites (q : Proc) (most : ℕ) : Type 0 where
  pub accesses : 3 ≤ most
  pub results : IsTrue (list_all (λ site. nat_lt (length site.results) most) q.sites)

-- A procedure has tokens for each of its parts: no statement has more, and no CopyIn of a site or of a continuation.
pub record CoversParts (q : Proc) : Type 0 where
  pub sites : CoversSites q q.tokens
  pub statements : IsTrue (list_all (λ s. nat_le s.tokens q.tokens) (body_statements q))
  pub parameters : IsTrue (list_all (λ c. nat_lt (length c.params) q.tokens) q.conts)

-- variables, temporaries and continuations have at most 8 bytes of a frame for each token of the procedure: a pair for a continuation
abbrev pub IsBounded : Proc → Graph → Type 0
IsBounded q g = 8 * (g.variables + g.temporaries) + 16 * length g.continuations ≤ 8 * q.tokens

-- the tokens of some nodes together
abbrev pub all_tokens : List Node → ℕ
all_tokens nodes = sum_by (λ node. node.tokens) nodes

-- All nodes have at most twice the tokens of the procedure and two more: its Entry has as many, the Stop and the node of labels that the body lacks
-- have one each, and all others have those of statements.
abbrev pub IsShort : Proc → Graph → Type 0
IsShort q g = all_tokens g.nodes ≤ 2 * q.tokens + 2

-- each node has tokens enough for what it brings, moves and tests
abbrev pub AreCovered : Proc → Graph → Type 0
AreCovered q g = IsTrue (list_all (covers q.tokens) g.nodes)

-- What `flow` answers: the flow of the procedure, where no node has more tokens than the procedure if that has tokens for its
-- parts. The graph has the variables of the procedure, its Entry takes the arguments to the formals, and the CopyIn of each
-- continuation takes the parameters. No more nodes wait at a site than statements have its number. Of a procedure in range its nodes name what is
-- there, its frame is bounded, it is short, they yield as many values as their sites say, and where those nodes that wait have the exits of their sites all are in range, pass
-- few values, and have tokens enough for what they do.
pub record IsFlow (q : Proc) (g : Graph) : Type 0 where
  pub flow : IsFlowOf q g
  pub tokens : CoversParts q → HasTokens q g
  pub variables : g.variables ≡ length q.vars
  pub formals : with_some (node_of g g.first) (λ node. formals_of node.kind) ≡ Some (range_with_len 0 q.formals)
  pub continuations : map (taken_at g) g.continuations ≡ map (λ c. Some (parameter_targets q c)) q.conts
  pub waits : WaitAtSites q g
  pub names : (p : Program) → IsProcInRange p q → IsTrue (list_all (λ node. names_there p q node.kind) g.nodes)
  pub nodes : (p : Program) → IsProcInRange p q → All (λ node. HasSite q g node.kind) g.nodes → IsTrue (list_all (is_node g) g.nodes)
  pub bounded : (p : Program) → IsProcInRange p q → IsBounded q g
  pub short : (p : Program) → IsProcInRange p q → IsShort q g
  pub few : (p : Program) → IsProcInRange p q → All (λ node. HasSite q g node.kind) g.nodes → PassFew g
  pub yields : (p : Program) → IsProcInRange p q → YieldThere q g
  pub covered : (p : Program) → IsProcInRange p q → All (λ node. HasSite q g node.kind) g.nodes → AreCovered q g
