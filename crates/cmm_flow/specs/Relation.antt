-- Which state of the machine over graphs is one of the C-- machine: the stores are the same, and each activation of the one
-- stands where the other has the same statements still to do.
use Rattle.std.specs.Prelude.{◌≡◌, ℕ, max, nat_le, ◌&&◌, Bool, IsTrue, All, List, [], ◌∷◌, slice_get, Some}
use Rattle.std.specs.List.{list_all}
use Rattle.cmm_program.specs.declared.procedure.Proc.{Proc}
use Rattle.cmm_program.specs.declared.program.Program.{Program}
use Rattle.cmm_program.specs.declared.statement.Statement.{Statement}
use Rattle.cmm_program.specs.Bodies.{body_statements, within}
use Rattle.cmm_program.specs.Control.{State}
use Rattle.cmm_program.specs.State.{Activation, Setting, Status, Running, Waiting, Ended, Wrong}
use Rattle.cmm_program.specs.Todo.{Todo}
use Rattle.cmm_program.specs.Tokens.{own_tokens}
use Rattle.cmm_machine_laws.specs.Fitting.{IsSound}
use Rattle.cmm_graph.specs.declared.graph.Graph.{Graph}
use Rattle.cmm_graph.specs.declared.node.Exits.{Exits}
use Rattle.cmm_graph.specs.declared.number.NodeId.{NodeId}
use Rattle.cmm_graph.specs.GraphControl.{Position, kind_here, normal_of}
use Rattle.cmm_flow.specs.Flow.{IsFlowOf}
use Rattle.cmm_flow.specs.Statements.{ListCode, ExitsCode}

-- ---- counts of tokens

-- a statement has the tokens of its shortest text, and no more than its procedure
abbrev pub is_counted : Proc → Statement → Bool
is_counted q statement = nat_le (own_tokens q statement.form) statement.tokens && nat_le statement.tokens q.tokens

-- a test holds of a statement and of those inside it
abbrev pub IsAll : (Statement → Bool) → Statement → Type 0
IsAll test statement = IsTrue (test statement) × IsTrue (list_all test (within statement.form))

abbrev pub AreAll : (Statement → Bool) → List Statement → Type 0
AreAll test [] = Unit {0}
AreAll test (statement ∷ rest) = IsAll test statement × AreAll test rest

-- statements are counted, and so are those inside them
abbrev pub AreCounted : Proc → List Statement → Type 0
AreCounted q = AreAll (is_counted q)

-- the statements of each procedure are counted
abbrev pub IsProgramCounted : Program → Type 0
IsProgramCounted p = All (λ q. IsTrue (list_all (is_counted q) (body_statements q))) p.procs

-- the tokens of the longest procedure
abbrev pub longest_of : List Proc → ℕ
longest_of [] = 1
longest_of (q ∷ qs) = max q.tokens (longest_of qs)

abbrev pub longest : Program → ℕ
longest p = longest_of p.procs

-- ---- activations

module _ (p : Program) (graphs : List Graph) where
  -- a procedure of the program, with its graph
  pub record HasFlow (n : ℕ) : Type 0 where
    pub procedure : Proc
    pub graph : Graph
    pub is_procedure : slice_get p.procs n ≡ Some procedure
    pub is_graph : slice_get graphs n ≡ Some graph
    pub flow : IsFlowOf procedure graph

  -- the three of one activation are of one procedure
  pub record AreOfOne (a : Activation) (t : Todo) (c : Position) : Type 0 where
    pub of : HasFlow t.procedure
    pub activation : a.procedure ≡ t.procedure
    pub position : c.procedure ≡ t.procedure

  -- the nodes from one on are the code of statements
  abbrev pub IsCodeOf : {n : ℕ} → HasFlow n → List Statement → NodeId → Type 0
  IsCodeOf of rest n = ListCode of.procedure of.graph.nodes of.flow.label_node rest n

  -- an activation that goes on stands at the code of what is still to do
  pub record StandsFor (a : Activation) (t : Todo) (c : Position) : Type 0 where
    pub one : AreOfOne a t c
    pub code : IsCodeOf one.of t.rest c.node
    pub counted : AreCounted one.of.procedure t.rest

  -- one that waits stands at the node of its site, whose normal exit leads there
  pub record WaitsFor (a : Activation) (t : Todo) (c : Position) : Type 0 where
    pub one : AreOfOne a t c
    pub site : ℕ
    pub is_site : a.site ≡ Some site
    pub exits : Exits
    pub stands : normal_of (kind_here graphs c) ≡ exits.normal
    pub behind : NodeId
    pub normal : ExitsCode one.of.graph.nodes (slice_get one.of.procedure.sites site) exits behind
    pub code : IsCodeOf one.of t.rest behind
    pub counted : AreCounted one.of.procedure t.rest

  abbrev pub AreWaiting : List Activation → List Todo → List Position → Type 0
  AreWaiting [] [] [] = Unit {0}
  AreWaiting (a ∷ older) (t ∷ ts) (c ∷ cs) = WaitsFor a t c × AreWaiting older ts cs
  AreWaiting _ _ _ = ⊥

  -- the youngest goes on, and the others wait
  abbrev pub AreGoing : List Activation → List Todo → List Position → Type 0
  AreGoing (a ∷ older) (t ∷ ts) (c ∷ cs) = StandsFor a t c × AreWaiting older ts cs
  AreGoing _ _ _ = ⊥

  -- where a run is over nothing is required
  abbrev pub AreRelated : Status → List Activation → List Todo → List Position → Type 0
  AreRelated Running activations ts cs = AreGoing activations ts cs
  AreRelated (Waiting values) activations ts cs = AreWaiting activations ts cs
  AreRelated (Ended outcome) activations ts cs = Unit {0}
  AreRelated (Wrong error) activations ts cs = Unit {0}

  pub record Related (a : State Todo) (b : State Position) : Type 0 where
    pub store : a.store ≡ b.store
    pub controls : AreRelated a.store.status a.store.activations a.controls b.controls

-- They are related, and the state of the C-- machine is sound: what it has still to do is in range, and its values fit their widths. So what the
-- nodes compute with are words.
pub record SoundlyRelated (s : Setting) (graphs : List Graph) (a : State Todo) (b : State Position) : Type 0 where
  pub related : Related s.program graphs a b
  pub sound : IsSound s a
