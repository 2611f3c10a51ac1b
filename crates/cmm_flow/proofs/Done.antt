-- What the code of a statement does where the machine does the statement: it goes through it in silence, or comes to a node that does
-- the same order.
use Rattle.std.proofs.Common.{◌≡◌, ℕ, ◌+◌, ◌≤◌, max, Result, Ok, Option, Some, None, List, slice_get, refl, subst, arith}
use Rattle.cmm_machine_laws.specs.Observed.{event_at, store_seen}
use Rattle.cmm_program.specs.declared.procedure.Proc.{Proc}
use Rattle.cmm_program.specs.declared.statement.Form.{Form}
use Rattle.cmm_program.specs.declared.statement.Statement.{Statement}
use Rattle.cmm_program.specs.Acts.{evaluated}
use Rattle.cmm_program.specs.Errors.{Tried, given}
use Rattle.cmm_program.specs.Orders as order
use Rattle.cmm_program.specs.Orders.{Order}
use Rattle.cmm_program.specs.Performing.{Stay, perform}
use Rattle.cmm_program.specs.State.{Running, Store}
use Rattle.cmm_program.specs.Todo as todo
use Rattle.cmm_program.specs.Todo.{rest_after}
use Rattle.cmm_program.specs.Writes.{reads_of}
use Rattle.cmm_graph.specs.declared.node.Exits.{Exits}
use Rattle.cmm_graph.specs.declared.node.NodeKind.{NodeKind}
use Rattle.cmm_graph.specs.declared.number.NodeId.{NodeId}
use Rattle.cmm_graph.specs.declared.number.Temporary.{Temporary}
use Rattle.cmm_graph.specs.Acting.{act_of, led}
use Rattle.cmm_graph.specs.GraphControl.{keeping, normal_of}
use Rattle.cmm_flow.specs.Code.{IsNode}
use Rattle.cmm_flow.specs.Flow.{IsFlowOf}
use Rattle.cmm_flow.specs.Statements.{ListCode, ExitsCode}
use Rattle.cmm_flow.proofs.Steps.{Goes, Run, Youngest, at, place}
use Rattle.cmm_flow.proofs.Writes.{Leaves}

-- a value that has to be there
pub there : {A B E : Type 0} (o : Option A) (error : E) (next : A → Result B E) (v : B) → given o error next ≡ Ok v → (a : A) × (o ≡ Some a) × (next a ≡ Ok v)
there (Some a) error next v is = (a, refl, is)
there None error next v is = grind (arith, is)

-- an order that is known
abbrev pub asked : Order → Tried Order
asked o = Ok o

module _ {r : Run} (y : Youngest r) (q : Proc) (flow : IsFlowOf q y.graph) (store : Store) where
  abbrev pub CodeOf : List Statement → NodeId → Type 0
  CodeOf rest n = ListCode q y.graph.nodes flow.label_node rest n

  -- control comes to the code of what is then to do
  pub record Passes (temporaries : Temporary → ℕ) (n : NodeId) (after : Store) (rest : List Statement) (most : ℕ) : Type 0 where
    pub then_ : Temporary → ℕ
    pub to : NodeId
    pub path : Goes r (store_seen store) 1 most (at y store temporaries n) (at y after then_ to)
    pub code : CodeOf rest to

  -- a node goes on at the code of what is to do
  abbrev pub LeadsOn : NodeKind → List Statement → Type 0
  LeadsOn kind rest = (k : NodeId) × (led 0 kind ≡ Some k) × CodeOf rest k

  -- the normal exit of a node's site leads there
  abbrev pub ComesBack : NodeKind → List Statement → ℕ → Type 0
  ComesBack kind rest site =
      (exits : Exits) × (k : NodeId) × (normal_of kind ≡ exits.normal) × ExitsCode y.graph.nodes (slice_get q.sites site) exits k × CodeOf rest k

  -- where a node goes on after its order
  abbrev pub GoesOn : NodeKind → List Statement → Order → Type 0
  GoesOn kind rest (order.PutByte value) = LeadsOn kind rest
  GoesOn kind rest (order.GetByte target) = LeadsOn kind rest
  GoesOn kind rest (order.Call site to words) = ComesBack kind rest site
  GoesOn kind rest (order.Yield site values) = ComesBack kind rest site
  GoesOn kind rest (order.Jump to words) = Unit {0}
  GoesOn kind rest (order.Return exit alternates words) = Unit {0}
  GoesOn kind rest (order.Cut to words own) = Unit {0}
  GoesOn kind rest _ = ⊥

  -- control comes to a node that does the order of the statement
  pub record Asks (temporaries : Temporary → ℕ) (n : NodeId) (form : Form) (rest : List Statement) (o : Order) (most : ℕ) : Type 0 where
    pub then_ : Temporary → ℕ
    pub to : NodeId
    pub tokens : ℕ
    pub kind : NodeKind
    pub before : ℕ
    pub path : Goes r (store_seen store) 0 before (at y store temporaries n) (at y store then_ to)
    pub node : IsNode y.graph.nodes to tokens kind
    pub same : evaluated (reads_of r.setting store) (act_of (keeping (place y then_ to)) kind) ≡ asked o
    pub event : event_at r.setting Running store (act_of (keeping (place y then_ to)) kind) ≡ event_at r.setting Running store (todo.act_of q form)
    pub within : before + max 1 tokens ≤ most
    pub next : GoesOn kind rest o

  pub data IsDone (temporaries : Temporary → ℕ) (n : NodeId) (form : Form) (rest : List Statement) (o : Order) (most : ℕ) : Type 0 where
    Quietly : (way : ℕ) (after : Store) → perform r.setting o store ≡ Ok (Stay way after) → Leaves store after →
        Passes temporaries n after (rest_after q way form rest) most → IsDone temporaries n form rest o most
    Finally : rest_after q 0 form rest ≡ rest → Asks temporaries n form rest o most → IsDone temporaries n form rest o most

  pub is_done_for : {temporaries : Temporary → ℕ} {n : NodeId} {form : Form} {rest : List Statement} {most : ℕ} (o other : Order) → asked o ≡ asked other →
      IsDone temporaries n form rest o most → IsDone temporaries n form rest other most
  is_done_for {temporaries = temporaries} {n = n} {form = form} {rest = rest} {most = most} o other is done =
      let same : o ≡ other = grind (arith, is) in subst (λ o. IsDone temporaries n form rest o most) same done
