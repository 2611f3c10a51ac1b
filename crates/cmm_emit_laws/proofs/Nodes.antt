-- Nodes of graphs in range, and what is quiet at them.
use Rattle.std.proofs.Common.{◌≡◌, ℕ, ◌≤◌, refl, ap, arith, Bool, true, false, List, Option, Some, None, IsTrue, slice_get}
use Rattle.std.specs.Prelude.{nat_lt}
use Rattle.std.proofs.lemmas.Bool.{and_parts}
use Rattle.std.proofs.lemmas.Bool.Decides.{nat_tests}
use Rattle.cmm_program.proofs.Shared.{list_all_get}
use Rattle.cmm_program.specs.Acts.{Act, GetByte}
use Rattle.cmm_program.specs.Errors.{with_some}
use Rattle.cmm_program.specs.State.{Setting, Store, Running}
use Rattle.cmm_graph.specs.declared.number.NodeId.{NodeId}
use Rattle.cmm_graph.specs.declared.node.HostCall.TheVariants as host
use Rattle.cmm_graph.specs.declared.node.Node.{Node}
use Rattle.cmm_graph.specs.declared.node.NodeKind.{NodeKind}
use Rattle.cmm_graph.specs.declared.node.NodeKind.TheVariants.{Entry, CopyIn, Assign, Store as StoreWord, Branch, Switch, Call, Yield, Jump, Cut, Return, Host, Goto, Stop}
use Rattle.cmm_graph.specs.declared.graph.Graph.{Graph}
use Rattle.cmm_graph.specs.GraphControl.{in_graph}
use Rattle.cmm_graph.specs.Paths.{node_of}
use Rattle.cmm_graph.specs.Ranges.{IsValid, is_kind, is_node, is_step, leads_to}
use Rattle.cmm_simulation.specs.Seen.{but_input}
use Rattle.cmm_machine_laws.specs.Observed.{event_at}
use Rattle.rv_table.specs.Machine as rv
use Rattle.rv_table.specs.Machine.{State, instruction_step}
use Rattle.rv_table.specs.declared.request.Request.{Request}
use Rattle.rv_table.specs.declared.request.Request.TheVariants as request
use Rattle.cmm_effects.specs.Pieces.{BeginsQuietly}
use Rattle.cmm_image_machine.specs.Machine.{Launch, map_of}
use Rattle.cmm_image_machine.specs.Observed.{asked_at}
use Rattle.cmm_located.specs.Compiled.{Compiled, Located}
use Rattle.cmm_emit_laws.specs.Finished.{Finished, code_of}
use Rattle.cmm_emit_laws.specs.NodeCode.{IsCodeOf}
use Rattle.cmm_emit_laws.specs.Standing.{IsInBody, IsInside}
use Rattle.cmm_program.specs.State as c
use Rattle.cmm_emit_laws.specs.Represented.{stack_region}

-- what is found in a graph is found in one that is there
pub found_in : {A : Type 0} (graphs : List Graph) (q : ℕ) (find : Graph → Option A) (x : A) → in_graph graphs q find ≡ Some x →
    (g : Graph) × (slice_get graphs q ≡ Some g) × (find g ≡ Some x)
found_in {A = A} graphs q find x is = by (slice_get graphs q) refl is
  where
    by : (o : Option Graph) → slice_get graphs q ≡ o → with_some o find ≡ Some x → (g : Graph) × (slice_get graphs q ≡ Some g) × (find g ≡ Some x)
    by (Some g) there e = (g, there, e)
    by None there e = absurd (cc)

pub found_there : {A : Type 0} (graphs : List Graph) (q : ℕ) (find : Graph → Option A) (g : Graph) → slice_get graphs q ≡ Some g → in_graph graphs q find ≡ find g
found_there graphs q find g is = ap (λ (o : Option Graph). with_some o find) is

-- a node that is led to is there
pub led_to : (g : Graph) (test : NodeKind → Bool) (n : NodeId) → IsTrue (leads_to g test n) → (node : Node) × (node_of g n ≡ Some node) × IsTrue (test node.kind)
led_to g test n leads = by (node_of g n) refl leads
  where
    by : (o : Option Node) → node_of g n ≡ o → IsTrue (elim o [ Some node ↦ test node.kind | None ↦ false ]) → (node : Node) × (node_of g n ≡ Some node) × IsTrue (test node.kind)
    by (Some node) is holds = (node, is, holds)
    by None is holds = grind (arith, holds)

-- at a step, control is inside of a body
pub is_inside : (kind : NodeKind) → IsTrue (is_step kind) → (at : Located) → IsInBody at → IsInside kind at
is_inside (Entry formals next) is at body = let e : true ≡ false = grind (arith, is) in absurd (cc)
is_inside (CopyIn to next) is at body = let e : true ≡ false = grind (arith, is) in absurd (cc)
is_inside kind is at body = body

-- a node of a graph in range
pub node_holds : (g : Graph) (n : NodeId) (node : Node) → IsValid g → node_of g n ≡ Some node → (1 ≤ node.tokens) × IsTrue (is_kind g node.kind)
node_holds g n node valid is =
    let both = and_parts (nat_lt 0 node.tokens) (is_kind g node.kind) (list_all_get (is_node g) g.nodes n.number node valid.nodes is) in
    (grind (arith, nat_tests, both.0), both.1)

-- ---- what is quiet

-- a running state stands at no event but an input
pub running_asks : (s : Setting) (store : Store) (act : Act) → but_input (event_at s c.Running store act) ≡ None
running_asks s store (GetByte target) = refl
running_asks s store act = refl

pub quiet_asks : (l : Launch) (f : Finished) (q from : ℕ) (t : State) → BeginsQuietly (code_of l f q) from → t.pc ≡ from →
    but_input (asked_at l t (instruction_step (map_of l) t)) ≡ None
quiet_asks l f q from t quiet at = by (instruction_step (map_of l) t) refl
  where
    no_other : (r : Request) → r ≡ request.GetByte → but_input (asked_at l t (rv.Asks r)) ≡ None
    no_other r is = ap (λ (z : Request). but_input (asked_at l t (rv.Asks z))) is

    by : (o : rv.Outcome) → instruction_step (map_of l) t ≡ o → but_input (asked_at l t o) ≡ None
    by (rv.Next u) is = refl
    by (rv.Asks r) is = no_other r (quiet t r at is)
    by (rv.Traps kind) is = refl

pub code_is_quiet : (s : Setting) (c' : Compiled) (l : Launch) (f : Finished) (q : ℕ) (n : NodeId) (kind : NodeKind) (most : ℕ) → IsCodeOf s c' l f q n kind most →
    BeginsQuietly (code_of l f q) (f.node_at q n)
code_is_quiet s c' l f q n (Entry formals next) most code = (code.begins.made (stack_region s)).quiet
code_is_quiet s c' l f q n (Branch test then_ otherwise) most code = code.decides.quiet
code_is_quiet s c' l f q n (Switch value arms otherwise) most code = code.switches.quiet
code_is_quiet s c' l f q n (Return exit alternates results) most code = (code.returns (stack_region s)).quiet
code_is_quiet s c' l f q n (Goto next) most code = code.goes.quiet
code_is_quiet s c' l f q n Stop most code = code
code_is_quiet s c' l f q n (CopyIn to next) most code = (code.turns (stack_region s)).quiet
code_is_quiet s c' l f q n (Assign to value next) most code = code.quiet
code_is_quiet s c' l f q n (StoreWord width aligned address value next) most code = code.stores.quiet
code_is_quiet s c' l f q n (Call site callee arguments exits) most code = code.quiet
code_is_quiet s c' l f q n (Yield site values exits) most code = absurd code
code_is_quiet s c' l f q n (Jump callee arguments) most code = code.quiet
code_is_quiet s c' l f q n (Cut to arguments own) most code = (code.cuts (stack_region s)).quiet
code_is_quiet s c' l f q n (Host (host.PutByte value) next) most code = code.requests.quiet
code_is_quiet s c' l f q n (Host (host.GetByte to) next) most code = code.requests.quiet
