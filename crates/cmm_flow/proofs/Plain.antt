-- Statements that are passed in silence: branches, blocks, labels and assignments.
use Rattle.std.proofs.Common.{is_some, ◌≡◌, ℕ, zero, suc, ◌+◌, max, Bool, true, false, IsTrue, Ok, Option, Some, None, List, ◌∷◌, ◌++◌, map, slice_get, refl, ap, sym, subst, arith}
use Rattle.cmm_machine_laws.specs.Observed.{store_seen}
use Rattle.cmm_program.specs.declared.expression.Condition.{Condition}
use Rattle.cmm_program.specs.declared.expression.Expression.{Expression}
use Rattle.cmm_program.specs.declared.procedure.Proc.{Proc}
use Rattle.cmm_program.specs.declared.statement.Form.{Form, Row_of-Arm}
use Rattle.cmm_program.specs.declared.statement.Form.TheVariants.{Empty, If', Switch', Span', Label, Assign}
use Rattle.cmm_program.specs.declared.statement.Form.TheVariants as form
use Rattle.cmm_program.specs.declared.statement.Arm.{Row_of-Statement}
use Rattle.cmm_program.specs.declared.statement.Lvalue.{Lvalue}
use Rattle.cmm_program.specs.declared.statement.Statement.{Statement}
use Rattle.cmm_program.specs.Acts.{evaluated, places_of, values_of}
use Rattle.cmm_program.specs.Bodies.{arm_for, branch_body, branches, statements}
use Rattle.cmm_program.specs.Errors.{and_then}
use Rattle.cmm_program.specs.Orders as order
use Rattle.cmm_program.specs.Orders.{Order, Place, writes}
use Rattle.cmm_program.specs.State.{Running, Store}
use Rattle.cmm_program.specs.Todo as todo
use Rattle.cmm_program.specs.Todo.{aim_of, if_way, rest_after, switch_way}
use Rattle.cmm_program.specs.Typing.{is_condition}
use Rattle.cmm_program.specs.Values.{test_of, value_of}
use Rattle.cmm_program.specs.Writes.{put_all, reads_of}
use mathlib.Core.Former.{Count}
use Rattle.cmm_graph.specs.declared.node.Arm.{Arm}
use Rattle.cmm_graph.specs.declared.node.NodeKind.TheVariants.{Goto, Switch}
use Rattle.cmm_graph.specs.declared.number.NodeId.{NodeId}
use Rattle.cmm_graph.specs.declared.number.Temporary.{Temporary}
use Rattle.cmm_graph.specs.declared.operand.Operand.{Operand}
use Rattle.cmm_graph.specs.Acting.{arm_way}
use Rattle.cmm_graph.specs.GraphControl.{held_by, moved_to}
use Rattle.cmm_graph.specs.Values.{operand_value}
use Rattle.cmm_flow.specs.Code.{IsNode, OperandCode, TestCode}
use Rattle.cmm_flow.specs.Flow.{IsFlowOf}
use Rattle.cmm_flow.specs.Operands.{nodes, operand_of, test_nodes}
use Rattle.cmm_flow.specs.Statements.{ArmsCode, AssignCode, DefaultCode, FormCode, RowCode}
use Rattle.cmm_flow.proofs.Assigning.{AreLvalues, assign_cost, assign_done}
use Rattle.cmm_flow.proofs.Done.{CodeOf, IsDone, Passes, Quietly, asked, is_done_for}
use Rattle.cmm_flow.proofs.Expressions.{operand_brings}
use Rattle.cmm_flow.proofs.Fits.{AreTyped, IsFit, IsTyped}
use Rattle.cmm_flow.proofs.Rows.{arm_node, row_leads, switch_leads}
use Rattle.cmm_flow.proofs.Steps.{Goes, Run, Youngest, at, at_most, goto_goes, passes_one, place, then_goes}
use Rattle.cmm_flow.proofs.Conditions.{chosen, test_decides}
use Rattle.cmm_flow.proofs.Writes.{leaves_itself}

module _ {r : Run} (y : Youngest r) (q : Proc) (flow : IsFlowOf q y.graph) (store : Store) (running : store.status ≡ Running) where
  abbrev Code : ℕ → Form → NodeId → NodeId → Type 0
  Code = FormCode q y.graph.nodes flow.label_node

  abbrev Asked : Form → Order → Type 0
  Asked form o = evaluated (reads_of r.setting store) (todo.act_of q form) ≡ asked o

  -- a node that does nothing, where the machine does nothing
  pub nothing_done : (temporaries : Temporary → ℕ) (form : Form) (rest : List Statement) (n k : NodeId) (o : Order) → asked order.Nothing ≡ asked o →
      IsNode y.graph.nodes n 1 (Goto k) → CodeOf y q flow store (rest_after q 0 form rest) k → IsDone y q flow store temporaries n form rest o 1
  nothing_done temporaries form rest n k o is node code = is_done_for y q flow store order.Nothing o is
      (Quietly 0 store refl (leaves_itself store) (record { then_ = temporaries; to = k; path = goto_goes y store temporaries n k running node; code = code }))

  -- to the label of a `goto`
  pub goto_done : (l : ℕ) (temporaries : Temporary → ℕ) (rest : List Statement) (n : NodeId) (o : Order) → asked order.Nothing ≡ asked o →
      n ≡ flow.label_node l → IsDone y q flow store temporaries n (form.Goto l) rest o 1
  goto_done l temporaries rest n o is same =
      let label = flow.labels l in
      subst (λ m. IsDone y q flow store temporaries m (form.Goto l) rest o 1) (sym same)
      (nothing_done temporaries (form.Goto l) rest (flow.label_node l) label.next o is label.node label.code)

  -- the blocks of an `if`
  if_code : {i j : Count} (then_ : Row_of-Statement i) (otherwise : Row_of-Statement j) (rest : List Statement) (held failed k : NodeId) (found : Bool)
      (way : ℕ) → elim found as (λ _. ℕ) [ true ↦ 0 | false ↦ 1 ] ≡ way → CodeOf y q flow store rest k →
      RowCode q y.graph.nodes flow.label_node then_ held k → RowCode q y.graph.nodes flow.label_node otherwise failed k →
      CodeOf y q flow store (elim way [ zero ↦ statements then_ ++ rest | suc _ ↦ statements otherwise ++ rest ]) (chosen found held failed)
  if_code then_ otherwise rest held failed k true way same code first second =
      subst (λ w. CodeOf y q flow store (elim w [ zero ↦ statements then_ ++ rest | suc _ ↦ statements otherwise ++ rest ]) held) same
      (row_leads q y.graph.nodes flow.label_node then_ held k first rest code)
  if_code then_ otherwise rest held failed k false way same code first second =
      subst (λ w. CodeOf y q flow store (elim w [ zero ↦ statements then_ ++ rest | suc _ ↦ statements otherwise ++ rest ]) failed) same
      (row_leads q y.graph.nodes flow.label_node otherwise failed k second rest code)

  -- a choice of a way, which the code takes
  pub chosen_done : (temporaries : Temporary → ℕ) (form : Form) (rest : List Statement) (n : NodeId) (o : Order) (way most : ℕ) → asked (order.Choose way) ≡ asked o →
      Passes y q flow store temporaries n store (rest_after q way form rest) most → IsDone y q flow store temporaries n form rest o most
  chosen_done temporaries form rest n o way most is passes =
      is_done_for y q flow store (order.Choose way) o is (Quietly way store refl (leaves_itself store) passes)

  pub if_passes : {i j : Count} (condition : Condition) (then_ : Row_of-Statement i) (otherwise : Row_of-Statement j) (rest : List Statement)
      (temporaries : Temporary → ℕ) (n held failed k : NodeId) (found : Bool) (way : ℕ) → elim found as (λ _. ℕ) [ true ↦ 0 | false ↦ 1 ] ≡ way →
      IsFit r.setting q store → IsTrue (is_condition r.setting.program q condition) → test_of condition (reads_of r.setting store) ≡ Ok found → TestCode y.graph.nodes condition n held failed → CodeOf y q flow store rest k →
      RowCode q y.graph.nodes flow.label_node then_ held k → RowCode q y.graph.nodes flow.label_node otherwise failed k →
      Passes y q flow store temporaries n store (elim way [ zero ↦ statements then_ ++ rest | suc _ ↦ statements otherwise ++ rest ]) (test_nodes condition)
  if_passes condition then_ otherwise rest temporaries n held failed k found way same fit tested is test code first second =
      let decides = test_decides y store running fit condition temporaries n held failed found tested is test in
      record {
        then_ = decides.after;
        to = chosen found held failed;
        path = decides.path;
        code = if_code then_ otherwise rest held failed k found way same code first second;
      }

  -- a Switch by its value
  switch_goes : (temporaries : Temporary → ℕ) (n : NodeId) (tokens : ℕ) (value : Operand) (to : List Arm) (otherwise : NodeId) (v : ℕ) →
      IsNode y.graph.nodes n tokens (Switch value to otherwise) → operand_value (held_by temporaries) value (reads_of r.setting store) ≡ Ok v →
      Goes r (store_seen store) 1 (max 1 tokens) (at y store temporaries n) (at y store temporaries (arm_node to otherwise v))
  switch_goes temporaries n tokens value to otherwise v node is =
      subst (Goes r (store_seen store) 1 (max 1 tokens) (at y store temporaries n)) (by (slice_get to (arm_way to v)))
      (passes_one y store store temporaries n tokens (Switch value to otherwise) (order.Choose (arm_way to v)) (arm_way to v) running node
      (ap (λ t. and_then (and_then t (λ v. Ok (arm_way to v))) (λ way. Ok (order.Choose way))) is) refl running refl (leads (slice_get to 0)))
    where
      by : (o : Option Arm) →
          record { store = store; controls = moved_to (elim o [ Some arm ↦ Some arm.to | None ↦ Some otherwise ]) (place y temporaries n) ∷ y.older }
          ≡ at y store temporaries (elim o [ Some arm ↦ arm.to | None ↦ otherwise ])
      by (Some arm) = refl
      by None = refl

      leads : (o : Option Arm) → is_some (elim o as (λ _. Option NodeId) [ Some arm ↦ Some arm.to | None ↦ Some otherwise ]) ≡ true
      leads (Some arm) = refl
      leads None = refl

  pub switch_passes : {i : Count} (value : Expression) (arms : Row_of-Arm i) (rest : List Statement) (temporaries : Temporary → ℕ) (n j : NodeId) (to : List Arm)
      (otherwise k : NodeId) (tokens v way : ℕ) → IsFit r.setting q store → IsTyped r.setting.program q value → value_of value (reads_of r.setting store) ≡ Ok v → arm_for (branches arms) v ≡ Some way →
      OperandCode y.graph.nodes value 0 n j → IsNode y.graph.nodes j tokens (Switch (operand_of 0 value) to otherwise) →
      ArmsCode q y.graph.nodes flow.label_node arms to k → DefaultCode q y.graph.nodes flow.label_node arms otherwise k → CodeOf y q flow store rest k →
      Passes y q flow store temporaries n store (branch_body (branches arms) way ++ rest) (nodes value + max 1 tokens)
  switch_passes value arms rest temporaries n j to otherwise k tokens v way fit typed is found operand node arms_code default code =
      let first = operand_brings y store running fit value temporaries 0 n j v typed is operand in
      record {
        then_ = first.after;
        to = arm_node to otherwise v;
        path = at_most (then_goes first.path (switch_goes first.after j tokens (operand_of 0 value) to otherwise v node first.value)) (omega arith) (omega arith);
        code = switch_leads q y.graph.nodes flow.label_node arms to otherwise k v way arms_code default found rest code;
      }

  -- an assignment
  pub assign_passes : (to : List Lvalue) (values : List Expression) (rest : List Statement) (temporaries : Temporary → ℕ) (n k : NodeId) (ps : List Place)
      (vs : List ℕ) (after : Store) → IsFit r.setting q store → AreLvalues r.setting.program q to → AreTyped r.setting.program q values → places_of (reads_of r.setting store) (map aim_of to) ≡ Ok ps →
      values_of (reads_of r.setting store) (map value_of values) ≡ Ok vs → put_all (writes ps vs) store ≡ Ok after → AssignCode y.graph.nodes to values n k →
      CodeOf y q flow store rest k → Passes y q flow store temporaries n after rest (assign_cost to values)
  assign_passes to values rest temporaries n k ps vs after fit lvalues typed places values_are puts code behind =
      let done = assign_done y to values ps vs store after temporaries n k running fit lvalues typed places values_are puts code in
      record { then_ = done.then_; to = k; path = done.path; code = behind }
