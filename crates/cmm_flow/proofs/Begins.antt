-- At the first node of code a run may stand, if it may at the nodes to which the code leads.
use Rattle.std.proofs.Common.{◌≡◌, ℕ, suc, IsTrue, Bool, true, false, Option, Some, None, List, [], ◌∷◌, length, slice_get, refl, sym, subst}
use Rattle.std.proofs.lemmas.Bool.{and_parts}
use Rattle.std.specs.List.{list_all}
use mathlib.Core.Former.{one_more}
use Rattle.cmm_words.specs.Words.{is_division}
use Rattle.cmm_words.specs.declared.operators.Op2.{Op2}
use Rattle.cmm_words.specs.declared.width.Width.{Width}
use Rattle.cmm_program.specs.declared.expression.Condition.{Condition, Row_of-Condition, more_of-Condition}
use Rattle.cmm_program.specs.declared.expression.Condition.TheVariants.{Compare, Not', Both', Either'}
use Rattle.cmm_program.specs.declared.expression.Expression.{Expression, Row_of-Expression, more_of-Expression}
use Rattle.cmm_program.specs.declared.expression.Expression.TheVariants.{Known, Variable, Register, Stackdata, Continuation, Load', Unary', Binary', SignExtend', ZeroExtend', LowBits'}
use Rattle.cmm_program.specs.declared.procedure.Proc.{Proc}
use Rattle.cmm_program.specs.declared.statement.Arm.{Arm, Arm', Row_of-Statement, end_of-Statement, more_of-Statement}
use Rattle.cmm_program.specs.declared.statement.Case.TheVariants.{In, Default}
use Rattle.cmm_program.specs.declared.statement.Form.{Form}
use Rattle.cmm_program.specs.declared.statement.Form.TheVariants as form
use Rattle.cmm_program.specs.declared.statement.Form.TheVariants.{Empty, If', Switch', Span', Call, Yield, Checked, PutByte, GetByte, Jump, Return, Label, Cut}
use Rattle.cmm_program.specs.declared.statement.Lvalue.{Lvalue}
use Rattle.cmm_program.specs.declared.statement.Lvalue.TheVariants as lvalue
use Rattle.cmm_program.specs.declared.statement.Statement.{Statement}
use Rattle.cmm_graph.specs.declared.graph.Graph.{Graph}
use Rattle.cmm_graph.specs.declared.node.Arm.{Arm as Way}
use Rattle.cmm_graph.specs.declared.node.Node.{Node}
use Rattle.cmm_graph.specs.declared.node.NodeKind.{NodeKind}
use Rattle.cmm_graph.specs.declared.node.NodeKind.TheVariants.{CopyIn}
use Rattle.cmm_graph.specs.declared.number.NodeId.{NodeId}
use Rattle.cmm_graph.specs.declared.operand.Destination.{Destination}
use Rattle.cmm_graph.specs.declared.operand.Operand.{Operand}
use Rattle.cmm_graph.specs.Paths.{arm_nodes, if_there}
use Rattle.cmm_graph.specs.Ranges.{is_copy_in, is_step, leads_to}
use Rattle.cmm_flow.specs.Code.{IsNode, OperandCode, OperandsCode, PartCode, SameCode, TestCode, TestPart, ValueCode, ValuesCode, to_temporary}
use Rattle.cmm_flow.specs.Operands.{is_plain}
use Rattle.cmm_flow.specs.Statements.{AddressesCode, AssignCode, FormCode, ListCode, RowCode, StoresCode, ZeroCode}
use Rattle.cmm_flow.specs.inside.Laying.{AreCopyIns, AreSteps}
use Rattle.cmm_flow.specs.inside.Marks.{FrontCode, OtherwiseCode, WaysCode}
use Rattle.cmm_flow.specs.inside.Parts.{store_node, store_tokens}
use Rattle.cmm_flow.specs.inside.Passing.{GuardCode, IsCopyIn, IsNormal}
use Rattle.cmm_flow.proofs.ExpressionsStay.{Choice}
use Rattle.cmm_flow.proofs.Laying.{and_both}

module _ (g : Graph) where
  -- a run may stand at a node
  abbrev pub IsStep : NodeId → Type 0
  IsStep n = IsTrue (leads_to g is_step n)

  pub led_to : (test : NodeKind → Bool) (n : NodeId) (node : Node) → slice_get g.nodes n.number ≡ Some node → IsTrue (test node.kind) → IsTrue (leads_to g test n)
  led_to test n node is holds = subst (λ (o : Option Node). IsTrue (elim o as (λ _. Bool) [ Some node ↦ test node.kind | None ↦ false ])) (sym is) holds

  pub node_begins : (n : NodeId) (tokens : ℕ) (kind : NodeKind) → IsNode g.nodes n tokens kind → IsTrue (is_step kind) → IsStep n
  node_begins n tokens kind is step = led_to is_step n (record { tokens = tokens; kind = kind }) is step

  -- ---- lists

  pub one_step : (n : NodeId) → IsStep n → AreSteps g (n ∷ [])
  one_step n step = and_both (leads_to g is_step n) true step refl

  pub the_step : (n : NodeId) → AreSteps g (n ∷ []) → IsStep n
  the_step n steps = (and_parts (leads_to g is_step n) true steps).0

  pub two_steps : (n m : NodeId) → IsStep n → IsStep m → AreSteps g (n ∷ m ∷ [])
  two_steps n m first second = and_both (leads_to g is_step n) (list_all (leads_to g is_step) (m ∷ [])) first (one_step m second)

  pub the_two : (n m : NodeId) → AreSteps g (n ∷ m ∷ []) → IsStep n × IsStep m
  the_two n m steps = let both = and_parts (leads_to g is_step n) (list_all (leads_to g is_step) (m ∷ [])) steps in (both.0, the_step m both.1)

  -- where the second of two pieces goes on
  pub on_step : (n : NodeId) → IsStep n → AreSteps g (n ∷ []) × AreCopyIns g []
  on_step n step = (one_step n step, refl)

  pub on_node : (n : NodeId) (tokens : ℕ) (kind : NodeKind) → IsNode g.nodes n tokens kind → IsTrue (is_step kind) → AreSteps g (n ∷ []) × AreCopyIns g []
  on_node n tokens kind is step = on_step n (node_begins n tokens kind is step)

  pub on_two : (n m : NodeId) → IsStep n → IsStep m → AreSteps g (n ∷ m ∷ []) × AreCopyIns g []
  on_two n m first second = (two_steps n m first second, refl)

  -- where there is no code control goes on
  same : (n k : NodeId) → n ≡ k → IsStep k → IsStep n
  same n k is step = subst IsStep (sym is) step

  choice : (b : Bool) (n k : NodeId) (Y : Type 0) → (Y → IsStep n) → Choice b (n ≡ k) Y → IsStep k → IsStep n
  choice true n k Y begins is step = same n k is step
  choice false n k Y begins is step = begins is

  -- ---- expressions

  mutual
    pub value_begins : (e : Expression) (base : ℕ) (to : Destination) (n k : NodeId) → ValueCode g.nodes e base to n k → IsStep n
    value_begins (Known value) base to n k is = node_begins n _ _ is refl
    value_begins (Variable number width) base to n k is = node_begins n _ _ is refl
    value_begins (Register number width) base to n k is = node_begins n _ _ is refl
    value_begins (Stackdata number) base to n k is = node_begins n _ _ is refl
    value_begins (Continuation number) base to n k is = node_begins n _ _ is refl
    value_begins (Load' width aligned _ a) base to n k (m, part, is) = part_begins a base n m part (node_begins m _ _ is refl)
    value_begins (Unary' op width _ a) base to n k (m, part, is) = part_begins a base n m part (node_begins m _ _ is refl)
    value_begins (Binary' op width _ a _ b) base to n k (m, j, part, other, is) =
        part_begins a base n m part (part_begins b (suc base) m j other (node_begins j _ _ is refl))
    value_begins (SignExtend' from to' _ a) base to n k (m, part, is) = part_begins a base n m part (node_begins m _ _ is refl)
    value_begins (ZeroExtend' from to' _ a) base to n k is = same_begins a base to n k is
    value_begins (LowBits' from to' _ a) base to n k (m, part, is) = part_begins a base n m part (node_begins m _ _ is refl)

    part_begins : {i : _} (row : Row_of-Expression (one_more i)) (base : ℕ) (n k : NodeId) → PartCode g.nodes row base n k → IsStep k → IsStep n
    part_begins (more_of-Expression a rest) base n k is step =
        choice (is_plain a) n k (ValueCode g.nodes a base (to_temporary base) n k) (value_begins a base (to_temporary base) n k) is step

    same_begins : {i : _} (row : Row_of-Expression (one_more i)) (base : ℕ) (to : Destination) (n k : NodeId) → SameCode g.nodes row base to n k → IsStep n
    same_begins (more_of-Expression a rest) base to n k is = value_begins a base to n k is

  pub operand_begins : (e : Expression) (base : ℕ) (n k : NodeId) → OperandCode g.nodes e base n k → IsStep k → IsStep n
  operand_begins e base n k is step =
      choice (is_plain e) n k (ValueCode g.nodes e base (to_temporary base) n k) (value_begins e base (to_temporary base) n k) is step

  pub operands_begin : (es : List Expression) (base : ℕ) (n k : NodeId) → OperandsCode g.nodes es base n k → IsStep k → IsStep n
  operands_begin [] base n k is step = same n k is step
  operands_begin (e ∷ es) base n k (m, first, rest) step = operand_begins e base n m first (operands_begin es (suc base) m k rest step)

  pub values_begin : (es : List Expression) (base : ℕ) (n k : NodeId) → ValuesCode g.nodes es base n k → IsStep k → IsStep n
  values_begin [] base n k is step = same n k is step
  values_begin (e ∷ es) base n k (m, first, rest) step = value_begins e base (to_temporary base) n m first

  mutual
    pub test_begins : (c : Condition) (n held failed : NodeId) → TestCode g.nodes c n held failed → IsStep n
    test_begins (Compare operator width a b) n held failed (m, j, first, second, is) =
        operand_begins a 0 n m first (operand_begins b 1 m j second (node_begins j _ _ is refl))
    test_begins (Not' _ a) n held failed is = test_part_begins a n failed held is
    test_begins (Both' _ a _ b) n held failed (m, first, rest) = test_part_begins a n m failed first
    test_begins (Either' _ a _ b) n held failed (m, first, rest) = test_part_begins a n held m first

    test_part_begins : {i : _} (row : Row_of-Condition (one_more i)) (n held failed : NodeId) → TestPart g.nodes row n held failed → IsStep n
    test_part_begins (more_of-Condition a rest) n held failed is = test_begins a n held failed is

  -- ---- assignments

  pub addresses_begin : (to : List Lvalue) (base : ℕ) (n k : NodeId) → AddressesCode g.nodes to base n k → IsStep k → IsStep n
  addresses_begin [] base n k is step = same n k is step
  addresses_begin (lvalue.Target target ∷ ls) base n k is step = addresses_begin ls (suc base) n k is step
  addresses_begin (lvalue.Memory width aligned address ∷ ls) base n k (m, first, rest) step = value_begins address base (to_temporary base) n m first

  pub stores_begin : (to : List Lvalue) (es : List Expression) (address value : ℕ) (n k : NodeId) → StoresCode g.nodes to es address value n k → IsStep k → IsStep n
  stores_begin [] es address value n k is step = same n k is step
  stores_begin (lvalue.Target target ∷ ls) [] address value n k is step = same n k is step
  stores_begin (lvalue.Memory width aligned at ∷ ls) [] address value n k is step = same n k is step
  stores_begin (lvalue.Target target ∷ ls) (e ∷ es) address value n k (m, first, rest) step = node_begins n _ _ first refl
  stores_begin (lvalue.Memory width aligned at ∷ ls) (e ∷ es) address value n k (m, first, rest) step = node_begins n _ _ first refl

  pub store_begins : (l : Lvalue) (address value : Operand) (n k : NodeId) → IsNode g.nodes n (store_tokens l) (store_node l address value k) → AreSteps g (n ∷ []) × AreCopyIns g []
  store_begins (lvalue.Target target) address value n k is = on_node n _ _ is refl
  store_begins (lvalue.Memory width aligned at) address value n k is = on_node n _ _ is refl

  assign_begins : (to : List Lvalue) (es : List Expression) (n k : NodeId) → AssignCode g.nodes to es n k → IsStep k → IsStep n
  assign_begins to [] n k is step = node_begins n _ _ is refl
  assign_begins (lvalue.Target target ∷ []) (e ∷ []) n k is step = value_begins e 0 _ n k is
  assign_begins (lvalue.Memory width aligned address ∷ []) (e ∷ []) n k (m, j, first, second, is) step =
      operand_begins address 0 n m first (operand_begins e 1 m j second (node_begins j _ _ is refl))
  assign_begins to (e ∷ es) n k (m, j, addresses, values, stores) step =
      addresses_begin to 0 n m addresses
      (values_begin (e ∷ es) (length to) m j values (stores_begin to (e ∷ es) 0 (length to) j k stores step))

  -- ---- exits

  pub normal_leads : (normal : Option NodeId) → IsNormal g.nodes normal → AreCopyIns g (if_there normal)
  normal_leads None is = refl
  normal_leads (Some n) is =
      and_both (leads_to g is_copy_in n) true (led_to is_copy_in n (record { tokens = is.tokens; kind = node_kind is }) is.node refl) refl
    where
      node_kind : {n : NodeId} (is : IsCopyIn g.nodes n) → NodeKind
      node_kind is = CopyIn is.to is.next

  pub guard_begins : (q : Proc) (tokens used site : ℕ) (op : Op2) (width : Width) (divisor : Expression) (n division k : NodeId) →
      GuardCode g.nodes q tokens used site op width divisor n division k → IsStep division → IsStep n
  guard_begins q tokens used site op width divisor n division k is step = by (is_division op) refl
    where
      by : (b : Bool) → is_division op ≡ b → IsStep n
      by true needed = let code = subst (λ b. elim b as (λ _. Type 0) [ true ↦ ZeroCode g.nodes q tokens used site width divisor n division k | false ↦ n ≡ division ]) needed is in node_begins n _ _ code.2 refl
      by false other = let code = subst (λ b. elim b as (λ _. Type 0) [ true ↦ ZeroCode g.nodes q tokens used site width divisor n division k | false ↦ n ≡ division ]) other is in same n division code step

  -- ---- statements

  module _ (q : Proc) (label_node : ℕ → NodeId) where
    pub form_begins : (tokens : ℕ) (form : Form) (n k : NodeId) → FormCode q g.nodes label_node tokens form n k → ((l : ℕ) → IsStep (label_node l)) → IsStep k → IsStep n
    form_begins tokens Empty n k is labels step = node_begins n _ _ is refl
    form_begins tokens (If' condition _ then_ _ otherwise) n k (held, failed, test, first, second) labels step = test_begins condition n held failed test
    form_begins tokens (Switch' value _ arms) n k (j, to, otherwise, first, is, ways, default) labels step =
        operand_begins value 0 n j first (node_begins j _ _ is refl)
    form_begins tokens (Span' _ body) n k (j, is, inner) labels step = node_begins n _ _ is refl
    form_begins tokens (form.Assign to values) n k is labels step = assign_begins to values n k is step
    form_begins tokens (Call site callee actuals) n k (m, j, exits, first, rest, is, normal) labels step =
        operand_begins callee 0 n m first (operands_begin actuals 1 m j rest (node_begins j _ _ is refl))
    form_begins tokens (Yield site values) n k (j, exits, rest, is, normal) labels step = operands_begin values 0 n j rest (node_begins j _ _ is refl)
    form_begins tokens (Checked site op width left right) n k (m, j, d, first, second, is, guard) labels step =
        operand_begins left 0 n m first
        (operand_begins right 1 m j second (guard_begins q tokens _ site op width right j d k guard (node_begins d _ _ is refl)))
    form_begins tokens (PutByte value) n k (j, first, is) labels step = operand_begins value 0 n j first (node_begins j _ _ is refl)
    form_begins tokens (GetByte target) n k is labels step = node_begins n _ _ is refl
    form_begins tokens (Jump callee actuals) n k (m, j, first, rest, is) labels step =
        operand_begins callee 0 n m first (operands_begin actuals 1 m j rest (node_begins j _ _ is refl))
    form_begins tokens (Return exit alternates values) n k (j, rest, is) labels step = operands_begin values 0 n j rest (node_begins j _ _ is refl)
    form_begins tokens (Label l) n k is labels step = node_begins n _ _ is refl
    form_begins tokens (form.Goto l) n k is labels step = same n (label_node l) is (labels l)
    form_begins tokens (form.Continuation c) n k is labels step = node_begins n _ _ is refl
    form_begins tokens (Cut to values own) n k (m, j, first, rest, is) labels step =
        operand_begins to 0 n m first (operands_begin values 1 m j rest (node_begins j _ _ is refl))

    row_begins : {i : _} (row : Row_of-Statement i) (n k : NodeId) → RowCode q g.nodes label_node row n k → ((l : ℕ) → IsStep (label_node l)) → IsStep k → IsStep n
    row_begins end_of-Statement n k is labels step = same n k is step
    row_begins (more_of-Statement tokens form rest) n k (m, first, later) labels step =
        form_begins tokens form n m first labels (row_begins rest m k later labels step)

    pub front_begins : (xs : List Statement) (n k : NodeId) → FrontCode q g.nodes label_node xs n k → ((l : ℕ) → IsStep (label_node l)) → IsStep k → IsStep n
    front_begins [] n k is labels step = same n k is step
    front_begins (x ∷ xs) n k (m, first, later) labels step = form_begins x.tokens x.form n m first labels (front_begins xs m k later labels step)

    -- the end of a body is a node
    pub list_begins : (xs : List Statement) (n : NodeId) → ListCode q g.nodes label_node xs n → ((l : ℕ) → IsStep (label_node l)) → IsStep n
    list_begins [] n is labels = node_begins n _ _ is refl
    list_begins (x ∷ xs) n (k, first, later) labels = form_begins x.tokens x.form n k first labels (list_begins xs k later labels)

    -- ---- the ways of a switch

    pub ways_begin : (arms : List Arm) (to : List Way) (k : NodeId) → WaysCode q g.nodes label_node arms to k → ((l : ℕ) → IsStep (label_node l)) → IsStep k →
        AreSteps g (arm_nodes to)
    ways_begin [] to k is labels step = subst (λ ways. AreSteps g (arm_nodes ways)) (sym is) refl
    ways_begin (Arm' (In ranges) _ body ∷ rest) to k (m, others, is, first, later) labels step =
        subst (λ ways. AreSteps g (arm_nodes ways)) (sym is)
        (and_both (leads_to g is_step m) (list_all (leads_to g is_step) (arm_nodes others)) (row_begins body m k first labels step)
        (ways_begin rest others k later labels step))
    ways_begin (Arm' Default _ body ∷ rest) to k is labels step = ways_begin rest to k is labels step

    pub otherwise_begins : (arms : List Arm) (n k : NodeId) → OtherwiseCode q g.nodes label_node arms n k → ((l : ℕ) → IsStep (label_node l)) → IsStep k → IsStep n
    otherwise_begins [] n k is labels step = node_begins n _ _ is refl
    otherwise_begins (Arm' (In ranges) _ body ∷ rest) n k is labels step = otherwise_begins rest n k is labels step
    otherwise_begins (Arm' Default _ body ∷ rest) n k is labels step = row_begins body n k is labels step
