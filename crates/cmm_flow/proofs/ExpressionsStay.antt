-- Code of expressions and conditions stays where more nodes are laid.
use Rattle.std.proofs.Common.{◌≡◌, ℕ, suc, Bool, true, false, List, [], ◌∷◌, ◌++◌}
use mathlib.Core.Former.{one_more}
use Rattle.cmm_program.specs.declared.expression.Expression.{Expression, Row_of-Expression, more_of-Expression}
use Rattle.cmm_program.specs.declared.expression.Expression.TheVariants.{Known, Variable, Register, Stackdata, Continuation, Load', Unary', Binary', SignExtend', ZeroExtend', LowBits'}
use Rattle.cmm_program.specs.declared.expression.Condition.{Condition, Row_of-Condition, more_of-Condition}
use Rattle.cmm_program.specs.declared.expression.Condition.TheVariants.{Compare, Not', Both', Either'}
use Rattle.cmm_graph.specs.declared.number.NodeId.{NodeId}
use Rattle.cmm_graph.specs.declared.operand.Destination.{Destination}
use Rattle.cmm_graph.specs.declared.node.Node.{Node}
use Rattle.cmm_graph.specs.declared.node.NodeKind.{NodeKind}
use Rattle.cmm_flow.specs.Operands.{is_plain}
use Rattle.cmm_flow.specs.Code.{to_temporary, IsNode, ValueCode, PartCode, SameCode, OperandCode, OperandsCode, ValuesCode, TestCode, TestPart}
use Rattle.cmm_flow.specs.inside.Parts.{PartsCode, PartsCodeIn, TwoCode}
use Rattle.cmm_flow.proofs.Laying.{get_before}

-- of two things by a test, the second is changed
abbrev pub Choice : Bool → Type 0 → Type 0 → Type 0
Choice b X Y = elim b [ true ↦ X | false ↦ Y ]

pub either : {Y Z : Type 0} (X : Type 0) (b : Bool) → (Y → Z) → Choice b X Y → Choice b X Z
either X true f x = x
either X false f y = f y

module _ (nodes more : List Node) where
  abbrev all : List Node
  all = nodes ++ more

  pub node_stays : (n : NodeId) (tokens : ℕ) (kind : NodeKind) → IsNode nodes n tokens kind → IsNode all n tokens kind
  node_stays n tokens kind is = get_before nodes more n.number _ is

  mutual
    pub value_stays : (e : Expression) (base : ℕ) (to : Destination) (n k : NodeId) → ValueCode nodes e base to n k → ValueCode all e base to n k
    value_stays (Known value) base to n k is = node_stays n _ _ is
    value_stays (Variable number width) base to n k is = node_stays n _ _ is
    value_stays (Register number width) base to n k is = node_stays n _ _ is
    value_stays (Stackdata number) base to n k is = node_stays n _ _ is
    value_stays (Continuation number) base to n k is = node_stays n _ _ is
    value_stays (Load' width aligned _ a) base to n k (m, part, is) = (m, part_stays a base n m part, node_stays m _ _ is)
    value_stays (Unary' op width _ a) base to n k (m, part, is) = (m, part_stays a base n m part, node_stays m _ _ is)
    value_stays (Binary' op width _ a _ b) base to n k (m, j, part, other, is) =
        (m, j, part_stays a base n m part, part_stays b (suc base) m j other, node_stays j _ _ is)
    value_stays (SignExtend' from to' _ a) base to n k (m, part, is) = (m, part_stays a base n m part, node_stays m _ _ is)
    value_stays (ZeroExtend' from to' _ a) base to n k is = same_stays a base to n k is
    value_stays (LowBits' from to' _ a) base to n k (m, part, is) = (m, part_stays a base n m part, node_stays m _ _ is)

    pub part_stays : {i : _} (row : Row_of-Expression (one_more i)) (base : ℕ) (n k : NodeId) → PartCode nodes row base n k → PartCode all row base n k
    part_stays (more_of-Expression a rest) base n k is = either (n ≡ k) (is_plain a) (value_stays a base (to_temporary base) n k) is

    pub same_stays : {i : _} (row : Row_of-Expression (one_more i)) (base : ℕ) (to : Destination) (n k : NodeId) →
        SameCode nodes row base to n k → SameCode all row base to n k
    same_stays (more_of-Expression a rest) base to n k is = value_stays a base to n k is

  pub operand_stays : (e : Expression) (base : ℕ) (n k : NodeId) → OperandCode nodes e base n k → OperandCode all e base n k
  operand_stays e base n k is = either (n ≡ k) (is_plain e) (value_stays e base (to_temporary base) n k) is

  pub operands_stay : (es : List Expression) (base : ℕ) (n k : NodeId) → OperandsCode nodes es base n k → OperandsCode all es base n k
  operands_stay [] base n k is = is
  operands_stay (e ∷ es) base n k (m, first, rest) = (m, operand_stays e base n m first, operands_stay es (suc base) m k rest)

  pub values_stay : (es : List Expression) (base : ℕ) (n k : NodeId) → ValuesCode nodes es base n k → ValuesCode all es base n k
  values_stay [] base n k is = is
  values_stay (e ∷ es) base n k (m, first, rest) = (m, value_stays e base (to_temporary base) n m first, values_stay es (suc base) m k rest)

  mutual
    pub parts_stay : (e : Expression) (base : ℕ) (n k : NodeId) → PartsCode nodes e base n k → PartsCode all e base n k
    parts_stay (Load' width aligned _ a) base n k is = part_stays a base n k is
    parts_stay (Unary' op width _ a) base n k is = part_stays a base n k is
    parts_stay (Binary' op width _ a _ b) base n k (m, first, rest) = (m, part_stays a base n m first, part_stays b (suc base) m k rest)
    parts_stay (SignExtend' from to _ a) base n k is = part_stays a base n k is
    parts_stay (ZeroExtend' from to _ a) base n k is = parts_in_stay a base n k is
    parts_stay (LowBits' from to _ a) base n k is = part_stays a base n k is
    parts_stay (Known value) base n k is = is
    parts_stay (Variable number width) base n k is = is
    parts_stay (Register number width) base n k is = is
    parts_stay (Stackdata number) base n k is = is
    parts_stay (Continuation number) base n k is = is

    pub parts_in_stay : {i : _} (row : Row_of-Expression (one_more i)) (base : ℕ) (n k : NodeId) →
        PartsCodeIn nodes row base n k → PartsCodeIn all row base n k
    parts_in_stay (more_of-Expression a rest) base n k is = parts_stay a base n k is

  mutual
    pub test_stays : (c : Condition) (n held failed : NodeId) → TestCode nodes c n held failed → TestCode all c n held failed
    test_stays (Compare operator width a b) n held failed (m, j, first, second, is) =
        (m, j, operand_stays a 0 n m first, operand_stays b 1 m j second, node_stays j _ _ is)
    test_stays (Not' _ a) n held failed is = test_part_stays a n failed held is
    test_stays (Both' _ a _ b) n held failed (m, first, rest) = (m, test_part_stays a n m failed first, test_part_stays b m held failed rest)
    test_stays (Either' _ a _ b) n held failed (m, first, rest) = (m, test_part_stays a n held m first, test_part_stays b m held failed rest)

    pub test_part_stays : {i : _} (row : Row_of-Condition (one_more i)) (n held failed : NodeId) →
        TestPart nodes row n held failed → TestPart all row n held failed
    test_part_stays (more_of-Condition a rest) n held failed is = test_stays a n held failed is

  pub two_stay : (a b : Expression) (n k : NodeId) → TwoCode nodes a b n k → TwoCode all a b n k
  two_stay a b n k (m, first, second) = (m, operand_stays a 0 n m first, operand_stays b 1 m k second)
