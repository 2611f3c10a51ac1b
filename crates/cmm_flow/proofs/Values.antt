-- The operands of an expression's outermost operator, and then the node that computes its value, are the code of the expression.
use Rattle.std.proofs.Common.{◌≡◌, ℕ, suc, List, ◌∷◌, slice_get, ap, ◌∙◌, sym, subst}
use mathlib.Core.Former.{one_more}
use Rattle.cmm_program.specs.declared.expression.Expression.{Expression, Row_of-Expression, more_of-Expression}
use Rattle.cmm_program.specs.declared.expression.Expression.TheVariants.{Known, Variable, Register, Stackdata, Continuation, Load', Unary', Binary', SignExtend', ZeroExtend', LowBits'}
use Rattle.cmm_graph.specs.declared.number.NodeId.{NodeId}
use Rattle.cmm_graph.specs.declared.node.Node.{Node}
use Rattle.cmm_words.specs.declared.operators.Cmp.{Cmp}
use Rattle.cmm_words.specs.declared.width.Width.{Width}
use Rattle.cmm_graph.specs.declared.operand.Operand.{Operand}
use Rattle.cmm_graph.specs.declared.node.NodeKind.TheVariants.{Assign, Branch}
use Rattle.cmm_flow.specs.Operands.{operand_of}
use Rattle.cmm_graph.specs.declared.operand.Destination.{Destination}
use Rattle.cmm_graph.specs.declared.operand.Rvalue.{Rvalue}
use Rattle.cmm_flow.specs.Code.{IsNode, ValueCode, SameCode, OperandCode, OperandsCode, CompareCode}
use Rattle.cmm_graph.specs.Covering.{least_for}
use Rattle.cmm_flow.specs.inside.Parts.{TwoCode, PartsCode, PartsCodeIn, rvalue_of, rvalue_in}

module _ (nodes : List Node) (base : ℕ) (to : Destination) (n m k : NodeId) where
  abbrev Computes : Rvalue → Type 0
  Computes value = IsNode nodes m (least_for value) (Assign to value k)

  -- where there are no operands, the first node is the last
  alone : (value : Rvalue) → n ≡ m → Computes value → IsNode nodes n (least_for value) (Assign to value k)
  alone value same is = ap (λ i. slice_get nodes i.number) same ∙ is

  mutual
    pub value_code : (e : Expression) → PartsCode nodes e base n m → Computes (rvalue_of base e) → ValueCode nodes e base to n k
    value_code (Known value) parts is = alone (rvalue_of base (Known value)) parts is
    value_code (Variable number width) parts is = alone (rvalue_of base (Variable number width)) parts is
    value_code (Register number width) parts is = alone (rvalue_of base (Register number width)) parts is
    value_code (Stackdata number) parts is = alone (rvalue_of base (Stackdata number)) parts is
    value_code (Continuation number) parts is = alone (rvalue_of base (Continuation number)) parts is
    value_code (Load' width aligned _ a) parts is = (m, parts, is)
    value_code (Unary' op width _ a) parts is = (m, parts, is)
    value_code (Binary' op width _ a _ b) (j, first, second) is = (j, m, first, second, is)
    value_code (SignExtend' from to' _ a) parts is = (m, parts, is)
    value_code (ZeroExtend' from to' _ a) parts is = same_code a parts is
    value_code (LowBits' from to' _ a) parts is = (m, parts, is)

    same_code : {i : _} (row : Row_of-Expression (one_more i)) → PartsCodeIn nodes row base n m → Computes (rvalue_in base row) → SameCode nodes row base to n k
    same_code (more_of-Expression a rest) parts is = value_code a parts is

module _ (nodes : List Node) where
  pub operand_at : {a b : Expression} {base other : ℕ} (n k : NodeId) → a ≡ b → base ≡ other → OperandCode nodes a base n k → OperandCode nodes b other n k
  operand_at {b = b} {base = base} n k same bases is =
      subst (λ o. OperandCode nodes b o n k) bases (subst (λ e. OperandCode nodes e base n k) same is)

  pub operands_cons : {es rest : List Expression} {e : Expression} {base next : ℕ} (n m k : NodeId) → es ≡ e ∷ rest → next ≡ suc base →
      OperandsCode nodes rest next m k → OperandCode nodes e base n m → OperandsCode nodes es base n k
  operands_cons {rest = rest} {e = e} {base = base} n m k same bases more first =
      subst (λ es. OperandsCode nodes es base n k) (sym same) (m, first, subst (λ o. OperandsCode nodes rest o m k) bases more)

  -- a comparison behind its two sides
  pub compare_code : (operator : Cmp) (width : Width) (a b : Expression) (l r : Operand) (n j held failed : NodeId) → l ≡ operand_of 0 a → r ≡ operand_of 1 b →
      IsNode nodes j 1 (Branch record { operator = operator; width = width; left = l; right = r } held failed) → TwoCode nodes a b n j →
      CompareCode nodes operator width a b n held failed
  compare_code operator width a b l r n j held failed left right is (m, first, second) = (m, j, first, second, cc)
