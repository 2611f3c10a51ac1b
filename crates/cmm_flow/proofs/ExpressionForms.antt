-- One law for each form of expression: what its code is in terms of its parts.
use Rattle.std.proofs.Common.{◌≡◌, ℕ, suc, ◌+◌, nat_lt, Bool, true, false, List, refl, arith}
use denote.Hole.Carrier as Carrier
use Rattle.cmm_words.specs.declared.operators.Op1.{Op1}
use Rattle.cmm_words.specs.declared.operators.Op2.{Op2}
use Rattle.cmm_words.specs.declared.width.Width.{Width}
use Rattle.cmm_words.specs.Widths.{bytes}
use Rattle.cmm_program.specs.declared.expression.Expression.{Expression}
use Rattle.cmm_program.specs.declared.expression.Expression.TheBlock as Expressions
use Rattle.cmm_program.specs.declared.expression.Expression.TheVariants as e
use Rattle.cmm_program.specs.declared.expression.Condition.{Condition}
use Rattle.cmm_program.specs.declared.expression.Condition.TheBlock as Conditions
use Rattle.cmm_program.specs.declared.expression.Condition.TheVariants as c
use Rattle.cmm_graph.specs.declared.number.NodeId.{NodeId}
use Rattle.cmm_graph.specs.declared.node.Node.{Node}
use Rattle.cmm_graph.specs.declared.operand.Operand.{Operand}
use Rattle.cmm_graph.specs.declared.operand.Rvalue.TheVariants as rvalue
use Rattle.cmm_graph.specs.Covering.{access_tokens, operator_tokens}
use Rattle.cmm_flow.specs.Operands.{operand_of, is_plain, nodes}
use Rattle.cmm_flow.specs.Code.{OperandCode, TestCode}
use Rattle.cmm_flow.specs.inside.Counts.{capped}
use Rattle.cmm_flow.specs.inside.Parts.{PartsCode, rvalue_of}
use Rattle.cmm_flow.proofs.Operands.{operator_most}

-- ---- word extended by zeros: the same as its operand

pub plain_of_extended : (from to : Width) (a : Expression) → is_plain (e.ZeroExtend from to a) ≡ is_plain a
unfolding Expressions.hidden-the_row-Expression-0 Carrier.hidden
plain_of_extended from to a = refl

pub operand_of_extended : (base : ℕ) (from to : Width) (a : Expression) → operand_of base (e.ZeroExtend from to a) ≡ operand_of base a
unfolding Expressions.hidden-the_row-Expression-0 Carrier.hidden
operand_of_extended base from to a = refl

pub rvalue_of_zero_extend : (base : ℕ) (from to : Width) (a : Expression) → rvalue_of base (e.ZeroExtend from to a) ≡ rvalue_of base a
unfolding Expressions.hidden-the_row-Expression-0 Carrier.hidden
rvalue_of_zero_extend base from to a = refl

-- ---- the parts of each operator

module _ (nodes_there : List Node) (base : ℕ) (n k : NodeId) where
  pub parts_of_load : (width : Width) (aligned : ℕ) (a : Expression) → OperandCode nodes_there a base n k → PartsCode nodes_there (e.Load width aligned a) base n k
  unfolding Expressions.hidden-the_row-Expression-0 Carrier.hidden
  parts_of_load width aligned a is = is

  pub parts_of_unary : (op : Op1) (width : Width) (a : Expression) → OperandCode nodes_there a base n k → PartsCode nodes_there (e.Unary op width a) base n k
  unfolding Expressions.hidden-the_row-Expression-0 Carrier.hidden
  parts_of_unary op width a is = is

  pub parts_of_binary : (op : Op2) (width : Width) (a b : Expression) (m : NodeId) → OperandCode nodes_there a base n m → OperandCode nodes_there b (suc base) m k →
      PartsCode nodes_there (e.Binary op width a b) base n k
  unfolding Expressions.hidden-the_row-Expression-0 Carrier.hidden
  parts_of_binary op width a b m first second = (m, first, second)

  pub parts_of_sign_extend : (from to : Width) (a : Expression) → OperandCode nodes_there a base n k → PartsCode nodes_there (e.SignExtend from to a) base n k
  unfolding Expressions.hidden-the_row-Expression-0 Carrier.hidden
  parts_of_sign_extend from to a is = is

  pub parts_of_low_bits : (from to : Width) (a : Expression) → OperandCode nodes_there a base n k → PartsCode nodes_there (e.LowBits from to a) base n k
  unfolding Expressions.hidden-the_row-Expression-0 Carrier.hidden
  parts_of_low_bits from to a is = is

  pub parts_of_zero_extend : (from to : Width) (a : Expression) → PartsCode nodes_there a base n k → PartsCode nodes_there (e.ZeroExtend from to a) base n k
  unfolding Expressions.hidden-the_row-Expression-0 Carrier.hidden
  parts_of_zero_extend from to a is = is

-- ---- the outermost operator over its operands

module _ (base : ℕ) where
  pub rvalue_of_load : (width : Width) (aligned : ℕ) (a : Expression) → rvalue_of base (e.Load width aligned a) ≡ rvalue.Load width aligned (operand_of base a)
  unfolding Expressions.hidden-the_row-Expression-0 Carrier.hidden
  rvalue_of_load width aligned a = refl

  pub rvalue_of_unary : (op : Op1) (width : Width) (a : Expression) → rvalue_of base (e.Unary op width a) ≡ rvalue.Unary op width (operand_of base a)
  unfolding Expressions.hidden-the_row-Expression-0 Carrier.hidden
  rvalue_of_unary op width a = refl

  pub rvalue_of_binary : (op : Op2) (width : Width) (a b : Expression) →
      rvalue_of base (e.Binary op width a b) ≡ rvalue.Binary op width (operand_of base a) (operand_of (suc base) b)
  unfolding Expressions.hidden-the_row-Expression-0 Carrier.hidden
  rvalue_of_binary op width a b = refl

  pub rvalue_of_sign_extend : (from to : Width) (a : Expression) → rvalue_of base (e.SignExtend from to a) ≡ rvalue.SignExtend from to (operand_of base a)
  unfolding Expressions.hidden-the_row-Expression-0 Carrier.hidden
  rvalue_of_sign_extend from to a = refl

  pub rvalue_of_low_bits : (from to : Width) (a : Expression) → rvalue_of base (e.LowBits from to a) ≡ rvalue.LowBits from to (operand_of base a)
  unfolding Expressions.hidden-the_row-Expression-0 Carrier.hidden
  rvalue_of_low_bits from to a = refl

-- ---- conditions

module _ (nodes_there : List Node) (n held failed : NodeId) where
  pub test_of_not : (a : Condition) → TestCode nodes_there a n failed held → TestCode nodes_there (c.Not a) n held failed
  unfolding Conditions.hidden-the_row-Condition-0 Carrier.hidden
  test_of_not a is = is

  pub test_of_both : (a b : Condition) (m : NodeId) → TestCode nodes_there b m held failed → TestCode nodes_there a n m failed →
      TestCode nodes_there (c.Both a b) n held failed
  unfolding Conditions.hidden-the_row-Condition-0 Carrier.hidden
  test_of_both a b m second first = (m, first, second)

  pub test_of_either : (a b : Condition) (m : NodeId) → TestCode nodes_there b m held failed → TestCode nodes_there a n held m →
      TestCode nodes_there (c.Either a b) n held failed
  unfolding Conditions.hidden-the_row-Condition-0 Carrier.hidden
  test_of_either a b m second first = (m, first, second)

-- ---- counts of nodes

pub nodes_of_load : (width : Width) (aligned : ℕ) (a : Expression) → nodes (e.Load width aligned a) ≡ nodes a + access_tokens width aligned
unfolding Expressions.hidden-the_row-Expression-0 Carrier.hidden
nodes_of_load width aligned a = refl

pub nodes_of_unary : (op : Op1) (width : Width) (a : Expression) → nodes (e.Unary op width a) ≡ nodes a + 1
unfolding Expressions.hidden-the_row-Expression-0 Carrier.hidden
nodes_of_unary op width a = refl

pub nodes_of_binary : (op : Op2) (width : Width) (a b : Expression) → nodes (e.Binary op width a b) ≡ nodes a + nodes b + operator_tokens width (operand_of 0 a) (operand_of 1 b)
unfolding Expressions.hidden-the_row-Expression-0 Carrier.hidden
nodes_of_binary op width a b = refl

pub nodes_of_sign_extend : (from to : Width) (a : Expression) → nodes (e.SignExtend from to a) ≡ nodes a + 1
unfolding Expressions.hidden-the_row-Expression-0 Carrier.hidden
nodes_of_sign_extend from to a = refl

pub nodes_of_zero_extend : (from to : Width) (a : Expression) → nodes (e.ZeroExtend from to a) ≡ nodes a
unfolding Expressions.hidden-the_row-Expression-0 Carrier.hidden
nodes_of_zero_extend from to a = refl

pub nodes_of_low_bits : (from to : Width) (a : Expression) → nodes (e.LowBits from to a) ≡ nodes a + 1
unfolding Expressions.hidden-the_row-Expression-0 Carrier.hidden
nodes_of_low_bits from to a = refl

pub access_capped : (width : Width) (aligned : ℕ) → access_tokens width aligned ≡ capped (access_tokens width aligned)
access_capped width aligned = by (nat_lt aligned (bytes width)) where
  by : (b : Bool) → elim b as (λ _. ℕ) [ true ↦ 2 | false ↦ 0 ] + 1 ≡ capped (elim b as (λ _. ℕ) [ true ↦ 2 | false ↦ 0 ] + 1)
  by true = refl
  by false = refl

pub operator_capped : (width : Width) (a b : Operand) → operator_tokens width a b ≡ capped (operator_tokens width a b)
operator_capped width a b = omega (arith, operator_most width a b)
