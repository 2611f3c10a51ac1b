-- What stands for an expression once its nodes are done, and how many nodes those are. Temporaries are used as a stack: the
-- nodes of an expression at a base write temporaries from that number on.
use Rattle.std.specs.Prelude.{ℕ, suc, ◌+◌, Bool, true, false, List, [], ◌∷◌}
use mathlib.Core.Former.{one_more}
use Rattle.cmm_program.specs.declared.expression.Expression.{Expression, Expression-F, Row_of-Expression, more_of-Expression}
use Rattle.cmm_program.specs.declared.expression.Expression.TheOpen as e
use Rattle.cmm_program.specs.declared.expression.Expression.TheVariants.{Register, Load', Unary', Binary', SignExtend', ZeroExtend', LowBits'}
use Rattle.cmm_program.specs.declared.expression.Condition.{Condition, Condition-F}
use Rattle.cmm_program.specs.declared.expression.Condition.TheOpen as c
use Rattle.cmm_program.specs.Folds.{fold_expression, fold_condition}
use Rattle.cmm_program.specs.Values.{width_of}
use Rattle.cmm_graph.specs.declared.operand.Local.TheVariants as local
use Rattle.cmm_graph.specs.declared.operand.Operand.{Operand}
use Rattle.cmm_graph.specs.declared.operand.Operand.TheVariants as operand
use Rattle.cmm_graph.specs.declared.operand.Argument.{Argument}
use Rattle.cmm_graph.specs.Covering.{access_tokens, operator_tokens}

-- ---- operands

abbrev pub temporary : ℕ → Operand
temporary n = operand.Local (local.Temporary record { number = n })

-- A constant, a variable and an address are operands themselves, and what is only a word of more bits is the operand that the
-- word is; the value of any other expression is in the temporary at the base.
abbrev pub operand_step : ℕ → Expression-F Operand → Operand
operand_step base (e.Known value) = operand.Constant value
operand_step base (e.Variable number width) = operand.Local (local.Variable record { number = number })
operand_step base (e.Stackdata number) = operand.Stackdata record { number = number }
operand_step base (e.Continuation number) = operand.Continuation record { number = number }
operand_step base (e.ZeroExtend from to a) = a
operand_step base _ = temporary base

abbrev pub operand_of : ℕ → Expression → Operand
operand_of base e = fold_expression (operand_step base) e

-- an operand stands behind a box, as the only element of a row
abbrev pub operand_in : {n : _} → ℕ → Row_of-Expression (one_more n) → Operand
operand_in base (more_of-Expression a rest) = operand_of base a

-- of several expressions each has a base of its own
abbrev pub operands_of : ℕ → List Expression → List Operand
operands_of base [] = []
operands_of base (e ∷ es) = operand_of base e ∷ operands_of (suc base) es

-- what is passed has its width
abbrev pub arguments_of : ℕ → List Expression → List Argument
arguments_of base [] = []
arguments_of base (e ∷ es) = record { width = width_of e; value = operand_of base e } ∷ arguments_of (suc base) es

-- whether an expression is an operand itself, with no node
abbrev pub plain_step : Expression-F Bool → Bool
plain_step (e.Known value) = true
plain_step (e.Variable number width) = true
plain_step (e.Stackdata number) = true
plain_step (e.Continuation number) = true
plain_step (e.ZeroExtend from to a) = a
plain_step _ = false

abbrev pub is_plain : Expression → Bool
is_plain e = fold_expression plain_step e

-- ---- counts of tokens

abbrev mutual
  -- Of the nodes of an expression: one for a register and each operator of one operand, and those of each word in memory and of each operator of two.
  pub nodes : Expression → ℕ
  nodes (Register number width) = 1
  nodes (Load' width aligned _ address) = nodes_in address + access_tokens width aligned
  nodes (Unary' op width _ a) = nodes_in a + 1
  nodes (Binary' op width _ a _ b) = nodes_in a + nodes_in b + operator_tokens width (operand_in 0 a) (operand_in 1 b)
  nodes (SignExtend' from to _ a) = nodes_in a + 1
  nodes (ZeroExtend' from to _ a) = nodes_in a
  nodes (LowBits' from to _ a) = nodes_in a + 1
  nodes _ = 0

  pub nodes_in : {n : _} → Row_of-Expression (one_more n) → ℕ
  nodes_in (more_of-Expression a rest) = nodes a

abbrev pub nodes_of_all : List Expression → ℕ
nodes_of_all [] = 0
nodes_of_all (e ∷ es) = nodes e + nodes_of_all es

-- a token for each comparison, and those of its sides
abbrev pub test_node_step : Condition-F ℕ → ℕ
test_node_step (c.Compare cmp width a b) = nodes a + nodes b + 1
test_node_step (c.Not a) = a
test_node_step (c.Both a b) = a + b
test_node_step (c.Either a b) = a + b

abbrev pub test_nodes : Condition → ℕ
test_nodes condition = fold_condition test_node_step condition
