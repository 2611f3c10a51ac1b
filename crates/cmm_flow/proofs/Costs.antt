-- A passage through the code of a statement costs no more than the statement has tokens.
use Rattle.std.proofs.Common.{ℕ, zero, suc, ◌+◌, ◌≤◌, min, nat_le, nat_lt, Bool, true, false, Option, Some, None, List, [], ◌∷◌, length, slice_get, arith}
use Rattle.std.proofs.lemmas.List.Sums.{sum_by-cons}
use Rattle.std.specs.Prelude.{sum_by}
use Rattle.cmm_words.specs.declared.width.Width.{Width}
use Rattle.cmm_words.specs.Widths.{bytes}
use Rattle.cmm_program.specs.declared.expression.Expression.{Expression, Row_of-Expression, more_of-Expression}
use Rattle.cmm_program.specs.declared.expression.Expression.TheVariants.{Known, Variable, Register, Stackdata, Continuation, Load', Unary', Binary', SignExtend', ZeroExtend', LowBits'}
use Rattle.cmm_program.specs.declared.expression.Condition.{Condition, Row_of-Condition, more_of-Condition}
use Rattle.cmm_program.specs.declared.expression.Condition.TheVariants.{Compare, Not', Both', Either'}
use Rattle.cmm_program.specs.declared.procedure.Proc.{Proc}
use Rattle.cmm_program.specs.declared.statement.Form.{Form}
use Rattle.cmm_program.specs.declared.statement.Form.TheVariants as form
use Rattle.cmm_program.specs.declared.statement.Lvalue.{Lvalue}
use Rattle.cmm_program.specs.declared.statement.Lvalue.TheVariants as lvalue
use Rattle.cmm_program.specs.ExpressionTokens.{Shortest, alone, at_level, binary, compare_tokens, condition_tokens, expression_tokens, known_tokens, sign_level, test_token_step, token_step, two}
use Rattle.cmm_program.specs.Folds.{fold_operand, fold_part}
use Rattle.cmm_program.specs.Tokens.{bracketed, lvalue_tokens, own_tokens, with_commas}
use Rattle.cmm_words.specs.declared.constant.Constant.{Constant}
use Rattle.cmm_words.specs.declared.constant.Constant.TheVariants.{Number, Code, Address}
use Rattle.cmm_words.specs.declared.operators.Cmp.{Cmp}
use Rattle.cmm_words.specs.declared.operators.Cmp.TheVariants.{Lt, Le, Gt, Ge}
use mathlib.Core.Former.{one_more}
use Rattle.cmm_graph.specs.Covering.{extra_tokens}
use Rattle.cmm_flow.specs.Operands.{nodes, nodes_in, nodes_of_all, operand_in, operand_of, test_node_step, test_nodes}
use Rattle.cmm_flow.specs.Statements.{normal_tokens, operator_nodes, remaining}
use Rattle.cmm_flow.proofs.Assigning.{addresses_cost, assign_cost, stores_cost, values_cost}
use Rattle.cmm_flow.proofs.Forms.{form_cost}
use Rattle.cmm_flow.proofs.Operands.{inner, inner_in, operand_nodes, operator_spare, spare}

-- ---- expressions

-- brackets only add tokens
level_least : (level tokens asked : ℕ) → tokens ≤ at_level level tokens asked
level_least level tokens asked = by (nat_le asked level) where
  by : (b : Bool) → tokens ≤ elim b [ true ↦ tokens | false ↦ 2 + tokens ]
  by true = omega arith
  by false = omega arith

known_least : (c : Constant) (asked : ℕ) → 1 ≤ known_tokens c asked
known_least (Number n width) asked = omega arith
known_least (Code proc zero) asked = omega arith
known_least (Code proc (suc plus)) asked = omega (arith, level_least 5 3 asked)
known_least (Address label zero) asked = omega arith
known_least (Address label (suc plus)) asked = omega (arith, level_least 5 3 asked)

binary_least : (o : Option ℕ) (a b : Shortest) (asked x y : ℕ) → ((n : ℕ) → x ≤ a n) → ((n : ℕ) → y ≤ b n) → x + y + 1 ≤ binary o a b asked
binary_least None a b asked x y first second = omega (arith, first alone, second alone, level_least 7 (3 + two a b) asked)
binary_least (Some level) a b asked x y first second =
    omega (arith, first alone, second alone, first level, second (suc level), level_least 7 (3 + two a b) asked, level_least level (a level + 1 + b (suc level)) asked)

-- a word in memory has the tokens that its node has more
extra_least : (width : Width) (aligned : ℕ) → extra_tokens width aligned ≤ 2
extra_least width aligned = by (nat_lt aligned (bytes width)) where
  by : (b : Bool) → elim b as (λ _. ℕ) [ true ↦ 2 | false ↦ 0 ] ≤ 2
  by true = omega arith
  by false = omega arith

mutual
  -- the value of an expression has at most as many nodes as the expression tokens
  pub value_counted : (e : Expression) (asked : ℕ) → inner e + 1 ≤ expression_tokens asked e
  value_counted (Known value) asked = omega (arith, known_least value asked)
  value_counted (Variable number width) asked = omega arith
  value_counted (Register number width) asked = omega arith
  value_counted (Stackdata number) asked = omega arith
  value_counted (Continuation number) asked = omega arith
  value_counted (Load' width aligned _ address) asked = omega (arith, part_counted 0 address alone, extra_least width aligned)
  value_counted (Unary' op width _ a) asked =
      omega (arith, part_counted 0 a 7, part_counted 0 a alone, level_least 7 (min (1 + fold_operand token_step a 7) (3 + fold_operand token_step a alone)) asked)
  value_counted (Binary' op width _ a _ b) asked =
      let extra = operator_spare width (operand_in 0 a) (operand_in 1 b) in
      let least = binary_least (sign_level op) (fold_operand token_step a) (fold_operand token_step b) asked (nodes_in a + spare (operand_in 0 a))
      (nodes_in b + spare (operand_in 1 b)) (part_counted 0 a) (part_counted 1 b) in
      omega (arith, extra, least)
  value_counted (SignExtend' from to _ a) asked = omega (arith, part_counted 0 a alone, level_least 7 (3 + fold_operand token_step a alone) asked)
  value_counted (ZeroExtend' from to _ a) asked = omega (arith, same_counted a alone, level_least 7 (3 + fold_operand token_step a alone) asked)
  value_counted (LowBits' from to _ a) asked = omega (arith, part_counted 0 a alone, level_least 7 (3 + fold_operand token_step a alone) asked)

  part_counted : {n : _} (base : ℕ) (a : Row_of-Expression (one_more n)) (asked : ℕ) → nodes_in a + spare (operand_in base a) ≤ fold_operand token_step a asked
  part_counted base (more_of-Expression a rest) asked = omega (arith, value_counted a asked, operand_nodes base a)

  same_counted : {n : _} (a : Row_of-Expression (one_more n)) (asked : ℕ) → inner_in a + 1 ≤ fold_operand token_step a asked
  same_counted (more_of-Expression a rest) asked = value_counted a asked

pub operand_counted : (e : Expression) (asked : ℕ) → nodes e ≤ expression_tokens asked e
operand_counted e asked = omega (arith, value_counted e asked, operand_nodes 0 e)

-- ---- conditions

compare_least : (op : Cmp) (a b : Expression) → nodes a + nodes b + 1 ≤ compare_tokens op a b
compare_least Lt a b = omega (arith, operand_counted a alone, operand_counted b alone)
compare_least Le a b = omega (arith, operand_counted a alone, operand_counted b alone)
compare_least Gt a b = omega (arith, operand_counted a alone, operand_counted b alone)
compare_least Ge a b = omega (arith, operand_counted a alone, operand_counted b alone)
compare_least op a b = omega (arith, operand_counted a 1, operand_counted b 1)

mutual
  pub test_counted : (c : Condition) → test_nodes c ≤ condition_tokens c
  test_counted (Compare op width a b) = compare_least op a b
  test_counted (Not' _ a) = omega (arith, test_part a)
  test_counted (Both' _ a _ b) = omega (arith, test_part a, test_part b)
  test_counted (Either' _ a _ b) = omega (arith, test_part a, test_part b)

  test_part : {n : _} (a : Row_of-Condition (one_more n)) → fold_part test_node_step a ≤ fold_part test_token_step a
  test_part (more_of-Condition a rest) = test_counted a

-- ---- lists

pub commas_least : {A : Type 0} (size : A → ℕ) (list : List A) → sum_by size list ≤ with_commas size list
commas_least size [] = omega arith
commas_least size (a ∷ more) = omega arith

pub values_least : (es : List Expression) → values_cost es ≤ sum_by (expression_tokens alone) es
values_least [] = omega arith
values_least (e ∷ es) = omega (arith, sum_by-cons (expression_tokens alone) e es, value_counted e alone, values_least es)

pub operands_least : (es : List Expression) → nodes_of_all es ≤ sum_by (expression_tokens alone) es
operands_least [] = omega arith
operands_least (e ∷ es) = omega (arith, sum_by-cons (expression_tokens alone) e es, operand_counted e alone, operands_least es)

pub addresses_least : (ls : List Lvalue) → addresses_cost ls + stores_cost ls ≤ sum_by lvalue_tokens ls
addresses_least [] = omega arith
addresses_least (lvalue.Target target ∷ ls) = omega (arith, sum_by-cons lvalue_tokens (lvalue.Target target) ls, addresses_least ls)
addresses_least (lvalue.Memory width aligned address ∷ ls) =
    omega (arith, sum_by-cons lvalue_tokens (lvalue.Memory width aligned address) ls, value_counted address alone, extra_least width aligned, addresses_least ls)

pub brackets_least : (es : List Expression) → nodes_of_all es + 2 ≤ bracketed es
brackets_least es = omega (arith, operands_least es, commas_least (expression_tokens alone) es)

pub brackets_more : (es : List Expression) → nodes_of_all es + length es + 1 ≤ bracketed es
brackets_more [] = omega arith
brackets_more (e ∷ es) = omega (arith, operands_least (e ∷ es))

-- an operator of two operands, which stand in brackets
pub two_least : (width : Width) (a b : Expression) → operator_nodes width a b + 2 ≤ bracketed (a ∷ b ∷ [])
two_least width a b =
    omega (
      arith,
      operator_spare width (operand_of 0 a) (operand_of 1 b),
      operand_nodes 0 a,
      operand_nodes 1 b,
      value_counted a alone,
      value_counted b alone,
      sum_by-cons (expression_tokens alone) a (b ∷ []),
      sum_by-cons (expression_tokens alone) b [],
    )

-- ---- statements

pub several_least : (to : List Lvalue) (es : List Expression) →
    addresses_cost to + values_cost es + stores_cost to ≤ 2 + with_commas lvalue_tokens to + with_commas (expression_tokens alone) es
several_least to es =
    omega (arith, addresses_least to, values_least es, commas_least lvalue_tokens to, commas_least (expression_tokens alone) es)

pub assign_least : (to : List Lvalue) (es : List Expression) → assign_cost to es ≤ 2 + with_commas lvalue_tokens to + with_commas (expression_tokens alone) es
assign_least to [] = omega arith
assign_least (lvalue.Target target ∷ []) (e ∷ []) = omega (arith, several_least (lvalue.Target target ∷ []) (e ∷ []))
assign_least (lvalue.Memory width aligned address ∷ []) (e ∷ []) =
    omega (arith, several_least (lvalue.Memory width aligned address ∷ []) (e ∷ []), operand_nodes 0 address, operand_nodes 1 e)
assign_least (l ∷ m ∷ ls) (e ∷ es) = several_least (l ∷ m ∷ ls) (e ∷ es)
assign_least to (e ∷ es) = several_least to (e ∷ es)

-- the last node has what the others leave
last_counted : (tokens used more : ℕ) → used + 1 ≤ tokens → used + remaining tokens (used + more) ≤ tokens
last_counted tokens used more enough = omega arith

pub form_counted : (q : Proc) (tokens : ℕ) (form : Form) → own_tokens q form ≤ tokens → form_cost q tokens form ≤ tokens
form_counted q tokens form.Empty own = omega arith
form_counted q tokens (form.If' condition _ then_ _ otherwise) own = omega (arith, test_counted condition)
form_counted q tokens (form.Switch' value _ arms) own =
    omega (arith, operand_counted value alone, last_counted tokens (nodes value) 0)
form_counted q tokens (form.Span' _ body) own = omega arith
form_counted q tokens (form.Assign to values) own = omega (arith, assign_least to values)
form_counted q tokens (form.Call site callee actuals) own =
    last_counted tokens (nodes callee + nodes_of_all actuals) (normal_tokens (slice_get q.sites site))
    (omega (arith, operand_counted callee 8, brackets_least actuals))
form_counted q tokens (form.Yield site values) own =
    last_counted tokens (nodes_of_all values) (normal_tokens (slice_get q.sites site)) (omega (arith, brackets_least values))
form_counted q tokens (form.Checked site op width left right) own =
    let used = operator_nodes width left right in
    let enough : used + 2 ≤ tokens = omega (arith, two_least width left right) in
    omega (arith, last_counted tokens (used + 1) (normal_tokens (slice_get q.sites site)))
form_counted q tokens (form.PutByte value) own = omega (arith, brackets_least (value ∷ []))
form_counted q tokens (form.GetByte target) own = omega arith
form_counted q tokens (form.Jump callee actuals) own =
    omega (arith, last_counted tokens (nodes callee + nodes_of_all actuals) 0, operand_counted callee 8, brackets_least actuals)
form_counted q tokens (form.Return exit alternates []) own = omega arith
form_counted q tokens (form.Return exit alternates (e ∷ es)) own =
    omega (arith, last_counted tokens (nodes_of_all (e ∷ es)) 0, brackets_least (e ∷ es))
form_counted q tokens (form.Label l) own = omega arith
form_counted q tokens (form.Goto l) own = omega arith
form_counted q tokens (form.Continuation k) own = omega arith
form_counted q tokens (form.Cut to values own_) own =
    omega (arith, last_counted tokens (nodes to + nodes_of_all values) 0, operand_counted to 8, brackets_least values)
