-- Folds over expressions and conditions: a value for each, from the values of what it is made of. A definition over
-- them gives one step, by cases on `Expression-F` or `Condition-F`, where each operand stands as its value.
use mathlib.Core.Former.{one_more}
use Rattle.cmm_program.specs.declared.expression.Expression.{Expression, Expression-F, Row_of-Expression, more_of-Expression}
use Rattle.cmm_program.specs.declared.expression.Expression.TheVariants.{Known, Variable, Register, Stackdata, Continuation, Load', Unary', Binary', SignExtend', ZeroExtend', LowBits'}
use Rattle.cmm_program.specs.declared.expression.Expression.TheOpen as e
use Rattle.cmm_program.specs.declared.expression.Condition.{Condition, Condition-F, Row_of-Condition, more_of-Condition}
use Rattle.cmm_program.specs.declared.expression.Condition.TheVariants.{Compare, Not', Both', Either'}
use Rattle.cmm_program.specs.declared.expression.Condition.TheOpen as c

abbrev mutual
  pub fold_expression : {A : Type 0} → (Expression-F A → A) → Expression → A
  fold_expression step (Known value) = step (e.Known value)
  fold_expression step (Variable number width) = step (e.Variable number width)
  fold_expression step (Register number width) = step (e.Register number width)
  fold_expression step (Stackdata number) = step (e.Stackdata number)
  fold_expression step (Continuation number) = step (e.Continuation number)
  fold_expression step (Load' width aligned _ address) = step (e.Load width aligned (fold_operand step address))
  fold_expression step (Unary' op width _ a) = step (e.Unary op width (fold_operand step a))
  fold_expression step (Binary' op width _ a _ b) = step (e.Binary op width (fold_operand step a) (fold_operand step b))
  fold_expression step (SignExtend' from to _ a) = step (e.SignExtend from to (fold_operand step a))
  fold_expression step (ZeroExtend' from to _ a) = step (e.ZeroExtend from to (fold_operand step a))
  fold_expression step (LowBits' from to _ a) = step (e.LowBits from to (fold_operand step a))

  -- an operand stands behind a box, as the only element of a row
  pub fold_operand : {A : Type 0} {n : _} → (Expression-F A → A) → Row_of-Expression (one_more n) → A
  fold_operand step (more_of-Expression a rest) = fold_expression step a

abbrev mutual
  pub fold_condition : {A : Type 0} → (Condition-F A → A) → Condition → A
  fold_condition step (Compare cmp width a b) = step (c.Compare cmp width a b)
  fold_condition step (Not' _ a) = step (c.Not (fold_part step a))
  fold_condition step (Both' _ a _ b) = step (c.Both (fold_part step a) (fold_part step b))
  fold_condition step (Either' _ a _ b) = step (c.Either (fold_part step a) (fold_part step b))

  pub fold_part : {A : Type 0} {n : _} → (Condition-F A → A) → Row_of-Condition (one_more n) → A
  fold_part step (more_of-Condition a rest) = fold_condition step a
