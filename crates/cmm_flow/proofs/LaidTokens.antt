-- The tokens of what is laid for statements with what they hold, from those of their parts.
use Rattle.std.proofs.Common.{◌≡◌, ℕ, ◌+◌, ◌++◌, List, [], ◌∷◌, true, refl, sym, ap, ◌∙◌, arith}
use Rattle.std.proofs.lemmas.List.Sums.{sum_by-append, sum_by-cons}
use Rattle.std.specs.Prelude.{sum_by}
use denote.Hole.Carrier as Carrier
use mathlib.Core.Former.{Count}
use Rattle.cmm_program.specs.declared.expression.Condition.{Condition}
use Rattle.cmm_program.specs.declared.expression.Expression.{Expression}
use Rattle.cmm_program.specs.declared.procedure.Proc.{Proc}
use Rattle.cmm_program.specs.declared.statement.Arm.{Arm, Arm', out-Arm, Row_of-Statement, end_of-Statement, more_of-Statement}
use Rattle.cmm_program.specs.declared.statement.Form.{Form, Row_of-Arm, end_of-Arm, more_of-Arm, items-the_row-Arm, items_hidden-the_row-Arm-1}
use Rattle.cmm_program.specs.declared.statement.Form.TheBlock.{hidden-the_row-Statement-0, hidden-the_row-Arm-1}
use Rattle.cmm_program.specs.declared.statement.Form.TheVariants as form
use Rattle.cmm_program.specs.declared.statement.Form.TheVariants.{If, Switch, Span}
use Rattle.cmm_program.specs.declared.statement.Range.{Range}
use Rattle.cmm_program.specs.declared.statement.Statement.{Statement}
use Rattle.cmm_program.specs.Bodies.{statements, within, within_arms, within_block}
use Rattle.cmm_flow.specs.Flow.{all_tokens}
use Rattle.cmm_flow.specs.inside.Blocks.{is_simple}
use Rattle.cmm_flow.specs.inside.LayingBlocks.{arm_tokens, block_tokens, form_tokens, laid_tokens}
use Rattle.cmm_flow.specs.inside.Nodes.{nodes_of_operand, nodes_of_switch, switch_node}
use Rattle.cmm_flow.proofs.Blocks.{shown_statements}
use Rattle.cmm_flow.proofs.Counting.{row_statements}
use Rattle.cmm_flow.proofs.Laying.{tokens-append}

module _ (q : Proc) where
  abbrev sum_of : List Statement → ℕ
  sum_of ss = sum_by (laid_tokens q) ss

  row_tokens : {i : _} (row : Row_of-Statement i) → sum_of (within_block row) ≡ block_tokens q (statements row)
  row_tokens end_of-Statement = refl
  row_tokens (more_of-Statement tokens form rest) =
      let s : Statement = record { tokens = tokens; form = form } in
      omega (
        arith,
        sum_by-cons (laid_tokens q) s (within form ++ within_block rest),
        sum_by-append (laid_tokens q) (within form) (within_block rest),
        sum_by-cons (λ (s : Statement). form_tokens q s.tokens s.form) s (statements rest),
        row_tokens rest,
      )

  block_row : (xs : List Statement) → sum_of (within_block (hidden-the_row-Statement-0 xs)) ≡ block_tokens q xs
  block_row xs = row_tokens (hidden-the_row-Statement-0 xs) ∙ ap (block_tokens q) (row_statements xs)

  pub span_tokens : (body : List Statement) → sum_of (within (Span body)) ≡ block_tokens q body
  unfolding hidden-the_row-Statement-0 Carrier.hidden
  span_tokens body = block_row body

  pub if_tokens : (condition : Condition) (then_ otherwise : List Statement) → sum_of (within (If condition then_ otherwise)) ≡ block_tokens q then_ + block_tokens q otherwise
  unfolding hidden-the_row-Statement-0 Carrier.hidden
  if_tokens condition then_ otherwise =
      sum_by-append (laid_tokens q) (within_block (hidden-the_row-Statement-0 then_)) (within_block (hidden-the_row-Statement-0 otherwise))
      ∙ ap (λ n. n + sum_of (within_block (hidden-the_row-Statement-0 otherwise))) (block_row then_) ∙ ap (λ n. block_tokens q then_ + n) (block_row otherwise)

  arms_row : (i : Count) (row : Row_of-Arm i) → sum_of (within_arms row) ≡ arm_tokens q (items-the_row-Arm i row)
  unfolding out-Arm Carrier.out
  arms_row i end_of-Arm = refl
  arms_row i (more_of-Arm (Arm' case x body) rest) =
      sum_by-append (laid_tokens q) (within_block body) (within_arms rest)
      ∙ ap (λ n. n + sum_of (within_arms rest)) (row_tokens body ∙ ap (block_tokens q) (sym (shown_statements x body)))
      ∙ ap (λ n. block_tokens q (out-Arm (Arm' case x body)).body + n) (arms_row _ rest)
      ∙ sym (sum_by-cons (λ (arm : Arm). block_tokens q (out-Arm arm).body) (Arm' case x body) (items-the_row-Arm _ rest))

  pub switch_tokens : (value : Expression) (arms : List Arm) → sum_of (within (Switch value arms)) ≡ arm_tokens q arms
  unfolding hidden-the_row-Arm-1 Carrier.hidden
  switch_tokens value arms = arms_row _ (hidden-the_row-Arm-1 arms) ∙ ap (arm_tokens q) (items_hidden-the_row-Arm-1 arms)

-- a switch has as many tokens whatever its ranges are
pub switch_same : (tokens : ℕ) (value : Expression) (rs ss : List Range) → all_tokens (nodes_of_switch tokens value rs) ≡ all_tokens (nodes_of_switch tokens value ss)
switch_same tokens value rs ss =
    tokens-append (nodes_of_operand 0 value) (switch_node tokens value rs ∷ []) ∙ sym (tokens-append (nodes_of_operand 0 value) (switch_node tokens value ss ∷ []))

-- a statement without blocks holds none
pub simple_within : (f : Form) → is_simple f ≡ true → within f ≡ []
simple_within (form.Assign to values) is = refl
simple_within (form.Call site callee actuals) is = refl
simple_within (form.Yield site values) is = refl
simple_within (form.Checked site op width left right) is = refl
simple_within (form.PutByte value) is = refl
simple_within (form.GetByte target) is = refl
simple_within (form.Jump callee actuals) is = refl
simple_within (form.Return exit alternates values) is = refl
simple_within (form.Cut to values own) is = refl
simple_within f is = grind (arith, is)
