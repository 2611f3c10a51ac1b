-- Blocks and arms as lists: their code, and what follows marks in them.
use Rattle.std.proofs.Common.{◌≡◌, ℕ, true, false, Option, Some, List, ◌∷◌, ◌++◌, refl, sym, ap, ◌∙◌, subst}
use denote.Hole.Carrier as Carrier
use mathlib.Core.Former.{Count}
use Rattle.cmm_program.specs.declared.expression.Condition.{Condition}
use Rattle.cmm_program.specs.declared.expression.Expression.{Expression}
use Rattle.cmm_program.specs.declared.procedure.Proc.{Proc}
use Rattle.cmm_program.specs.declared.statement.Arm.{Arm, Arm', Row_of-Statement, end_of-Statement, more_of-Statement, out-Arm}
use Rattle.cmm_program.specs.declared.statement.Arm.{items_shown-the_row-Statement-0}
use Rattle.cmm_program.specs.declared.statement.Case.TheVariants.{In, Default}
use Rattle.cmm_program.specs.declared.statement.Form.{Row_of-Arm, end_of-Arm, more_of-Arm, items-the_row-Arm, items_hidden-the_row-Arm-1}
use Rattle.cmm_program.specs.declared.statement.Form.TheBlock.{hidden-the_row-Statement-0, hidden-the_row-Arm-1, shown-the_row-Statement-0}
use Rattle.cmm_program.specs.declared.statement.Form.TheVariants as form
use Rattle.cmm_program.specs.declared.statement.Statement.{Statement}
use Rattle.cmm_program.specs.Bodies.{Mark, AtContinuation, AtLabel, AtSite, after_in, after_in_arms, after_inside, branches, first_of_two, is_mark, outward, statements}
use Rattle.cmm_program.specs.InRange.{all_ranges}
use Rattle.cmm_graph.specs.declared.node.Arm.{Arm as Way}
use Rattle.cmm_graph.specs.declared.node.Node.{Node}
use Rattle.cmm_graph.specs.declared.node.NodeKind.TheVariants as node
use Rattle.cmm_graph.specs.declared.number.NodeId.{NodeId}
use Rattle.cmm_flow.specs.Code.{IsNode, OperandCode, TestCode}
use Rattle.cmm_flow.specs.Operands.{nodes, operand_of}
use Rattle.cmm_flow.specs.Statements.{ArmsCode, DefaultCode, FormCode, RowCode, remaining}
use Rattle.cmm_flow.specs.inside.Marks.{FrontCode, OtherwiseCode, PutsArm, WaysCode, after_arms, after_list}
use Rattle.cmm_flow.specs.inside.Nodes.{ranges_of}
use Rattle.cmm_flow.proofs.Counting.{row_items, row_statements}

-- ---- what follows marks

after_row : (mark : Mark) {i : _} (row : Row_of-Statement i) → after_in mark row ≡ after_list mark (statements row)
after_row mark end_of-Statement = refl
after_row mark (more_of-Statement tokens form rest) =
    ap (λ o. elim (is_mark mark form) as (λ _. Option (List Statement)) [
      | true ↦ Some (statements rest)
      | false ↦ first_of_two (outward (after_inside mark form) (statements rest)) o
    ]) (after_row mark rest)

pub after_block : (mark : Mark) (xs : List Statement) → after_in mark (hidden-the_row-Statement-0 xs) ≡ after_list mark xs
after_block mark xs = after_row mark (hidden-the_row-Statement-0 xs) ∙ ap (after_list mark) (row_statements xs)

after_row_arms : (mark : Mark) (i : Count) (row : Row_of-Arm i) → after_in_arms mark row ≡ after_arms mark (items-the_row-Arm i row)
after_row_arms mark i end_of-Arm = refl
after_row_arms mark i (more_of-Arm (Arm' case _ body) rest) = ap (first_of_two (after_in mark body)) (after_row_arms mark _ rest)

pub shown_statements : (x : _) (body : Row_of-Statement _) → shown-the_row-Statement-0 x body ≡ statements body
shown_statements x body = items_shown-the_row-Statement-0 x body ∙ sym (row_items _ body)

module _ (mark : Mark) where
  -- the first arm of a switch
  pub after_arm : (a : Arm) (rest : List Arm) → after_arms mark (a ∷ rest) ≡ first_of_two (after_list mark (out-Arm a).body) (after_arms mark rest)
  unfolding out-Arm Carrier.out
  after_arm (Arm' case x body) rest =
      ap (λ o. first_of_two o (after_arms mark rest)) (after_row mark body ∙ ap (after_list mark) (sym (shown_statements x body)))

  pub after_if : (condition : Condition) (then_ otherwise : List Statement) →
      after_inside mark (form.If condition then_ otherwise) ≡ first_of_two (after_list mark then_) (after_list mark otherwise)
  unfolding hidden-the_row-Statement-0 Carrier.hidden
  after_if condition then_ otherwise =
      ap (λ o. first_of_two o (after_in mark (hidden-the_row-Statement-0 otherwise))) (after_block mark then_)
      ∙ ap (first_of_two (after_list mark then_)) (after_block mark otherwise)

  pub after_span : (body : List Statement) → after_inside mark (form.Span body) ≡ after_list mark body
  unfolding hidden-the_row-Statement-0 Carrier.hidden
  after_span body = after_block mark body

  pub after_switch : (value : Expression) (arms : List Arm) → after_inside mark (form.Switch value arms) ≡ after_arms mark arms
  unfolding hidden-the_row-Arm-1 Carrier.hidden
  after_switch value arms = after_row_arms mark _ (hidden-the_row-Arm-1 arms) ∙ ap (after_arms mark) (items_hidden-the_row-Arm-1 arms)

-- ---- forms that are no marks

pub no_mark_if : (mark : Mark) (condition : Condition) (then_ otherwise : List Statement) → is_mark mark (form.If condition then_ otherwise) ≡ false
no_mark_if (AtLabel l) condition then_ otherwise = refl
no_mark_if (AtContinuation k) condition then_ otherwise = refl
no_mark_if (AtSite s) condition then_ otherwise = refl

pub no_mark_span : (mark : Mark) (body : List Statement) → is_mark mark (form.Span body) ≡ false
no_mark_span (AtLabel l) body = refl
no_mark_span (AtContinuation k) body = refl
no_mark_span (AtSite s) body = refl

pub no_mark_switch : (mark : Mark) (value : Expression) (arms : List Arm) → is_mark mark (form.Switch value arms) ≡ false
no_mark_switch (AtLabel l) value arms = refl
no_mark_switch (AtContinuation k) value arms = refl
no_mark_switch (AtSite s) value arms = refl

-- ---- code

module _ (q : Proc) (nodes_there : List Node) (label_node : ℕ → NodeId) where
  abbrev Front : List Statement → NodeId → NodeId → Type 0
  Front = FrontCode q nodes_there label_node

  front_row : {i : _} (row : Row_of-Statement i) (n k : NodeId) → Front (statements row) n k → RowCode q nodes_there label_node row n k
  front_row end_of-Statement n k code = code
  front_row (more_of-Statement tokens form rest) n k code = (code.0, code.1, front_row rest code.0 k code.2)

  pub block_code : (xs : List Statement) (n k : NodeId) → Front xs n k → RowCode q nodes_there label_node (hidden-the_row-Statement-0 xs) n k
  block_code xs n k code = front_row (hidden-the_row-Statement-0 xs) n k (subst (λ ys. Front ys n k) (sym (row_statements xs)) code)

  pub if_code : (tokens : ℕ) (condition : Condition) (then_ otherwise : List Statement) (n held failed k : NodeId) → Front otherwise failed k → Front then_ held k →
      TestCode nodes_there condition n held failed → FormCode q nodes_there label_node tokens (form.If condition then_ otherwise) n k
  unfolding hidden-the_row-Statement-0 Carrier.hidden
  if_code tokens condition then_ otherwise n held failed k second first test =
      (held, failed, test, block_code then_ held k first, block_code otherwise failed k second)

  pub span_code : (tokens : ℕ) (body : List Statement) (n j k : NodeId) → Front body j k → IsNode nodes_there n 1 (node.Goto j) →
      FormCode q nodes_there label_node tokens (form.Span body) n k
  unfolding hidden-the_row-Statement-0 Carrier.hidden
  span_code tokens body n j k inner is = (j, is, block_code body j k inner)

  ways_row : (i : Count) (row : Row_of-Arm i) (to : List Way) (k : NodeId) → WaysCode q nodes_there label_node (items-the_row-Arm i row) to k →
      ArmsCode q nodes_there label_node row to k
  ways_row i end_of-Arm to k code = code
  ways_row i (more_of-Arm (Arm' (In ranges) _ body) rest) to k (m, more, is, first, later) = (m, more, is, first, ways_row _ rest more k later)
  ways_row i (more_of-Arm (Arm' Default _ body) rest) to k code = ways_row _ rest to k code

  ranges_row : (i : Count) (row : Row_of-Arm i) (to : List Way) (k : NodeId) → WaysCode q nodes_there label_node (items-the_row-Arm i row) to k →
      ranges_of to ≡ all_ranges (branches row)
  ranges_row i end_of-Arm to k code = ap ranges_of code
  ranges_row i (more_of-Arm (Arm' (In ranges) _ body) rest) to k (m, more, is, first, later) =
      ap ranges_of is ∙ ap (λ rs. ranges ++ rs) (ranges_row _ rest more k later)
  ranges_row i (more_of-Arm (Arm' Default _ body) rest) to k code = ranges_row _ rest to k code

  -- the ways of a switch have the ranges of its arms
  pub ways_ranges : (arms : List Arm) (to : List Way) (k : NodeId) → WaysCode q nodes_there label_node arms to k →
      ranges_of to ≡ all_ranges (branches (hidden-the_row-Arm-1 arms))
  ways_ranges arms to k ways =
      ranges_row _ (hidden-the_row-Arm-1 arms) to k (subst (λ as_. WaysCode q nodes_there label_node as_ to k) (sym (items_hidden-the_row-Arm-1 arms)) ways)

  otherwise_row : (i : Count) (row : Row_of-Arm i) (n k : NodeId) → OtherwiseCode q nodes_there label_node (items-the_row-Arm i row) n k →
      DefaultCode q nodes_there label_node row n k
  otherwise_row i end_of-Arm n k code = code
  otherwise_row i (more_of-Arm (Arm' (In ranges) _ body) rest) n k code = otherwise_row _ rest n k code
  otherwise_row i (more_of-Arm (Arm' Default _ body) rest) n k code = code

  pub switch_code : (tokens : ℕ) (value : Expression) (arms : List Arm) (to : List Way) (n j otherwise k : NodeId) → WaysCode q nodes_there label_node arms to k →
      OtherwiseCode q nodes_there label_node arms otherwise k →
      IsNode nodes_there j (remaining tokens (nodes value)) (node.Switch (operand_of 0 value) to otherwise) → OperandCode nodes_there value 0 n j →
      FormCode q nodes_there label_node tokens (form.Switch value arms) n k
  unfolding hidden-the_row-Arm-1 Carrier.hidden
  switch_code tokens value arms to n j otherwise k ways default is first = (
    j,
    to,
    otherwise,
    first,
    is,
    ways_row _ (hidden-the_row-Arm-1 arms) to k (subst (λ as_. WaysCode q nodes_there label_node as_ to k) (sym (items_hidden-the_row-Arm-1 arms)) ways),
    otherwise_row _ (hidden-the_row-Arm-1 arms) otherwise k
        (subst (λ as_. OtherwiseCode q nodes_there label_node as_ otherwise k) (sym (items_hidden-the_row-Arm-1 arms)) default),
  )

  arm_row : (x : _) (body : Row_of-Statement _) (n k : NodeId) → Front (shown-the_row-Statement-0 x body) n k → RowCode q nodes_there label_node body n k
  arm_row x body n k code = front_row body n k (subst (λ ys. Front ys n k) (shown_statements x body) code)

  -- an arm in front of others
  pub arm_code : (a : Arm) (rest : List Arm) (to to_after : List Way) (n otherwise otherwise_after k : NodeId) →
      PutsArm (out-Arm a).case n to otherwise to_after otherwise_after → Front (out-Arm a).body n k →
      WaysCode q nodes_there label_node rest to k × OtherwiseCode q nodes_there label_node rest otherwise k →
      WaysCode q nodes_there label_node (a ∷ rest) to_after k × OtherwiseCode q nodes_there label_node (a ∷ rest) otherwise_after k
  unfolding out-Arm Carrier.out
  arm_code (Arm' (In ranges) x body) rest to to_after n otherwise otherwise_after k puts code later = (
    (n, to, puts.0, arm_row x body n k code, later.0),
    subst (λ m. OtherwiseCode q nodes_there label_node rest m k) (sym puts.1) later.1,
  )
  arm_code (Arm' Default x body) rest to to_after n otherwise otherwise_after k puts code later = (
    subst (λ ways. WaysCode q nodes_there label_node rest ways k) (sym puts.0) later.0,
    subst (λ m. RowCode q nodes_there label_node body m k) (sym puts.1) (arm_row x body n k code),
  )
