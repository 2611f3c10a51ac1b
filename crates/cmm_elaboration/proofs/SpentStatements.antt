-- Each statement counts at least the tokens of its shortest text, where its condition is one, its call site stands in the procedure at its number, and so
-- do the parameters of its continuation.
use Rattle.std.proofs.Common.{◌≡◌, ℕ, suc, ◌+◌, ◌-◌, ◌≤◌, refl, ap, ◌∙◌, Bool, true, false, List, [], ◌∷◌, Option, Some, None, Ok, arith, length}
use Rattle.std.specs.Prelude.{map, nat_lt, ◌==◌, sum_by, slice_get}
use Rattle.std.proofs.lemmas.Bool.{eq-eqb}
use Rattle.std.proofs.lemmas.List.Sums.{sum_by-cons}
use denote.Hole.Carrier as Carrier
use Rattle.cmm_lexer.specs.declared.keyword.Keyword.TheVariants as word
use Rattle.cmm_lexer.specs.declared.symbol.Symbol.TheVariants as sign
use Rattle.cmm_words.specs.declared.width.Width.{Width}
use Rattle.cmm_ast.specs.declared.token.Ident.{Ident}
use Rattle.cmm_ast.specs.declared.token.Text.{Text}
use Rattle.cmm_ast.specs.declared.expression.Expr.{Expr}
use Rattle.cmm_ast.specs.declared.statement.Actual.{Actual}
use Rattle.cmm_ast.specs.declared.statement.Block.{Row_of-Part}
use Rattle.cmm_ast.specs.declared.statement.Callee.{Callee}
use Rattle.cmm_ast.specs.declared.statement.Case.{Case as CaseTree}
use Rattle.cmm_ast.specs.declared.statement.Case.TheVariants.{Ranges, Default}
use Rattle.cmm_ast.specs.declared.statement.Exit.{Exit}
use Rattle.cmm_ast.specs.declared.statement.Flow.{Flow}
use Rattle.cmm_ast.specs.declared.statement.Kinded.{Kinded}
use Rattle.cmm_ast.specs.declared.statement.Lvalue.{Lvalue as LvalueTree}
use Rattle.cmm_ast.specs.declared.statement.Otherwise.{Otherwise, more_of-Stmt}
use Rattle.cmm_ast.specs.declared.statement.Otherwise.TheVariants.{Nothing as NoElse, Else', ElseIf'}
use Rattle.cmm_ast.specs.declared.statement.StmtForm.{StmtForm, Row_of-Arm, end_of-Arm, more_of-Arm}
use Rattle.cmm_ast.specs.declared.statement.StmtForm.TheVariants as stmts
use Rattle.cmm_grammar.specs.Taking.{Reading, Takes, ◌⨾◌, token, is_word, is_sign, is_checked, keyword, symbol, here, nothing, opening, enclosed, round, braces, optional, commas, listed, may_list}
use Rattle.cmm_grammar.specs.ExpressionGrammar.{ident, text, whole, whole_prim}
use Rattle.cmm_grammar.specs.StatementGrammar.{kinded, arguments, lvalue, callee, annotated, exit, results, range, case, switch_span, checked, stmt_form, otherwise_, chained, part_row, arm_row}
use Rattle.cmm_program.specs.declared.expression.Expression.{Expression}
use Rattle.cmm_program.specs.declared.expression.Condition.{Condition}
use Rattle.cmm_program.specs.declared.procedure.Proc.{Proc}
use Rattle.cmm_program.specs.declared.procedure.Site.{Site}
use Rattle.cmm_program.specs.declared.procedure.Target.{Target}
use Rattle.cmm_program.specs.declared.statement.Arm.{Arm, roll-Arm, Row_of-Statement, end_of-Statement, more_of-Statement, items-the_row-Statement, items_hidden-the_row-Statement-0}
use Rattle.cmm_program.specs.declared.statement.Form.{Form}
use Rattle.cmm_program.specs.declared.statement.Form.TheVariants as forms
use Rattle.cmm_program.specs.declared.statement.Form.TheBlock as Forms
use Rattle.cmm_program.specs.declared.statement.Range.{Range}
use Rattle.cmm_program.specs.declared.statement.Statement.{Statement}
use Rattle.cmm_program.specs.Bodies.{Branch, statements}
use Rattle.cmm_program.specs.Frames.{parameters}
use Rattle.cmm_program.specs.ExpressionTokens.{alone, callee as callee_level, expression_tokens, condition_tokens}
use Rattle.cmm_program.specs.Tokens.{with_commas, names as name_tokens, bracketed, lvalue_tokens, when, site_tokens, result_tokens, at_site, else_tokens, case_tokens, own_tokens}
use Rattle.cmm_static_semantics.specs.declared.judged.Typed.TheVariants as typed
use Rattle.cmm_static_semantics.specs.declared.sense.Host.{Host}
use Rattle.cmm_static_semantics.specs.declared.sense.Host.TheVariants.{PutByte, GetByte}
use Rattle.cmm_static_semantics.specs.Senses.{Senses}
use Rattle.cmm_static_semantics.specs.Algebras.{expressions}
use Rattle.cmm_static_semantics.specs.Typing.{expr_type, of_primary}
use Rattle.cmm_static_semantics.specs.Calls.{foreign_callee, is_host_call}
use Rattle.cmm_static_semantics.specs.Limits.{number_or_zero}
use Rattle.cmm_static_semantics.specs.Scopes.{Scope, senses}
use Rattle.cmm_static_semantics.specs.Statements.{passed}
use Rattle.cmm_static_semantics.specs.Switches.{Extent, extent, number_at}
use Rattle.cmm_elaboration.specs.Resolving.{value_of, values_of, condition_of, callee_of, target_of, place_of}
use Rattle.cmm_elaboration.specs.Sites.{SpanValue, cut_names, continuation_of, continuations_by, is_yield, yielded_by, site_with}
use Rattle.cmm_elaboration.specs.Procedures.{parameter_of}
use Rattle.cmm_elaboration.specs.Bodies.{row_length, arms_length, otherwise_length, blocks_length, counted, call_form, host_form, return_form, checked_form, value_width, range_of, case_of, form_of, otherwise_of, arms_of, row_of, sites_in_row}
use Rattle.cmm_elaboration.proofs.Derived.{middle}
use Rattle.cmm_elaboration.proofs.Steady.{next_token, here_is, steady_optional}
use Rattle.cmm_elaboration.proofs.SteadyUnits.{steady_span, steady_chained}
use Rattle.cmm_elaboration.proofs.Weighing.{taken_of}
use Rattle.cmm_elaboration.proofs.BodyTokens.{row_fits}
use Rattle.cmm_elaboration.proofs.Switching.{branch_of, hidden_branches, rolled_case}
use Rattle.cmm_elaboration.proofs.Spent.{IsShort, enclosed_of, opening_token, here_taken, value_costs, whole_costs, whole_strict, condition_costs, prim_strict}
use Rattle.cmm_elaboration.proofs.SpentForms.{ones, ident_token, text_token, kinded_tokens, commas_cost, listed_cost, list_cost, flow_tokens, flows_cost, results_cost, arguments_cost, callee_cost, lvalue_cost, exit_cost}

-- ---- what statements with blocks count

statements_are : (n : _) (row : Row_of-Statement n) → statements row ≡ items-the_row-Statement n row
statements_are n end_of-Statement = refl
statements_are n (more_of-Statement {n = m} tokens form rest) = ap (λ ss. record { tokens = tokens; form = form } ∷ ss) (statements_are m rest)

hidden_statements : (ss : List Statement) → statements (Forms.hidden-the_row-Statement-0 ss) ≡ ss
hidden_statements ss = statements_are _ (Forms.hidden-the_row-Statement-0 ss) ∙ items_hidden-the_row-Statement-0 ss

if_is : (q : Proc) (c : Condition) (t o : List Statement) → own_tokens q (forms.If c t o) ≡ 3 + condition_tokens c + else_tokens o
unfolding Carrier.hidden
if_is q c t o = ap (λ ss. 3 + condition_tokens c + else_tokens ss) (hidden_statements o)

switch_is : (q : Proc) (v : Expression) (as_ : List Arm) → own_tokens q (forms.Switch v as_) ≡ 3 + expression_tokens alone v + sum_by (λ b. case_tokens b.case) (map branch_of as_)
unfolding Carrier.hidden
switch_is q v as_ = ap (λ bs. 3 + expression_tokens alone v + sum_by (λ b. case_tokens b.case) bs) (hidden_branches as_)

span_is : (q : Proc) (b : List Statement) → own_tokens q (forms.Span b) ≡ 5
unfolding Carrier.hidden
span_is q b = refl

else_if_is : (k : ℕ) (c : Condition) (t o : List Statement) → else_tokens (record { tokens = k; form = forms.If c t o } ∷ []) ≡ 1
unfolding Carrier.hidden
else_if_is k c t o = refl

else_form : (f : Form) → elim f as (λ x. ℕ) [ forms.If' condition _ then_ _ otherwise ↦ 1 | _ ↦ 3 ] ≤ 3
else_form (forms.If' condition _ then_ _ otherwise) = omega arith
else_form f = omega arith

else_few : (ss : List Statement) → else_tokens ss ≤ 3
else_few [] = omega arith
else_few (st ∷ []) = else_form st.form
else_few (st ∷ su ∷ ss) = omega arith

-- ---- blocks

block_cost : (n : _) (body : Row_of-Part n) (r t : Reading) → braces (part_row body) r ≡ Some t → r.taken + 2 + row_length body ≤ t.taken
block_cost n body r t is =
    let e = enclosed_of sign.OpenBrace (part_row body) sign.CloseBrace r t is in
    let low : e.from.taken ≡ suc r.taken = e.low in let high : t.taken ≡ suc e.to.taken = e.high in
    let h : e.from.taken + row_length body ≤ e.to.taken = (row_fits [] n body e.from e.to e.is).room in omega arith

at_is : (q : Proc) (n : ℕ) (site : Site) (size : Site → ℕ) → slice_get q.sites n ≡ Some site → at_site q n size ≡ size site
at_is q n site size is = ap (λ o. elim o as (λ x. ℕ) [ Some found ↦ size found | None ↦ 0 ]) is

ends_by : (x : _) (a t : Reading) → symbol x a ≡ Some t → t.taken ≡ suc a.taken
ends_by x a t is = next_token (is_sign x) a t is

module _ (q : Proc) (s : Scope) (short : (name : List ℕ) → IsShort (senses s name)) where
  abbrev names : Senses
  names = senses s

  -- ---- the arms of a switch

  few_between : (b : Bool) → elim b as (λ x. ℕ) [ true ↦ 1 | false ↦ 3 ] ≤ 3
  few_between true = omega arith
  few_between false = omega arith

  abbrev extent_range : Option Extent → Range
  extent_range o = elim o [ Some x ↦ record { from = x.low; to = x.high } | None ↦ record { from = 0; to = 0 } ]

  abbrev range_tokens : Range → ℕ
  range_tokens r = elim (r.from == r.to) [ true ↦ 1 | false ↦ 3 ]

  alone_by : (o : Option ℕ) → range_tokens (extent_range (extent o o)) ≡ 1
  alone_by (Some n) = ap (λ b. elim b as (λ x. ℕ) [ true ↦ 1 | false ↦ 3 ]) (eq-eqb n n refl)
  alone_by None = refl

  range_cost_by : (width : Option Width) (from : Expr) (to : Option Expr) (r t : Reading) → range record { from = from; to = to } r ≡ Some t → r.taken + range_tokens (range_of s width record { from = from; to = to }) ≤ t.taken
  range_cost_by width from None r t is =
      let m = middle (whole from r) nothing t is in
      let a : suc r.taken ≤ m.at_.taken = whole_strict names short from r m.at_ m.first in let b : m.at_.taken ≡ t.taken = ap taken_of m.next in
      let e : range_tokens (range_of s width record { from = from; to = None }) ≡ 1 = alone_by (number_at names width from) in omega arith
  range_cost_by width from (Some to) r t is =
      let m = middle (whole from r) (symbol sign.Range ⨾ whole to) t is in
      let n = middle (symbol sign.Range m.at_) (whole to) t m.next in
      let a : suc r.taken ≤ m.at_.taken = whole_strict names short from r m.at_ m.first in let b : n.at_.taken ≡ suc m.at_.taken = ends_by sign.Range m.at_ n.at_ n.first in
      let d : suc n.at_.taken ≤ t.taken = whole_strict names short to n.at_ t n.next in
      let x = range_of s width record { from = from; to = Some to } in let e : range_tokens x ≤ 3 = few_between (x.from == x.to) in omega arith

  case_cost : (width : Option Width) (what : CaseTree) (r t : Reading) → case what r ≡ Some t → r.taken + case_tokens (case_of s width what) ≤ t.taken + 2
  case_cost width (Ranges rs) r t is =
      let a = middle (keyword word.Case r) (commas range rs ⨾ symbol sign.Colon) t is in
      let b = middle (commas range rs a.at_) (symbol sign.Colon) t a.next in
      let x : a.at_.taken ≡ suc r.taken = next_token (is_word word.Case) r a.at_ a.first in
      let y : t.taken ≡ suc b.at_.taken = ends_by sign.Colon b.at_ t b.next in
      let h : a.at_.taken + with_commas range_tokens (map (range_of s width) rs) ≤ b.at_.taken =
      commas_cost range (range_of s width) range_tokens (λ e m n i. range_cost_by width e.from e.to m n i) rs a.at_ b.at_ b.first in omega arith
  case_cost width Default r t is =
      let a = middle (keyword word.Default r) (symbol sign.Colon) t is in
      let x : a.at_.taken ≡ suc r.taken = next_token (is_word word.Default) r a.at_ a.first in let y : t.taken ≡ suc a.at_.taken = ends_by sign.Colon a.at_ t a.next in omega arith

  arms_cost : (n : ℕ) (width : Option Width) (k : _) (row : Row_of-Arm k) (r t : Reading) → arm_row row r ≡ Some t →
      r.taken + sum_by (λ b. case_tokens b.case) (map branch_of (arms_of s n width row)) + arms_length row ≤ t.taken
  arms_cost n width k end_of-Arm r t is = let e : r.taken ≡ t.taken = ap taken_of is in omega arith
  arms_cost n width k (more_of-Arm {n = m} first what _ body rest) r t is =
      let a = middle (here first r) (case what ⨾ braces (part_row body) ⨾ arm_row rest) t is in
      let b = middle (case what a.at_) (braces (part_row body) ⨾ arm_row rest) t a.next in
      let d = middle (braces (part_row body) b.at_) (arm_row rest) t b.next in
      let i : a.at_.taken ≡ r.taken = here_taken first r a.at_ a.first in
      let j : a.at_.taken + case_tokens (case_of s width what) ≤ b.at_.taken + 2 = case_cost width what a.at_ b.at_ b.first in
      let l : b.at_.taken + 2 + row_length body ≤ d.at_.taken = block_cost _ body b.at_ d.at_ d.first in
      let own = branch_of (roll-Arm record { case = case_of s width what; body = row_of s n body }) in
      let others = map branch_of (arms_of s (n + sites_in_row body) width rest) in
      let h : d.at_.taken + sum_by (λ b. case_tokens b.case) others + arms_length rest ≤ t.taken = arms_cost (n + sites_in_row body) width m rest d.at_ t d.next in
      let e : sum_by (λ (b : Branch). case_tokens b.case) (own ∷ others) ≡ case_tokens own.case + sum_by (λ b. case_tokens b.case) others = sum_by-cons (λ (b : Branch). case_tokens b.case) own others in
      let f : case_tokens own.case ≡ case_tokens (case_of s width what) = ap case_tokens (rolled_case (case_of s width what) (row_of s n body)) in
      let goal : r.taken + sum_by (λ (b : Branch). case_tokens b.case) (own ∷ others) + (row_length body + arms_length rest) ≤ t.taken = omega arith in goal

  -- ---- what a statement needs

  abbrev IsTested : Expr → Type 0
  IsTested e = (u : Condition) × (expr_type expressions names e ≡ Ok (typed.Test (Some u)))

  abbrev pub Needs : ℕ → List SpanValue → StmtForm → Type 0
  Needs n spans (stmts.If' condition _ body otherwise) = IsTested condition
  Needs n spans (stmts.Checked result operator left right flows) = slice_get q.sites n ≡ Some (site_with s (target_of names result ∷ []) (Some 1) flows spans)
  Needs n spans (stmts.Call results None callee actuals flows) = slice_get q.sites n ≡ Some (site_with s (map (λ k. target_of names k.name) results) (yielded_by s callee actuals) flows spans)
  Needs n spans (stmts.Call results (Some convention) callee actuals flows) =
      ◌≡◌ {A = Bool} (elim (foreign_callee s callee) as (λ x. Bool) [ Some h ↦ is_host_call s h results actuals | None ↦ false ]) true
  Needs n spans (stmts.Continuation name parameters_) = parameters q (continuation_of s name) ≡ map (parameter_of s) parameters_
  Needs n spans _ = Unit {0}

  -- ---- statements with blocks

  chained_if : (n first past : ℕ) (form : StmtForm) (r t : Reading) → chained form r ≡ Some t → else_tokens (counted first past form (form_of s n form) ∷ []) ≡ 1
  chained_if n first past (stmts.If' condition _ body otherwise) r t is =
      else_if_is (past - first - (row_length body + otherwise_length otherwise)) (condition_of names condition) (row_of s n body) (otherwise_of s (n + sites_in_row body) otherwise)
  chained_if n first past form r t is = let bad : None ≡ Some t = is in cc

  else_cost : (n : ℕ) (o : Otherwise) (r t : Reading) → otherwise_ o r ≡ Some t → r.taken + else_tokens (otherwise_of s n o) + otherwise_length o ≤ t.taken
  else_cost n NoElse r t is = let e : r.taken ≡ t.taken = ap taken_of is in omega arith
  else_cost n (Else' _ body) r t is =
      let a = middle (keyword word.Else r) (braces (part_row body)) t is in
      let x : a.at_.taken ≡ suc r.taken = next_token (is_word word.Else) r a.at_ a.first in
      let h : a.at_.taken + 2 + row_length body ≤ t.taken = block_cost _ body a.at_ t a.next in
      let e : else_tokens (row_of s n body) ≤ 3 = else_few (row_of s n body) in omega arith
  else_cost n (ElseIf' _ (more_of-Stmt first past form rest)) r t is =
      let a = middle (keyword word.Else r) (enclosed (here first ⨾ chained form ⨾ here past)) t is in
      let b = middle ((here first ⨾ chained form ⨾ here past) a.at_) (λ y. Some record y { open_brackets = a.at_.open_brackets }) t a.next in
      let d = middle (here first a.at_) (chained form ⨾ here past) b.at_ b.first in
      let e = middle (chained form d.at_) (here past) b.at_ d.next in
      let x : a.at_.taken ≡ suc r.taken = next_token (is_word word.Else) r a.at_ a.first in
      let last : b.at_.taken ≡ t.taken = ap taken_of b.next in
      let from : first ≡ a.at_.taken = (here_is first a.at_ d.at_ d.first).0 in
      let start : d.at_.taken ≡ a.at_.taken = here_taken first a.at_ d.at_ d.first in
      let to : past ≡ e.at_.taken = (here_is past e.at_ b.at_ e.next).0 in
      let end_ : b.at_.taken ≡ e.at_.taken = here_taken past e.at_ b.at_ e.next in
      let own : else_tokens (counted first past form (form_of s n form) ∷ []) ≡ 1 = chained_if n first past form d.at_ e.at_ e.first in
      let few : d.at_.taken ≤ e.at_.taken = (steady_chained form d.at_ e.at_ e.first).grows in
      let goal : r.taken + else_tokens (counted first past form (form_of s n form) ∷ []) + (past - first) ≤ t.taken = omega arith in goal

  if_cost : (opens : Takes) → ((a b : Reading) → opens a ≡ Some b → b.taken ≡ suc a.taken) → (n : ℕ) (k : _) (m : ℕ) (condition : Expr) (body : Row_of-Part k) (otherwise : Otherwise) (r t : Reading) →
      (opens ⨾ whole condition ⨾ braces (part_row body) ⨾ otherwise_ otherwise) r ≡ Some t → IsTested condition →
      r.taken + own_tokens q (forms.If (condition_of names condition) (row_of s n body) (otherwise_of s m otherwise)) + (row_length body + otherwise_length otherwise) ≤ t.taken
  if_cost opens one n k m condition body otherwise r t is tested =
      let a = middle (opens r) (whole condition ⨾ braces (part_row body) ⨾ otherwise_ otherwise) t is in
      let b = middle (whole condition a.at_) (braces (part_row body) ⨾ otherwise_ otherwise) t a.next in
      let d = middle (braces (part_row body) b.at_) (otherwise_ otherwise) t b.next in
      let x : a.at_.taken ≡ suc r.taken = one r a.at_ a.first in
      let y : a.at_.taken + condition_tokens (condition_of names condition) ≤ b.at_.taken =
      condition_costs names short a.at_.taken b.at_.taken (expr_type expressions names condition) tested.0 tested.1 (whole_costs names short condition a.at_ b.at_ b.first) in
      let z : b.at_.taken + 2 + row_length body ≤ d.at_.taken = block_cost _ body b.at_ d.at_ d.first in
      let w : d.at_.taken + else_tokens (otherwise_of s m otherwise) + otherwise_length otherwise ≤ t.taken = else_cost m otherwise d.at_ t d.next in
      let own : own_tokens q (forms.If (condition_of names condition) (row_of s n body) (otherwise_of s m otherwise)) ≡ 3 + condition_tokens (condition_of names condition) + else_tokens (otherwise_of s m otherwise) =
      if_is q (condition_of names condition) (row_of s n body) (otherwise_of s m otherwise) in omega arith

  -- ---- statements without blocks

  assign_cost : (to : List LvalueTree) (values : List Expr) (r t : Reading) → (commas lvalue to ⨾ symbol sign.Assign ⨾ listed whole values ⨾ symbol sign.Semicolon) r ≡ Some t →
      r.taken + own_tokens q (forms.Assign (map (place_of names) to) (map (value_of names) values)) ≤ t.taken
  assign_cost to values r t is =
      let a = middle (commas lvalue to r) (symbol sign.Assign ⨾ listed whole values ⨾ symbol sign.Semicolon) t is in
      let b = middle (symbol sign.Assign a.at_) (listed whole values ⨾ symbol sign.Semicolon) t a.next in
      let d = middle (listed whole values b.at_) (symbol sign.Semicolon) t b.next in
      let x : r.taken + with_commas lvalue_tokens (map (place_of names) to) ≤ a.at_.taken = commas_cost lvalue (place_of names) lvalue_tokens (lvalue_cost names short) to r a.at_ a.first in
      let y : b.at_.taken ≡ suc a.at_.taken = ends_by sign.Assign a.at_ b.at_ b.first in
      let z : b.at_.taken + with_commas (expression_tokens alone) (map (value_of names) values) ≤ d.at_.taken = listed_cost whole (value_of names) (expression_tokens alone) (value_costs names short) values b.at_ d.at_ d.first in
      let w : t.taken ≡ suc d.at_.taken = ends_by sign.Semicolon d.at_ t d.next in omega arith

  pair_is : (e f : Expression) → bracketed (e ∷ f ∷ []) ≡ 3 + expression_tokens alone e + expression_tokens alone f
  pair_is e f =
      let a : sum_by (expression_tokens alone) (e ∷ f ∷ []) ≡ expression_tokens alone e + sum_by (expression_tokens alone) (f ∷ []) = sum_by-cons (expression_tokens alone) e (f ∷ []) in
      let b : sum_by (expression_tokens alone) (f ∷ []) ≡ expression_tokens alone f + 0 = sum_by-cons (expression_tokens alone) f [] in
      let goal : 2 + (sum_by (expression_tokens alone) (e ∷ f ∷ []) + 1) ≡ 3 + expression_tokens alone e + expression_tokens alone f = omega arith in goal

  single_is : (e : Expression) → bracketed (e ∷ []) ≡ 2 + expression_tokens alone e
  single_is e =
      let b : sum_by (expression_tokens alone) (e ∷ []) ≡ expression_tokens alone e + 0 = sum_by-cons (expression_tokens alone) e [] in
      let goal : 2 + (sum_by (expression_tokens alone) (e ∷ []) + 0) ≡ 2 + expression_tokens alone e = omega arith in goal

  checked_cost : (n : ℕ) (spans : List SpanValue) (result op : Ident) (left right : Expr) (fs : List Flow) (r t : Reading) →
      (ident result ⨾ symbol sign.Assign ⨾ checked op ⨾ round (whole left ⨾ symbol sign.Comma ⨾ whole right) ⨾ annotated fs ⨾ symbol sign.Semicolon) r ≡ Some t →
      slice_get q.sites n ≡ Some (site_with s (target_of names result ∷ []) (Some 1) fs spans) → r.taken + own_tokens q (checked_form s n op left right) ≤ t.taken
  checked_cost n spans result op left right fs r t is there =
      let inner = whole left ⨾ symbol sign.Comma ⨾ whole right in
      let a = middle (ident result r) (symbol sign.Assign ⨾ checked op ⨾ round inner ⨾ annotated fs ⨾ symbol sign.Semicolon) t is in
      let b = middle (symbol sign.Assign a.at_) (checked op ⨾ round inner ⨾ annotated fs ⨾ symbol sign.Semicolon) t a.next in
      let d = middle (checked op b.at_) (round inner ⨾ annotated fs ⨾ symbol sign.Semicolon) t b.next in
      let e = middle (round inner d.at_) (annotated fs ⨾ symbol sign.Semicolon) t d.next in
      let f = middle (annotated fs e.at_) (symbol sign.Semicolon) t e.next in
      let c = middle (here op.token b.at_) (token (is_checked op.name)) d.at_ d.first in
      let i = enclosed_of sign.Open inner sign.Close d.at_ e.at_ e.first in
      let j = middle (whole left i.from) (symbol sign.Comma ⨾ whole right) i.to i.is in
      let k = middle (symbol sign.Comma j.at_) (whole right) i.to j.next in
      let x0 : a.at_.taken ≡ suc r.taken = ident_token result r a.at_ a.first in
      let x1 : b.at_.taken ≡ suc a.at_.taken = ends_by sign.Assign a.at_ b.at_ b.first in
      let x2 : c.at_.taken ≡ b.at_.taken = here_taken op.token b.at_ c.at_ c.first in
      let x3 : d.at_.taken ≡ suc c.at_.taken = next_token (is_checked op.name) c.at_ d.at_ c.next in
      let x4 : i.from.taken ≡ suc d.at_.taken = i.low in let x5 : e.at_.taken ≡ suc i.to.taken = i.high in
      let x6 : i.from.taken + expression_tokens alone (value_of names left) ≤ j.at_.taken = value_costs names short left i.from j.at_ j.first in
      let x7 : k.at_.taken ≡ suc j.at_.taken = ends_by sign.Comma j.at_ k.at_ k.first in
      let x8 : k.at_.taken + expression_tokens alone (value_of names right) ≤ i.to.taken = value_costs names short right k.at_ i.to k.next in
      let x9 : e.at_.taken + flow_tokens s fs ≤ f.at_.taken = flows_cost s fs e.at_ f.at_ f.first in
      let x10 : t.taken ≡ suc f.at_.taken = ends_by sign.Semicolon f.at_ t f.next in
      let site = site_with s (target_of names result ∷ []) (Some 1) fs spans in
      let y : at_site q n site_tokens ≡ flow_tokens s fs = at_is q n site site_tokens there in
      let z : bracketed (value_of names left ∷ value_of names right ∷ []) ≡ 3 + expression_tokens alone (value_of names left) + expression_tokens alone (value_of names right) = pair_is (value_of names left) (value_of names right) in
      let goal : r.taken + (3 + bracketed (value_of names left ∷ value_of names right ∷ []) + at_site q n site_tokens + 1) ≤ t.taken = omega arith in goal

  call_by : (n : ℕ) (what : Callee) (values : List Expression) (size low high : ℕ) (b : Bool) → at_site q n (λ x. result_tokens x + site_tokens x) ≡ size → low + expression_tokens callee_level (callee_of names what) ≤ high →
      suc low ≤ high → low + own_tokens q (elim b as (λ x. Form) [ true ↦ forms.Yield n values | false ↦ forms.Call n (callee_of names what) values ]) ≤ high + size + bracketed values + 1
  call_by n what values size low high true is few one = omega arith
  call_by n what values size low high false is few one = omega arith

  abbrev some_results : List Kinded → ℕ
  some_results [] = 0
  some_results (k ∷ ks) = 2

  results_few : (ks : List Kinded) (r t : Reading) → results ks r ≡ Some t → r.taken + some_results ks ≤ t.taken
  results_few [] r t is = let e : r.taken ≡ t.taken = ap taken_of is in omega arith
  results_few (k ∷ ks) r t is =
      let ts = map (λ (y : Kinded). target_of names y.name) (k ∷ ks) in
      let h : r.taken + (name_tokens ts + 1) ≤ t.taken = results_cost s (k ∷ ks) None [] [] r t is in
      let e : sum_by (λ (z : Target). 1) ts ≡ length ts = ones ts in omega arith

  foreign_few : (h : Option Host) (ks : List Kinded) (as_ : List Actual) → ◌≡◌ {A = Bool} (elim h as (λ x. Bool) [ Some y ↦ is_host_call s y ks as_ | None ↦ false ]) true →
      own_tokens q (host_form s h ks (values_of names as_)) ≤ 4 + bracketed (values_of names as_) + some_results ks
  foreign_few (Some PutByte) [] (a ∷ []) is = omega arith
  foreign_few (Some GetByte) (k ∷ []) [] is = omega arith
  foreign_few h ks as_ is = let bad : false ≡ true = is in cc

  call_cost : (n : ℕ) (spans : List SpanValue) (ks : List Kinded) (what : Callee) (as_ : List Actual) (fs : List Flow) (r t : Reading) →
      (results ks ⨾ nothing ⨾ callee what ⨾ arguments as_ ⨾ annotated fs ⨾ symbol sign.Semicolon) r ≡ Some t →
      slice_get q.sites n ≡ Some (site_with s (map (λ k. target_of names k.name) ks) (yielded_by s what as_) fs spans) → r.taken + own_tokens q (call_form s n what (values_of names as_)) ≤ t.taken
  call_cost n spans ks what as_ fs r t is there =
      let a = middle (results ks r) (nothing ⨾ callee what ⨾ arguments as_ ⨾ annotated fs ⨾ symbol sign.Semicolon) t is in
      let b = middle (callee what a.at_) (arguments as_ ⨾ annotated fs ⨾ symbol sign.Semicolon) t a.next in
      let d = middle (arguments as_ b.at_) (annotated fs ⨾ symbol sign.Semicolon) t b.next in
      let e = middle (annotated fs d.at_) (symbol sign.Semicolon) t d.next in
      let site = site_with s (map (λ (k : Kinded). target_of names k.name) ks) (yielded_by s what as_) fs spans in
      let x : r.taken + result_tokens site ≤ a.at_.taken = results_cost s ks (yielded_by s what as_) fs spans r a.at_ a.first in
      let c = callee_cost names short what a.at_ b.at_ b.first in
      let y : b.at_.taken + bracketed (values_of names as_) ≤ d.at_.taken = arguments_cost names short as_ b.at_ d.at_ d.first in
      let z : d.at_.taken + flow_tokens s fs ≤ e.at_.taken = flows_cost s fs d.at_ e.at_ e.first in
      let w : t.taken ≡ suc e.at_.taken = ends_by sign.Semicolon e.at_ t e.next in
      let own : a.at_.taken + own_tokens q (call_form s n what (values_of names as_)) ≤ b.at_.taken + (result_tokens site + flow_tokens s fs) + bracketed (values_of names as_) + 1 =
      call_by n what (values_of names as_) (result_tokens site + flow_tokens s fs) a.at_.taken b.at_.taken (is_yield s what) (at_is q n site (λ x. result_tokens x + site_tokens x) there) c.0 c.1 in omega arith

  foreign_cost : (ks : List Kinded) (convention : Text) (what : Callee) (as_ : List Actual) (fs : List Flow) (r t : Reading) →
      (results ks ⨾ (keyword word.Foreign ⨾ text convention) ⨾ callee what ⨾ arguments as_ ⨾ annotated fs ⨾ symbol sign.Semicolon) r ≡ Some t →
      ◌≡◌ {A = Bool} (elim (foreign_callee s what) as (λ x. Bool) [ Some h ↦ is_host_call s h ks as_ | None ↦ false ]) true → r.taken + own_tokens q (host_form s (foreign_callee s what) ks (values_of names as_)) ≤ t.taken
  foreign_cost ks convention what as_ fs r t is holds =
      let a = middle (results ks r) ((keyword word.Foreign ⨾ text convention) ⨾ callee what ⨾ arguments as_ ⨾ annotated fs ⨾ symbol sign.Semicolon) t is in
      let f = middle ((keyword word.Foreign ⨾ text convention) a.at_) (callee what ⨾ arguments as_ ⨾ annotated fs ⨾ symbol sign.Semicolon) t a.next in
      let g = middle (keyword word.Foreign a.at_) (text convention) f.at_ f.first in
      let b = middle (callee what f.at_) (arguments as_ ⨾ annotated fs ⨾ symbol sign.Semicolon) t f.next in
      let d = middle (arguments as_ b.at_) (annotated fs ⨾ symbol sign.Semicolon) t b.next in
      let e = middle (annotated fs d.at_) (symbol sign.Semicolon) t d.next in
      let x : r.taken + some_results ks ≤ a.at_.taken = results_few ks r a.at_ a.first in
      let x1 : g.at_.taken ≡ suc a.at_.taken = next_token (is_word word.Foreign) a.at_ g.at_ g.first in
      let x2 : f.at_.taken ≡ suc g.at_.taken = text_token convention g.at_ f.at_ g.next in
      let c : suc f.at_.taken ≤ b.at_.taken = (callee_cost names short what f.at_ b.at_ b.first).1 in
      let y : b.at_.taken + bracketed (values_of names as_) ≤ d.at_.taken = arguments_cost names short as_ b.at_ d.at_ d.first in
      let z : d.at_.taken + flow_tokens s fs ≤ e.at_.taken = flows_cost s fs d.at_ e.at_ e.first in
      let w : t.taken ≡ suc e.at_.taken = ends_by sign.Semicolon e.at_ t e.next in
      let own : own_tokens q (host_form s (foreign_callee s what) ks (values_of names as_)) ≤ 4 + bracketed (values_of names as_) + some_results ks = foreign_few (foreign_callee s what) ks as_ holds in omega arith

  jump_cost : (what : Callee) (as_ : List Actual) (r t : Reading) → (keyword word.Jump ⨾ callee what ⨾ arguments as_ ⨾ symbol sign.Semicolon) r ≡ Some t →
      r.taken + own_tokens q (forms.Jump (callee_of names what) (values_of names as_)) ≤ t.taken
  jump_cost what as_ r t is =
      let a = middle (keyword word.Jump r) (callee what ⨾ arguments as_ ⨾ symbol sign.Semicolon) t is in
      let b = middle (callee what a.at_) (arguments as_ ⨾ symbol sign.Semicolon) t a.next in
      let d = middle (arguments as_ b.at_) (symbol sign.Semicolon) t b.next in
      let x : a.at_.taken ≡ suc r.taken = next_token (is_word word.Jump) r a.at_ a.first in
      let c : a.at_.taken + expression_tokens callee_level (callee_of names what) ≤ b.at_.taken = (callee_cost names short what a.at_ b.at_ b.first).0 in
      let y : b.at_.taken + bracketed (values_of names as_) ≤ d.at_.taken = arguments_cost names short as_ b.at_ d.at_ d.first in
      let w : t.taken ≡ suc d.at_.taken = ends_by sign.Semicolon d.at_ t d.next in omega arith

  cut_cost : (what : Callee) (as_ : List Actual) (fs : List Flow) (r t : Reading) → (keyword word.Cut ⨾ keyword word.To ⨾ callee what ⨾ arguments as_ ⨾ annotated fs ⨾ symbol sign.Semicolon) r ≡ Some t →
      r.taken + own_tokens q (forms.Cut (callee_of names what) (values_of names as_) (continuations_by s cut_names fs)) ≤ t.taken
  cut_cost what as_ fs r t is =
      let a = middle (keyword word.Cut r) (keyword word.To ⨾ callee what ⨾ arguments as_ ⨾ annotated fs ⨾ symbol sign.Semicolon) t is in
      let g = middle (keyword word.To a.at_) (callee what ⨾ arguments as_ ⨾ annotated fs ⨾ symbol sign.Semicolon) t a.next in
      let b = middle (callee what g.at_) (arguments as_ ⨾ annotated fs ⨾ symbol sign.Semicolon) t g.next in
      let d = middle (arguments as_ b.at_) (annotated fs ⨾ symbol sign.Semicolon) t b.next in
      let e = middle (annotated fs d.at_) (symbol sign.Semicolon) t d.next in
      let x : a.at_.taken ≡ suc r.taken = next_token (is_word word.Cut) r a.at_ a.first in
      let x1 : g.at_.taken ≡ suc a.at_.taken = next_token (is_word word.To) a.at_ g.at_ g.first in
      let c : g.at_.taken + expression_tokens callee_level (callee_of names what) ≤ b.at_.taken = (callee_cost names short what g.at_ b.at_ b.first).0 in
      let y : b.at_.taken + bracketed (values_of names as_) ≤ d.at_.taken = arguments_cost names short as_ b.at_ d.at_ d.first in
      let z : d.at_.taken + flow_tokens s fs ≤ e.at_.taken = flows_cost s fs d.at_ e.at_ e.first in
      let w : t.taken ≡ suc e.at_.taken = ends_by sign.Semicolon e.at_ t e.next in omega arith

  abbrev exits : Option Exit → ℕ
  exits None = 0
  exits (Some x) = 5

  abbrev given : List Expression → ℕ
  given [] = 0
  given (e ∷ es) = bracketed (e ∷ es)

  when_few : (b : Bool) → when b 5 ≤ 5
  when_few true = omega arith
  when_few false = omega arith

  return_by : (exit_ : ℕ) (count : ℕ) (es : List Expression) → own_tokens q (forms.Return exit_ count es) ≤ 7 + given es
  return_by exit_ count [] = omega (arith, when_few (nat_lt 0 count))
  return_by exit_ count (e ∷ es) = omega (arith, when_few (nat_lt 0 count))

  plain_by : (es : List Expression) → own_tokens q (forms.Return 0 0 es) ≤ 2 + given es
  plain_by [] = omega arith
  plain_by (e ∷ es) = omega arith

  return_few : (exit_ : Option Exit) (es : List Expression) → own_tokens q (return_form s exit_ es) ≤ 2 + exits exit_ + given es
  return_few None es = omega (arith, plain_by es)
  return_few (Some x) es = omega (arith, return_by (number_or_zero names (of_primary x.index)) (number_or_zero names (of_primary x.count)) es)

  exits_cost : (exit_ : Option Exit) (r t : Reading) → optional exit exit_ r ≡ Some t → r.taken + exits exit_ ≤ t.taken
  exits_cost None r t is = let e : r.taken ≡ t.taken = ap taken_of is in omega arith
  exits_cost (Some x) r t is = exit_cost names short x r t is

  given_few : (es : List Expression) → given es ≤ bracketed es
  given_few [] = omega arith
  given_few (e ∷ es) = omega arith

  values_cost : (values : Option (List Actual)) (r t : Reading) → optional arguments values r ≡ Some t → r.taken + given (values_of names (passed values)) ≤ t.taken
  values_cost None r t is = let e : r.taken ≡ t.taken = ap taken_of is in omega arith
  values_cost (Some as_) r t is = let h : r.taken + bracketed (values_of names as_) ≤ t.taken = arguments_cost names short as_ r t is in omega (arith, given_few (values_of names as_))

  return_cost : (exit_ : Option Exit) (values : Option (List Actual)) (r t : Reading) → (keyword word.Return ⨾ optional exit exit_ ⨾ optional arguments values ⨾ symbol sign.Semicolon) r ≡ Some t →
      r.taken + own_tokens q (return_form s exit_ (values_of names (passed values))) ≤ t.taken
  return_cost exit_ values r t is =
      let a = middle (keyword word.Return r) (optional exit exit_ ⨾ optional arguments values ⨾ symbol sign.Semicolon) t is in
      let b = middle (optional exit exit_ a.at_) (optional arguments values ⨾ symbol sign.Semicolon) t a.next in
      let d = middle (optional arguments values b.at_) (symbol sign.Semicolon) t b.next in
      let x : a.at_.taken ≡ suc r.taken = next_token (is_word word.Return) r a.at_ a.first in
      let y : a.at_.taken + exits exit_ ≤ b.at_.taken = exits_cost exit_ a.at_ b.at_ b.first in
      let z : b.at_.taken + given (values_of names (passed values)) ≤ d.at_.taken = values_cost values b.at_ d.at_ d.first in
      let w : t.taken ≡ suc d.at_.taken = ends_by sign.Semicolon d.at_ t d.next in
      let own : own_tokens q (return_form s exit_ (values_of names (passed values))) ≤ 2 + exits exit_ + given (values_of names (passed values)) = return_few exit_ (values_of names (passed values)) in omega arith

  continuation_cost : (name : Ident) (ks : List Kinded) (r t : Reading) → (keyword word.Continuation ⨾ ident name ⨾ round (may_list kinded ks) ⨾ symbol sign.Colon) r ≡ Some t →
      parameters q (continuation_of s name) ≡ map (parameter_of s) ks → r.taken + own_tokens q (forms.Continuation (continuation_of s name)) ≤ t.taken
  continuation_cost name ks r t is there =
      let a = middle (keyword word.Continuation r) (ident name ⨾ round (may_list kinded ks) ⨾ symbol sign.Colon) t is in
      let b = middle (ident name a.at_) (round (may_list kinded ks) ⨾ symbol sign.Colon) t a.next in
      let d = middle (round (may_list kinded ks) b.at_) (symbol sign.Colon) t b.next in
      let i = enclosed_of sign.Open (may_list kinded ks) sign.Close b.at_ d.at_ d.first in
      let x : a.at_.taken ≡ suc r.taken = next_token (is_word word.Continuation) r a.at_ a.first in
      let y : b.at_.taken ≡ suc a.at_.taken = ident_token name a.at_ b.at_ b.first in
      let x4 : i.from.taken ≡ suc b.at_.taken = i.low in let x5 : d.at_.taken ≡ suc i.to.taken = i.high in
      let z : i.from.taken + name_tokens (map (parameter_of s) ks) ≤ i.to.taken =
      list_cost kinded (parameter_of s) (λ _. 1) (λ k m n e. let h : suc m.taken ≤ n.taken = kinded_tokens k m n e in omega arith) ks i.from i.to i.is in
      let w : t.taken ≡ suc d.at_.taken = ends_by sign.Colon d.at_ t d.next in
      let e : name_tokens (parameters q (continuation_of s name)) ≡ name_tokens (map (parameter_of s) ks) = ap (λ ns. name_tokens ns) there in omega arith

  -- ---- each statement

  pub form_cost : (n : ℕ) (spans : List SpanValue) (form : StmtForm) (r t : Reading) → stmt_form form r ≡ Some t → Needs n spans form → r.taken + own_tokens q (form_of s n form) + blocks_length form ≤ t.taken
  form_cost n spans (stmts.If' condition _ body otherwise) r t is needs =
      if_cost (keyword word.If) (λ a b e. next_token (is_word word.If) a b e) n _ (n + sites_in_row body) condition body otherwise r t is needs
  form_cost n spans (stmts.Switch' over value _ arms) r t is needs =
      let a = middle (keyword word.Switch r) (optional switch_span over ⨾ whole value ⨾ braces (arm_row arms)) t is in
      let b = middle (optional switch_span over a.at_) (whole value ⨾ braces (arm_row arms)) t a.next in
      let d = middle (whole value b.at_) (braces (arm_row arms)) t b.next in
      let i = enclosed_of sign.OpenBrace (arm_row arms) sign.CloseBrace d.at_ t d.next in
      let x : a.at_.taken ≡ suc r.taken = next_token (is_word word.Switch) r a.at_ a.first in
      let y : a.at_.taken ≤ b.at_.taken = (steady_optional switch_span steady_span over a.at_ b.at_ b.first).grows in
      let z : b.at_.taken + expression_tokens alone (value_of names value) ≤ d.at_.taken = value_costs names short value b.at_ d.at_ d.first in
      let low : i.from.taken ≡ suc d.at_.taken = i.low in let high : t.taken ≡ suc i.to.taken = i.high in
      let h : i.from.taken + sum_by (λ b. case_tokens b.case) (map branch_of (arms_of s n (value_width s value) arms)) + arms_length arms ≤ i.to.taken = arms_cost n (value_width s value) _ arms i.from i.to i.is in
      let own : own_tokens q (forms.Switch (value_of names value) (arms_of s n (value_width s value) arms)) ≡ 3 + expression_tokens alone (value_of names value) + sum_by (λ b. case_tokens b.case) (map branch_of (arms_of s n (value_width s value) arms)) =
      switch_is q (value_of names value) (arms_of s n (value_width s value) arms) in omega arith
  form_cost n spans (stmts.Span' key value _ body) r t is needs =
      let a = middle (keyword word.Span r) (whole_prim key ⨾ whole value ⨾ braces (part_row body)) t is in
      let b = middle (whole_prim key a.at_) (whole value ⨾ braces (part_row body)) t a.next in
      let d = middle (whole value b.at_) (braces (part_row body)) t b.next in
      let x : a.at_.taken ≡ suc r.taken = next_token (is_word word.Span) r a.at_ a.first in
      let y : suc a.at_.taken ≤ b.at_.taken = prim_strict names short key a.at_ b.at_ b.first in
      let z : suc b.at_.taken ≤ d.at_.taken = whole_strict names short value b.at_ d.at_ d.first in
      let h : d.at_.taken + 2 + row_length body ≤ t.taken = block_cost _ body d.at_ t d.next in
      let own : own_tokens q (forms.Span (row_of s n body)) ≡ 5 = span_is q (row_of s n body) in omega arith
  form_cost n spans (stmts.Assign to values) r t is needs = let h : r.taken + own_tokens q (forms.Assign (map (place_of names) to) (map (value_of names) values)) ≤ t.taken = assign_cost to values r t is in omega arith
  form_cost n spans (stmts.Checked result op left right fs) r t is needs = let h : r.taken + own_tokens q (checked_form s n op left right) ≤ t.taken = checked_cost n spans result op left right fs r t is needs in omega arith
  form_cost n spans (stmts.Call ks None what as_ fs) r t is needs = let h : r.taken + own_tokens q (call_form s n what (values_of names as_)) ≤ t.taken = call_cost n spans ks what as_ fs r t is needs in omega arith
  form_cost n spans (stmts.Call ks (Some convention) what as_ fs) r t is needs =
      let h : r.taken + own_tokens q (host_form s (foreign_callee s what) ks (values_of names as_)) ≤ t.taken = foreign_cost ks convention what as_ fs r t is needs in omega arith
  form_cost n spans (stmts.Jump what as_) r t is needs = let h : r.taken + own_tokens q (forms.Jump (callee_of names what) (values_of names as_)) ≤ t.taken = jump_cost what as_ r t is in omega arith
  form_cost n spans (stmts.Return exit_ values) r t is needs = let h : r.taken + own_tokens q (return_form s exit_ (values_of names (passed values))) ≤ t.taken = return_cost exit_ values r t is in omega arith
  form_cost n spans (stmts.Label name) r t is needs =
      let a = middle (ident name r) (symbol sign.Colon) t is in let x : a.at_.taken ≡ suc r.taken = ident_token name r a.at_ a.first in let y : t.taken ≡ suc a.at_.taken = ends_by sign.Colon a.at_ t a.next in omega arith
  form_cost n spans (stmts.Continuation name ks) r t is needs = let h : r.taken + own_tokens q (forms.Continuation (continuation_of s name)) ≤ t.taken = continuation_cost name ks r t is needs in omega arith
  form_cost n spans (stmts.Goto name) r t is needs =
      let a = middle (keyword word.Goto r) (ident name ⨾ symbol sign.Semicolon) t is in let b = middle (ident name a.at_) (symbol sign.Semicolon) t a.next in
      let x : a.at_.taken ≡ suc r.taken = next_token (is_word word.Goto) r a.at_ a.first in let y : b.at_.taken ≡ suc a.at_.taken = ident_token name a.at_ b.at_ b.first in
      let z : t.taken ≡ suc b.at_.taken = ends_by sign.Semicolon b.at_ t b.next in omega arith
  form_cost n spans (stmts.Cut what as_ fs) r t is needs =
      let h : r.taken + own_tokens q (forms.Cut (callee_of names what) (values_of names as_) (continuations_by s cut_names fs)) ≤ t.taken = cut_cost what as_ fs r t is in omega arith
  form_cost n spans stmts.Empty r t is needs = let x : t.taken ≡ suc r.taken = ends_by sign.Semicolon r t is in omega arith

  -- an `if` after an `else` too
  pub chained_cost : (n : ℕ) (spans : List SpanValue) (form : StmtForm) (r t : Reading) → chained form r ≡ Some t → Needs n spans form → r.taken + own_tokens q (form_of s n form) + blocks_length form ≤ t.taken
  chained_cost n spans (stmts.If' condition _ body otherwise) r t is needs =
      if_cost (opening (keyword word.If)) (λ a b e. opening_token (is_word word.If) a b e) n _ (n + sites_in_row body) condition body otherwise r t is needs
  chained_cost n spans form r t is needs = let bad : None ≡ Some t = is in cc
