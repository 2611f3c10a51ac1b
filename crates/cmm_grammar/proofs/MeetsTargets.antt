-- Readers of calls, of targets and of the statements that they begin meet the grammar.
use Rattle.std.proofs.Common.{◌≡◌, ℕ, zero, suc, true, false, List, [], ◌∷◌, ◌++◌, Option, Some, None, refl, sym, ap, ◌∙◌}
use Rattle.cmm_lexer.specs.declared.piece.Lexeme.TheVariants as l
use Rattle.cmm_ast.specs.declared.token.Ident.{Ident}
use Rattle.cmm_ast.specs.declared.token.Text.{Text}
use Rattle.cmm_lexer.specs.declared.keyword.Keyword.TheVariants.{Foreign}
use Rattle.cmm_lexer.specs.declared.symbol.Symbol.TheVariants as sign
use Rattle.cmm_ast.specs.declared.expression.Expr.{Expr}
use Rattle.cmm_ast.specs.declared.statement.Callee.{Callee}
use Rattle.cmm_ast.specs.declared.statement.CalleeForm.{CalleeForm}
use Rattle.cmm_ast.specs.declared.statement.Kinded.{Kinded}
use Rattle.cmm_ast.specs.declared.statement.StmtForm.TheVariants as stmts
use Rattle.cmm_grammar.specs.Taking.{Takes, ◌⨾◌, is_word, is_sign, is_checked, keyword as keyword_is, symbol as symbol_is, optional as optional_is, commas as commas_is, listed as listed_is, may_comma as may_comma_is, outermost as outermost_is}
use Rattle.cmm_grammar.specs.ExpressionGrammar as grammar
use Rattle.cmm_grammar.specs.StatementGrammar as bodies
use Rattle.cmm_grammar.specs.Reading.{is_comma, more_listed, checked_in}
use Rattle.cmm_grammar.specs.ExpressionReading.{begins_expression, whole}
use Rattle.cmm_grammar.specs.PartReading.{is_any_text}
use Rattle.cmm_grammar.specs.CallReading.{call, convention, call_after}
use Rattle.cmm_grammar.specs.TargetReading.{Targets, Names, Lvalues, Results, with_lvalue, next_target, more_targets, called, assign, values, is_checked_operator, checked_operator, two_values, checked, assigned, assignment, callee_of_form, lvalues_of, results_of}
use Rattle.cmm_grammar.proofs.Takings.{takes_assoc, takes_nothing, commas_to, takes_assoc3}
use Rattle.cmm_grammar.proofs.StatementForms.{targets_are, commas_more, lvalues_same, results_same, After_comma, After_assign, assigned_results, called_form, with_lvalue_is}
use Rattle.cmm_grammar.proofs.Tokens.{checked_in_is}
use Rattle.cmm_grammar.proofs.Meets.{Leads, Meets, after_leads, then_leads, whole_meets, give_leads, last_leads, leads_same, never_leads, at_leads, next_leads, stop_leads, if_next_leads}
use Rattle.cmm_grammar.proofs.MeetsTokens.{skip_leads, here_meets, outermost_leads}
use Rattle.cmm_grammar.proofs.MeetsLists.{symbol_meets, closing_meets, text_meets, pick_meets, if_word_leads, round_meets, listed_meets, more_listed_leads}
use Rattle.cmm_grammar.proofs.MeetsParts.{kinded_meets, listed_arguments_meets, lvalue_meets, callee_meets, annotations_meets}
use Rattle.cmm_grammar.proofs.MeetsOperands.{whole_expr_meets}

-- ---- calls

convention_meets : Meets true true convention (optional_is (λ t. keyword_is Foreign ⨾ grammar.text t))
convention_meets = whole_meets (if_word_leads Foreign (last_leads Some text_meets (λ t. refl)) (give_leads None refl))

checked_operator_meets : Meets true true checked_operator bodies.checked
checked_operator_meets =
    whole_meets (after_leads here_meets (λ token. last_leads _ (pick_meets checked_in is_checked checked_in_is (l.Checked []) [] refl (λ e. refl)) (λ bytes. refl)))

module _ (fuel : ℕ) where
  -- after the callee, whichever way that and what stands before it were read
  pub call_leads : {so_far : Takes → Takes} (to : List Kinded) (by : Option Text) (what : Callee) →
      ((k : Takes) → so_far (outermost_is k)
      ≡ (bodies.results to ⨾ optional_is (λ t. keyword_is Foreign ⨾ grammar.text t) by ⨾ bodies.callee what ⨾ outermost_is k)) →
      Leads true true true so_far (call fuel to by what) bodies.stmt_form
  call_leads to by what same =
      outermost_leads
      (leads_same same
      (after_leads (listed_arguments_meets fuel) (λ actuals. after_leads (annotations_meets fuel) (λ fs.
      last_leads (λ _. stmts.Call to by what actuals fs) (closing_meets sign.Semicolon refl) (λ _. refl)))))

  pub call_after_leads : (to : List Kinded) → Leads true true true (λ k. bodies.results to ⨾ k) (call_after fuel to) bodies.stmt_form
  call_after_leads to =
      after_leads convention_meets (λ by. after_leads (callee_meets fuel) (λ what. call_leads to by what (λ k. refl)))

  -- ---- the targets

  next_target_leads : (t : Targets) → Leads true true true (After_comma t) (next_target fuel t) targets_are
  next_target_leads (Names []) = never_leads (λ k r. refl)
  next_target_leads (Names (a ∷ as_)) =
      if_next_leads is_any_text
      (last_leads (λ k. Results (results_of (a ∷ as_) ++ (k ∷ []))) kinded_meets (λ k.
      commas_more bodies.kinded (record { kind = None; name = a }) (results_of as_) k ∙ ap (λ t. t ⨾ symbol_is sign.Comma ⨾ bodies.kinded k) (results_same (a ∷ as_))))
      (last_leads (λ to. with_lvalue (a ∷ as_) to) (lvalue_meets fuel) (with_lvalue_is a as_))
  next_target_leads (Lvalues []) = never_leads (λ k r. refl)
  next_target_leads (Lvalues (a ∷ as_)) =
      last_leads (λ one. Lvalues ((a ∷ as_) ++ (one ∷ []))) (lvalue_meets fuel) (λ one. commas_more bodies.lvalue a as_ one)
  next_target_leads (Results []) = never_leads (λ k r. refl)
  next_target_leads (Results (a ∷ as_)) = last_leads (λ k. Results ((a ∷ as_) ++ (k ∷ []))) kinded_meets (λ k. commas_more bodies.kinded a as_ k)

  more_targets_leads : (turns : ℕ) (t : Targets) → Leads true true true (λ k. targets_are t ⨾ k) (more_targets turns fuel t) targets_are
  more_targets_leads zero t = stop_leads (give_leads t (sym (takes_nothing (targets_are t)))).ends
  more_targets_leads (suc turns) t =
      let done = give_leads t (sym (takes_nothing (targets_are t))) in
      next_leads done.ends
      (λ x passed. skip_leads is_comma passed (λ _. then_leads (next_target_leads t) (λ more. more_targets_leads turns more)))
      (λ x none. at_leads done)

  -- ---- what follows the `=`

  two_values_meets : Meets true true (two_values fuel) (λ two. grammar.whole two.0 ⨾ symbol_is sign.Comma ⨾ grammar.whole two.1)
  two_values_meets =
      whole_meets
      (after_leads (whole_expr_meets fuel) (λ left. after_leads (symbol_meets sign.Comma) (λ _. last_leads (λ right. (left, right)) (whole_expr_meets fuel) (λ e. refl))))

  -- an opening bracket after an expression that is no callee is refused: values go on from there
  values_leads : (a : Ident) (as_ : List Ident) → Leads true true true (After_assign (Names (a ∷ as_))) (values fuel (a ∷ as_)) bodies.stmt_form
  values_leads a as_ =
      after_leads (whole_expr_meets fuel) (λ value.
      if_next_leads (is_sign sign.Open) (by value (callee_of_form value.token value.form) refl) (assigned_values value))
    where
      first_values : (value : Expr) → Leads true true false (λ k. targets_are (Names (a ∷ as_)) ⨾ symbol_is sign.Assign ⨾ grammar.whole value ⨾ k)
          (more_listed fuel begins_expression (whole fuel) (value ∷ []))
          (λ vs. targets_are (Names (a ∷ as_)) ⨾ symbol_is sign.Assign ⨾ listed_is grammar.whole vs)
      first_values value = more_listed_leads (whole_expr_meets fuel) (After_assign (Names (a ∷ as_)))
          (λ vs. targets_are (Names (a ∷ as_)) ⨾ symbol_is sign.Assign ⨾ listed_is grammar.whole vs)
          (λ v vs. ap (After_assign (Names (a ∷ as_))) (commas_to grammar.whole v vs may_comma_is)) begins_expression fuel value []

      assigned_values : (value : Expr) → Leads true true true (λ k. targets_are (Names (a ∷ as_)) ⨾ symbol_is sign.Assign ⨾ grammar.whole value ⨾ k)
          (assign fuel (lvalues_of (a ∷ as_)) (more_listed fuel begins_expression (whole fuel) (value ∷ []))) bodies.stmt_form
      assigned_values value = then_leads (first_values value) (λ vs.
          last_leads (λ _. stmts.Assign (lvalues_of (a ∷ as_)) vs) (closing_meets sign.Semicolon refl) (λ _.
          ap (λ t. t ⨾ symbol_is sign.Assign ⨾ listed_is grammar.whole vs ⨾ symbol_is sign.Semicolon) (lvalues_same (a ∷ as_))
          ∙ sym (takes_assoc3 (targets_are (Names (a ∷ as_))) (symbol_is sign.Assign) (listed_is grammar.whole vs) (symbol_is sign.Semicolon))))

      by : (value : Expr) (o : Option CalleeForm) → callee_of_form value.token value.form ≡ o →
          Leads true true true (λ k. targets_are (Names (a ∷ as_)) ⨾ symbol_is sign.Assign ⨾ grammar.whole value ⨾ k)
          (called fuel (a ∷ as_) value.token o) bodies.stmt_form
      by value (Some form) is =
          call_leads (results_of (a ∷ as_)) None (record { token = value.token; form = form })
          (λ k. ap (After_assign (Names (a ∷ as_))) (called_form value.token value.form form is k) ∙ assigned_results a as_ _)
      by value None is = stop_leads (assigned_values value).ends

  -- after more names than one an operator is refused: values go on from there
  checked_leads : (a : Ident) (as_ : List Ident) → Leads true true true (After_assign (Names (a ∷ as_))) (checked fuel (a ∷ as_)) bodies.stmt_form
  checked_leads a [] =
      after_leads checked_operator_meets (λ op. after_leads (round_meets two_values_meets) (λ two.
      after_leads (annotations_meets fuel) (λ fs. last_leads (λ _. stmts.Checked a op two.0 two.1 fs) (closing_meets sign.Semicolon refl) (λ _. refl))))
  checked_leads a (other ∷ rest) = stop_leads (values_leads a (other ∷ rest)).ends

  assigned_leads : (t : Targets) → Leads true true true (After_assign t) (assigned fuel t) bodies.stmt_form
  assigned_leads (Names []) = never_leads (λ k r. refl)
  assigned_leads (Names (a ∷ as_)) =
      if_next_leads (is_word Foreign) (leads_same (assigned_results a as_) (call_after_leads (results_of (a ∷ as_))))
      (if_next_leads is_checked_operator (checked_leads a as_) (values_leads a as_))
  assigned_leads (Lvalues to) =
      after_leads (listed_meets (whole_expr_meets fuel) begins_expression fuel)
      (λ vs. last_leads (λ _. stmts.Assign to vs) (closing_meets sign.Semicolon refl) (λ _. refl))
  assigned_leads (Results []) = never_leads (λ k r. refl)
  assigned_leads (Results (a ∷ as_)) =
      leads_same (λ k. sym (takes_assoc (commas_is bodies.kinded (a ∷ as_)) (symbol_is sign.Assign) k)) (call_after_leads (a ∷ as_))

  -- the rest of an assignment or of a call with results, after the first target
  pub assignment_leads : (first : Targets) → Leads true true true (λ k. targets_are first ⨾ k) (assignment fuel first) bodies.stmt_form
  assignment_leads first =
      then_leads (more_targets_leads fuel first) (λ t. after_leads (symbol_meets sign.Assign) (λ _. assigned_leads t))
