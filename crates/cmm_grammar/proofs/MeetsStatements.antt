-- Readers of the parts of a body that hold no block meet the grammar.
use Rattle.std.proofs.Common.{ℕ, true, ◌∷◌, Option, Some, None, refl, sym, ap, []}
use Rattle.cmm_lexer.specs.declared.piece.Lexeme.{Lexeme}
use Rattle.cmm_lexer.specs.declared.piece.Lexeme.TheVariants as l
use Rattle.cmm_ast.specs.declared.token.Ident.{Ident}
use Rattle.cmm_lexer.specs.declared.keyword.Keyword.TheVariants as word
use Rattle.cmm_lexer.specs.declared.symbol.Symbol.TheVariants as sign
use Rattle.cmm_ast.specs.declared.expression.Memory.{Memory}
use Rattle.cmm_ast.specs.declared.procedure.LocalForm.{LocalForm}
use Rattle.cmm_ast.specs.declared.procedure.Modifiers.TheVariants as before
use Rattle.cmm_ast.specs.declared.statement.CalleeForm.TheVariants as callees
use Rattle.cmm_ast.specs.declared.statement.Case.TheVariants as cases
use Rattle.cmm_ast.specs.declared.statement.Lvalue.TheVariants as lvalues
use Rattle.cmm_ast.specs.declared.statement.StmtForm.{StmtForm}
use Rattle.cmm_ast.specs.declared.statement.StmtForm.TheVariants as stmts
use Rattle.cmm_grammar.specs.Taking.{Takes, ◌⨾◌, is_word, is_sign, keyword as keyword_is, symbol as symbol_is, outermost as outermost_is}
use Rattle.cmm_grammar.specs.ExpressionGrammar as grammar
use Rattle.cmm_grammar.specs.StatementGrammar as bodies
use Rattle.cmm_grammar.specs.Reading.{Reads}
use Rattle.cmm_grammar.specs.ExpressionReading.{named_type}
use Rattle.cmm_grammar.specs.PartReading.{is_any_name, is_width, begins_kinded}
use Rattle.cmm_grammar.specs.CallReading.{call_after}
use Rattle.cmm_grammar.specs.TargetReading.{Names, Lvalues, Results}
use Rattle.cmm_grammar.specs.StatementReading.{case, span_ends, switch_span, jump, return_form, goto, cut, continuation, word_stmt, symbol_stmt, memory_token, memory_stmt, name_stmt, OfLocal, OfStmt, of_stmt, of_local, name_part, text_part, word_part, flat_by, flat_part}
use Rattle.cmm_grammar.proofs.Takings.{takes_assoc, takes_nothing}
use Rattle.cmm_grammar.proofs.ExpressionForms.{here_twice}
use Rattle.cmm_grammar.proofs.StatementForms.{memory_here, form_is}
use Rattle.cmm_grammar.proofs.Meets.{Leads, LeadsAt, Meets, after_leads, then_leads, whole_meets, give_leads, last_leads, made_leads, leads_same, at_leads, look_leads, stop_leads, if_next_leads}
use Rattle.cmm_grammar.proofs.MeetsLists.{symbol_meets, closing_meets, keyword_meets, ident_meets, text_meets, if_word_leads, if_symbol_leads, round_meets, square_meets, optional_meets, commas_meets, may_list_meets}
use Rattle.cmm_grammar.proofs.MeetsExpressions.{type_name_meets}
use Rattle.cmm_grammar.proofs.MeetsParts.{kinded_meets, arguments_meets, callee_meets, annotations_meets, exit_meets, range_meets}
use Rattle.cmm_grammar.proofs.MeetsTargets.{call_leads, call_after_leads, assignment_leads}
use Rattle.cmm_grammar.proofs.MeetsOperands.{whole_expr_meets, whole_memory_leads}
use Rattle.cmm_grammar.proofs.MeetsProcedures.{modifiers_meets, variables_leads, stackdata_leads}

module _ (fuel : ℕ) where
  -- ---- parts of statements

  pub case_meets : Meets true true (case fuel) bodies.case
  case_meets =
      whole_meets
      (if_word_leads word.Default (last_leads (λ _. cases.Default) (symbol_meets sign.Colon) (λ _. refl))
      (after_leads (keyword_meets word.Case) (λ _. after_leads (commas_meets (range_meets fuel) fuel) (λ ranges.
      last_leads (λ _. cases.Ranges ranges) (symbol_meets sign.Colon) (λ _. refl)))))

  pub switch_span_meets : Meets true true (switch_span fuel) bodies.switch_span
  switch_span_meets = square_meets {is = λ s. grammar.whole s.from ⨾ symbol_is sign.Range ⨾ grammar.whole s.to} ends_meets where
    ends_meets : Meets true true (span_ends fuel) (λ s. grammar.whole s.from ⨾ symbol_is sign.Range ⨾ grammar.whole s.to)
    ends_meets =
        whole_meets
        (after_leads (whole_expr_meets fuel) (λ from. after_leads (symbol_meets sign.Range) (λ _.
        last_leads (λ to. record { from = from; to = to }) (whole_expr_meets fuel) (λ to. refl))))

  -- ---- statements that begin with a reserved word

  return_leads : Leads true true true (λ k. keyword_is word.Return ⨾ k) (return_form fuel) bodies.stmt_form
  return_leads =
      after_leads (optional_meets (is_sign sign.Less) (exit_meets fuel)) (λ by.
      after_leads (optional_meets (is_sign sign.Open) (arguments_meets fuel)) (λ found.
      last_leads (λ _. stmts.Return by found) (symbol_meets sign.Semicolon) (λ _. refl)))

  goto_leads : Leads true true true (λ k. keyword_is word.Goto ⨾ k) goto bodies.stmt_form
  goto_leads = after_leads ident_meets (λ name. last_leads (λ _. stmts.Goto name) (symbol_meets sign.Semicolon) (λ _. refl))

  jump_leads : Leads true true true (λ k. keyword_is word.Jump ⨾ k) (jump fuel) bodies.stmt_form
  jump_leads =
      after_leads (callee_meets fuel) (λ what. after_leads (arguments_meets fuel) (λ actuals.
      last_leads (λ _. stmts.Jump what actuals) (symbol_meets sign.Semicolon) (λ _. refl)))

  cut_leads : Leads true true true (λ k. keyword_is word.Cut ⨾ k) (cut fuel) bodies.stmt_form
  cut_leads =
      after_leads (keyword_meets word.To) (λ _. after_leads (callee_meets fuel) (λ what. after_leads (arguments_meets fuel) (λ actuals.
      after_leads (annotations_meets fuel) (λ fs. last_leads (λ _. stmts.Cut what actuals fs) (closing_meets sign.Semicolon refl) (λ _. refl)))))

  continuation_leads : Leads true true true (λ k. keyword_is word.Continuation ⨾ k) (continuation fuel) bodies.stmt_form
  continuation_leads =
      after_leads ident_meets (λ name. after_leads (round_meets (may_list_meets kinded_meets begins_kinded fuel)) (λ parameters.
      last_leads (λ _. stmts.Continuation name parameters) (symbol_meets sign.Colon) (λ _. refl)))

  -- a call without results
  plain_call_leads : Leads true true true (λ k. k) (call_after fuel []) bodies.stmt_form
  plain_call_leads = leads_same (λ k. refl) (call_after_leads fuel [])

  word_stmt_leads : Leads true true true (λ k. k) (word_stmt fuel) bodies.stmt_form
  word_stmt_leads =
      if_word_leads word.Return return_leads (if_word_leads word.Goto goto_leads (if_word_leads word.Jump jump_leads (if_word_leads word.Cut cut_leads
      (if_word_leads word.Continuation continuation_leads
      (if_next_leads (is_word word.Foreign) plain_call_leads (stop_leads plain_call_leads.ends))))))

  symbol_stmt_leads : Leads true true true (λ k. k) (symbol_stmt fuel) bodies.stmt_form
  symbol_stmt_leads =
      if_next_leads (is_sign sign.Open) plain_call_leads (last_leads (λ _. stmts.Empty) (symbol_meets sign.Semicolon) (λ _. refl))

  -- ---- statements that begin with a name or a word in memory

  memory_stmt_leads : (m : Memory) → Leads true true true (λ k. grammar.whole_memory m ⨾ k) (memory_stmt fuel m) bodies.stmt_form
  memory_stmt_leads m =
      if_next_leads (is_sign sign.Open)
      (call_leads fuel [] None (record { token = memory_token m; form = callees.Memory m }) (λ k. ap (λ t. t ⨾ outermost_is k) (sym (memory_here m))))
      (leads_same (λ k. refl) (assignment_leads fuel (Lvalues (lvalues.Memory m ∷ []))))

  name_stmt_leads : (name : Ident) → Leads true true true (λ k. grammar.ident name ⨾ k) (name_stmt fuel name) bodies.stmt_form
  name_stmt_leads name =
      if_symbol_leads sign.Colon (give_leads (stmts.Label name) (ap (λ t. grammar.ident name ⨾ t) (sym (takes_nothing (symbol_is sign.Colon)))))
      (if_next_leads (is_sign sign.OpenSquare) (then_leads (whole_memory_leads fuel (named_type name)) memory_stmt_leads)
      (if_next_leads (is_sign sign.Open)
      (call_leads fuel [] None (record { token = name.token; form = callees.Name name })
      (λ k. ap (λ t. t ⨾ outermost_is k) (sym (here_twice name.token _))))
      (leads_same (λ k. refl) (assignment_leads fuel (Names (name ∷ []))))))

-- ---- parts that hold no block

pub of_stmt_leads : {so_far : Takes → Takes} {reads : Reads StmtForm} → Leads true true true so_far reads bodies.stmt_form →
    Leads true true true so_far (of_stmt reads) form_is
of_stmt_leads it = made_leads OfStmt it (λ form. refl)

of_local_leads : {so_far : Takes → Takes} {reads : Reads LocalForm} → Leads true true true so_far reads bodies.local_form →
    Leads true true true so_far (of_local reads) form_is
of_local_leads it = made_leads OfLocal it (λ form. refl)

module _ (fuel : ℕ) where
  name_part_leads : Leads true true true (λ k. k) (name_part fuel) form_is
  name_part_leads =
      after_leads ident_meets (λ name.
      if_next_leads is_any_name (of_local_leads (leads_same (λ k. refl) (variables_leads fuel before.Nothing (named_type name))))
      (of_stmt_leads (name_stmt_leads fuel name)))

  text_part_leads : Leads true true true (λ k. k) (text_part fuel) form_is
  text_part_leads =
      after_leads text_meets (λ kind.
      if_word_leads word.Invariant
      (after_leads type_name_meets (λ width.
      of_local_leads
      (leads_same (λ k. sym (takes_assoc (grammar.text kind) (keyword_is word.Invariant) (grammar.type_name width ⨾ k)))
      (variables_leads fuel (before.KindInvariant kind) width))))
      (if_next_leads is_width (after_leads type_name_meets (λ width. of_local_leads (variables_leads fuel (before.Kind kind) width)))
      (after_leads ident_meets (λ name.
      if_next_leads is_any_name (of_local_leads (leads_same (λ k. refl) (variables_leads fuel (before.Kind kind) (named_type name))))
      (of_stmt_leads
      (leads_same (λ k. sym (takes_assoc (grammar.text kind) (grammar.ident name) k))
      (assignment_leads fuel (Results (record { kind = Some kind; name = name } ∷ [])))))))))

  word_part_leads : Leads true true true (λ k. k) (word_part fuel) form_is
  word_part_leads =
      if_next_leads is_width
      (after_leads type_name_meets (λ width.
      if_next_leads (is_sign sign.OpenSquare)
      (of_stmt_leads (then_leads (whole_memory_leads fuel width) (memory_stmt_leads fuel)))
      (of_local_leads (leads_same (λ k. refl) (variables_leads fuel before.Nothing width)))))
      (if_next_leads (is_word word.Invariant)
      (after_leads modifiers_meets (λ found. after_leads type_name_meets (λ width. of_local_leads (variables_leads fuel found width))))
      (if_word_leads word.Stackdata (of_local_leads (stackdata_leads fuel)) (of_stmt_leads (word_stmt_leads fuel))))

  pub flat_part_leads : Leads true true true (λ k. k) (flat_part fuel) form_is
  flat_part_leads = look_leads other.ends by where
    other : Leads true true true (λ k. k) (of_stmt (symbol_stmt fuel)) form_is
    other = of_stmt_leads (symbol_stmt_leads fuel)

    by : (x : Option Lexeme) → LeadsAt x true true true (λ k. k) (flat_by fuel x) form_is
    by (Some (l.Name bytes)) = at_leads name_part_leads
    by (Some (l.Text bytes)) = at_leads text_part_leads
    by (Some (l.Word n)) = at_leads word_part_leads
    by _ = at_leads other
