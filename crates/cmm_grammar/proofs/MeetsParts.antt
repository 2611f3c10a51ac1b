-- Readers of the parts of statements meet the grammar.
use Rattle.std.proofs.Common.{◌≡◌, ℕ, true, false, List, Some, None, refl, sym, ap, ◌∙◌}
use Rattle.cmm_ast.specs.declared.token.Ident.{Ident}
use Rattle.cmm_lexer.specs.declared.keyword.Keyword.{Keyword}
use Rattle.cmm_lexer.specs.declared.keyword.Keyword.TheVariants.{Aborts, Also, Cuts, Never, Returns, To, Unwinds}
use Rattle.cmm_lexer.specs.declared.symbol.Symbol.TheVariants.{Open, OpenSquare, Less, Greater, Slash}
use Rattle.cmm_lexer.specs.declared.symbol.Symbol.TheVariants as sign
use Rattle.cmm_ast.specs.declared.statement.CalleeForm.TheVariants as callees
use Rattle.cmm_ast.specs.declared.statement.FlowForm.{FlowForm}
use Rattle.cmm_ast.specs.declared.statement.FlowForm.TheVariants as flows
use Rattle.cmm_ast.specs.declared.statement.Lvalue.TheVariants as lvalues
use Rattle.cmm_grammar.specs.Taking.{◌⨾◌, is_sign, here as here_is, keyword as keyword_is, symbol as symbol_is, round as round_is, may_list as may_list_is, optional as optional_is, may_comma as may_comma_is}
use Rattle.cmm_grammar.specs.ExpressionGrammar as grammar
use Rattle.cmm_grammar.specs.StatementGrammar as statements
use Rattle.cmm_grammar.specs.Reading.{round, may_list}
use Rattle.cmm_grammar.specs.ExpressionReading.{named_type}
use Rattle.cmm_grammar.specs.PartReading.{is_any_text, is_any_name, is_width, kinded, actual, arguments, begins_actual, lvalue, called, callee_form, callee, begins_flow, names_to, also, flow_form, flow, annotations, exit, range_end, range}
use Rattle.cmm_grammar.proofs.Takings.{takes_assoc, takes_nothing}
use Rattle.cmm_grammar.proofs.StatementForms.{flow_is, named_same, called_is}
use Rattle.cmm_grammar.proofs.Meets.{Leads, Meets, after_leads, whole_meets, give_leads, last_leads, made_leads, if_next_leads, meets_first}
use Rattle.cmm_grammar.proofs.MeetsTokens.{here_meets, outermost_meets}
use Rattle.cmm_grammar.proofs.MeetsLists.{symbol_meets, keyword_meets, ident_meets, text_meets, if_word_leads, if_symbol_leads, round_meets, optional_meets, many_meets, may_comma_meets, listed_meets, may_list_meets}
use Rattle.cmm_grammar.proofs.MeetsExpressions.{type_name_meets}
use Rattle.cmm_grammar.proofs.MeetsOperands.{whole_expr_meets, whole_prim_meets, whole_memory_leads}

-- ---- results and parameters

pub kinded_meets : Meets true true kinded statements.kinded
kinded_meets = whole_meets (after_leads (optional_meets is_any_text text_meets) (λ kind. last_leads _ ident_meets (λ name. refl)))

-- ---- annotations

names_leads : (fuel : ℕ) (verb : Keyword) (make : List Ident → FlowForm) → ((names : List Ident) → statements.flow_form (make names) ≡ statements.names_to verb names) →
    Leads false true false (λ k. keyword_is Also ⨾ keyword_is verb ⨾ k) (names_to fuel make) flow_is
names_leads fuel verb make same =
    after_leads (keyword_meets To) (λ _.
    last_leads make (listed_meets ident_meets is_any_name fuel) (λ names. ap (λ t. t ⨾ may_comma_is) (same names) ∙ named_same verb names))

also_leads : (fuel : ℕ) → Leads false true false (λ k. keyword_is Also ⨾ k) (also fuel) flow_is
also_leads fuel =
    if_word_leads Aborts (last_leads (λ _. flows.Aborts) may_comma_meets (λ _. takes_assoc (keyword_is Also) (keyword_is Aborts) may_comma_is))
    (if_word_leads Cuts (names_leads fuel Cuts (λ n. flows.CutsTo n) (λ n. refl))
    (if_word_leads Unwinds (names_leads fuel Unwinds (λ n. flows.UnwindsTo n) (λ n. refl))
    (after_leads (keyword_meets Returns) (λ _. names_leads fuel Returns (λ n. flows.ReturnsTo n) (λ n. refl)))))

-- after another, or after a list
flow_form_meets : (fuel : ℕ) → Meets false false (flow_form fuel) flow_is
flow_form_meets fuel =
    whole_meets
    (if_word_leads Never
    (after_leads (keyword_meets Returns) (λ _.
    last_leads (λ _. flows.NeverReturns) may_comma_meets (λ _. takes_assoc (keyword_is Never) (keyword_is Returns) may_comma_is)))
    (after_leads (keyword_meets Also) (λ _. also_leads fuel)))

flow_meets : (fuel : ℕ) → Meets false false (flow fuel) (λ f. here_is f.token ⨾ flow_is f.form)
flow_meets fuel = whole_meets (after_leads here_meets (λ token. last_leads _ (flow_form_meets fuel) (λ form. refl)))

pub annotations_meets : (fuel : ℕ) → Meets true false (annotations fuel) statements.annotated
annotations_meets fuel = meets_first (many_meets (flow_meets fuel) begins_flow fuel)

-- ---- what holds expressions

module _ (fuel : ℕ) where
  actual_meets : Meets true true (actual fuel) statements.actual
  actual_meets = whole_meets (after_leads (optional_meets is_any_text text_meets) (λ kind. last_leads _ (whole_expr_meets fuel) (λ value. refl)))

  pub listed_arguments_meets : Meets true true (round (may_list fuel begins_actual (actual fuel))) (λ as_. round_is (may_list_is statements.actual as_))
  listed_arguments_meets = round_meets (may_list_meets actual_meets begins_actual fuel)

  pub arguments_meets : Meets true true (arguments fuel) statements.arguments
  arguments_meets = outermost_meets listed_arguments_meets

  -- ---- what is assigned to and called

  pub lvalue_meets : Meets true true (lvalue fuel) statements.lvalue
  lvalue_meets =
      whole_meets
      (if_next_leads is_width (after_leads type_name_meets (λ width. made_leads (λ m. lvalues.Memory m) (whole_memory_leads fuel width) (λ m. refl)))
      (after_leads ident_meets (λ name.
      if_next_leads (is_sign OpenSquare) (made_leads (λ m. lvalues.Memory m) (whole_memory_leads fuel (named_type name)) (λ m. refl))
      (give_leads (lvalues.Name name) (sym (takes_nothing (grammar.ident name)))))))

  pub callee_meets : Meets true true (callee fuel) statements.callee
  callee_meets = whole_meets (after_leads here_meets (λ token. last_leads _ form_meets (λ form. refl))) where
    form_meets : Meets true true (callee_form fuel) statements.callee_form
    form_meets =
        whole_meets
        (if_next_leads (is_sign Open) (last_leads (λ e. callees.Bracketed e) (round_meets (whole_expr_meets fuel)) (λ e. refl))
        (last_leads called lvalue_meets called_is))

  -- ---- exits and ranges

  pub exit_meets : Meets true true (exit fuel) statements.exit
  exit_meets =
      whole_meets (after_leads here_meets (λ token. after_leads (symbol_meets Less) (λ _. after_leads (whole_prim_meets fuel) (λ index.
      after_leads (symbol_meets Slash) (λ _. after_leads (whole_prim_meets fuel) (λ count. last_leads _ (symbol_meets Greater) (λ _. refl)))))))

  range_end_meets : Meets true true (range_end fuel) (optional_is (λ e. symbol_is sign.Range ⨾ grammar.whole e))
  range_end_meets = whole_meets (if_symbol_leads sign.Range (last_leads Some (whole_expr_meets fuel) (λ e. refl)) (give_leads None refl))

  pub range_meets : Meets true true (range fuel) statements.range
  range_meets = whole_meets (after_leads (whole_expr_meets fuel) (λ from. last_leads _ range_end_meets (λ to. refl)))
