-- Readers of statements that hold blocks, and of blocks, meet the grammar.
use Rattle.std.proofs.Common.{◌≡◌, ℕ, zero, suc, true, List, [], refl, sym, ap}
use Rattle.cmm_lexer.specs.declared.piece.Lexeme.TheVariants as l
use Rattle.cmm_lexer.specs.declared.keyword.Keyword.TheVariants as word
use Rattle.cmm_lexer.specs.declared.symbol.Symbol.TheVariants as sign
use Rattle.cmm_ast.specs.declared.expression.Expr.{Expr}
use Rattle.cmm_ast.specs.declared.statement.Block.{Block}
use Rattle.cmm_ast.specs.declared.statement.Otherwise.{Otherwise}
use Rattle.cmm_ast.specs.declared.statement.Otherwise.TheVariants as otherwises
use Rattle.cmm_ast.specs.declared.statement.Part.{Part}
use Rattle.cmm_ast.specs.declared.statement.StmtForm.{StmtForm}
use Rattle.cmm_ast.specs.declared.statement.StmtForm.TheVariants as stmts
use Rattle.cmm_lexer.specs.Spellings.{keyword_number}
use Rattle.cmm_grammar.specs.Taking.{Takes, ◌⨾◌, nothing, is_word, is_sign, keyword as keyword_is, here as here_is, enclosed as enclosed_is, opening as opening_is}
use Rattle.cmm_grammar.specs.ExpressionGrammar as grammar
use Rattle.cmm_grammar.specs.StatementGrammar as bodies
use Rattle.cmm_grammar.specs.Reading.{Reads, give, if_next, skip_opening, stop}
use Rattle.cmm_grammar.specs.StatementReading.{if_form, chained, otherwise, is_within, arm, switch_form, span_form, part_of, part_form, part, block}
use Rattle.cmm_grammar.proofs.Takings.{same_number, takes_assoc, many_to}
use Rattle.cmm_grammar.proofs.StatementForms.{form_of_if, chained_if, form_of_span, form_of_else, form_of_else_if, form_is, part_is, block_is, arm_, form_of_switch}
use Rattle.cmm_grammar.proofs.Meets.{Leads, Meets, after_leads, then_leads, whole_meets, give_leads, last_leads, stop_leads, if_next_leads}
use Rattle.cmm_grammar.proofs.MeetsTokens.{opening_meets, here_meets, enclosed_meets}
use Rattle.cmm_grammar.proofs.MeetsLists.{if_word_leads, braces_meets, optional_meets, row_meets}
use Rattle.cmm_grammar.proofs.MeetsStatements.{case_meets, switch_span_meets, of_stmt_leads, flat_part_leads}
use Rattle.cmm_grammar.proofs.MeetsOperands.{whole_expr_meets, whole_prim_meets}

opened_if_meets : Meets true true (if_next (is_word word.If) skip_opening stop) (λ _. opening_is (keyword_is word.If))
opened_if_meets = opening_meets (is_word word.If) (l.Word (keyword_number word.If)) (same_number (keyword_number word.If)) (λ e. refl)

-- a block of these parts
abbrev block_of : List Part → Block
block_of ps = record { parts = ps }

if_leads : {so_far : Takes → Takes} {takes : StmtForm → Takes} {blocks : Reads Block} {others : Reads Otherwise} → Meets true true blocks bodies.block →
    Meets true true others bodies.otherwise_ →
    ((c : Expr) (b : Block) (o : Otherwise) → takes (stmts.If c b o) ≡ so_far (grammar.whole c ⨾ bodies.block b ⨾ bodies.otherwise_ o)) → (fuel : ℕ) →
    Leads true true true so_far (if_form fuel blocks others) takes
if_leads inner rest same fuel =
    after_leads (whole_expr_meets fuel) (λ c. after_leads inner (λ b. last_leads (λ o. stmts.If c b o) rest (λ o. same c b o)))

module _ {blocks : Reads Block} (inner : Meets true true blocks bodies.block) where
  chained_meets : {others : Reads Otherwise} → Meets true true others bodies.otherwise_ → (fuel : ℕ) →
      Meets true true (chained (if_form fuel blocks others)) (λ s. enclosed_is (here_is s.token ⨾ bodies.chained s.form ⨾ here_is s.past))
  chained_meets rest fuel =
      enclosed_meets {is = λ s. here_is s.token ⨾ bodies.chained s.form ⨾ here_is s.past}
      (whole_meets
      (after_leads here_meets (λ token. after_leads opened_if_meets (λ _.
      then_leads (if_leads {takes = λ form. here_is token ⨾ bodies.chained form} inner rest (λ c b o. ap (λ t. here_is token ⨾ t) (chained_if c b o)) fuel)
      (λ form. last_leads (λ past. record { token = token; past = past; form = form }) here_meets (λ past.
      sym (takes_assoc (here_is token) (bodies.chained form) (here_is past))))))))

  otherwise_meets : (turns fuel : ℕ) → Meets true true (otherwise turns fuel blocks) bodies.otherwise_
  otherwise_meets zero fuel = whole_meets (stop_leads (give_leads otherwises.Nothing refl).ends)
  otherwise_meets (suc turns) fuel =
      whole_meets
      (if_word_leads word.Else
      (if_next_leads (is_sign sign.OpenBrace) (last_leads otherwises.Else inner form_of_else)
      (last_leads otherwises.ElseIf (chained_meets (otherwise_meets turns fuel) fuel) form_of_else_if))
      (give_leads otherwises.Nothing refl))

  arm_meets : (fuel : ℕ) → Meets true true (arm fuel blocks) arm_
  arm_meets fuel =
      whole_meets
      (after_leads here_meets (λ token. after_leads (case_meets fuel) (λ what.
      last_leads (λ body. record { token = token; case = what; body = body }) inner (λ body. refl))))

  switch_leads : (fuel : ℕ) → Leads true true true (λ k. keyword_is word.Switch ⨾ k) (switch_form fuel blocks) bodies.stmt_form
  switch_leads fuel =
      after_leads (optional_meets (is_sign sign.OpenSquare) (switch_span_meets fuel)) (λ over.
      after_leads (whole_expr_meets fuel) (λ v.
      last_leads (λ arms. stmts.Switch over v arms)
      (braces_meets (row_meets (arm_meets fuel) (λ as_. many_to arm_ as_ nothing) (λ as_. refl) is_within fuel))
      (λ arms. form_of_switch over v arms)))

  span_leads : (fuel : ℕ) → Leads true true true (λ k. keyword_is word.Span ⨾ k) (span_form fuel blocks) bodies.stmt_form
  span_leads fuel =
      after_leads (whole_prim_meets fuel) (λ key. after_leads (whole_expr_meets fuel) (λ v.
      last_leads (λ body. stmts.Span key v body) inner (λ body. form_of_span key v body)))

  part_form_leads : (fuel : ℕ) → Leads true true true (λ k. k) (part_form fuel blocks) form_is
  part_form_leads fuel =
      if_word_leads word.If (of_stmt_leads (if_leads inner (otherwise_meets fuel fuel) form_of_if fuel))
      (if_word_leads word.Switch (of_stmt_leads (switch_leads fuel))
      (if_word_leads word.Span (of_stmt_leads (span_leads fuel)) (flat_part_leads fuel)))

  part_meets : (fuel : ℕ) → Meets true true (part fuel blocks) bodies.part_
  part_meets fuel =
      whole_meets
      (after_leads here_meets (λ token. after_leads (whole_meets (part_form_leads fuel)) (λ form.
      last_leads (λ past. part_of token past form) here_meets (λ past. part_is token past form))))

-- without turns too: an empty block goes on
pub block_meets : (fuel : ℕ) → Meets true true (block fuel) bodies.block
block_meets zero = whole_meets (stop_leads (last_leads block_of (braces_meets none) block_is).ends) where
  none : Meets true true (give []) (λ ps. many_to bodies.part_ ps nothing)
  none = whole_meets (give_leads [] refl)
block_meets (suc fuel) =
    whole_meets
    (last_leads block_of
    (braces_meets (row_meets (part_meets (block_meets fuel) (suc fuel)) (λ ps. many_to bodies.part_ ps nothing) (λ ps. refl) is_within (suc fuel))) block_is)
