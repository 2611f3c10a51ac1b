-- Readers of procedures, and of what they declare, meet the grammar.
use Rattle.std.proofs.Common.{ℕ, Bool, true, Option, Some, None, refl, sym, ap}
use Rattle.cmm_ast.specs.declared.token.Ident.{Ident}
use Rattle.cmm_ast.specs.declared.token.Text.{Text}
use Rattle.cmm_lexer.specs.declared.keyword.Keyword.TheVariants.{Align, Invariant, Stackdata}
use Rattle.cmm_lexer.specs.declared.symbol.Symbol.TheVariants.{Colon, CloseBrace, Semicolon}
use Rattle.cmm_ast.specs.declared.expression.TypeName.{TypeName}
use Rattle.cmm_ast.specs.declared.procedure.Modifiers.{Modifiers}
use Rattle.cmm_ast.specs.declared.procedure.Modifiers.TheVariants as modifiers
use Rattle.cmm_ast.specs.declared.procedure.LocalForm.TheVariants as locals
use Rattle.cmm_ast.specs.declared.procedure.RoomForm.TheVariants as rooms
use Rattle.cmm_ast.specs.declared.statement.Block.{Block}
use Rattle.cmm_grammar.specs.Taking.{◌⨾◌, keyword as keyword_is, symbol as symbol_is, optional as optional_is}
use Rattle.cmm_grammar.specs.ExpressionGrammar as grammar
use Rattle.cmm_grammar.specs.StatementGrammar as bodies
use Rattle.cmm_grammar.specs.Reading.{Reads}
use Rattle.cmm_grammar.specs.ExpressionReading.{named_type}
use Rattle.cmm_grammar.specs.DeclarationReading.{is_other}
use Rattle.cmm_grammar.specs.ProcedureReading.{invariant_by, invariant_first, kind_by, modifiers_of, begins_formal, formal, variables, sized_room, room_by, room_form, room, stackdata, procedure, proc}
use Rattle.cmm_grammar.proofs.Takings.{takes_nothing}
use Rattle.cmm_grammar.proofs.StatementForms.{invariant_by_is, room_is}
use Rattle.cmm_grammar.proofs.Meets.{Leads, Meets, after_leads, whole_meets, give_leads, last_leads, same_leads, if_next_leads}
use Rattle.cmm_grammar.proofs.MeetsTokens.{here_meets}
use Rattle.cmm_grammar.proofs.MeetsLists.{symbol_meets, closing_meets, keyword_meets, ident_meets, int_meets, if_word_leads, if_symbol_leads, round_meets, square_meets, braces_meets, optional_meets, many_meets, may_list_meets}
use Rattle.cmm_grammar.proofs.MeetsExpressions.{type_name_meets}
use Rattle.cmm_grammar.proofs.MeetsDeclarations.{bits_meets, optional_text_meets, names_meets}
use Rattle.cmm_grammar.proofs.MeetsOperands.{whole_expr_meets}

-- ---- what stands before the type of a variable

invariant_first_meets : Meets true true invariant_first bodies.modifiers
invariant_first_meets =
    whole_meets
    (after_leads here_meets (λ first.
    after_leads (keyword_meets Invariant) (λ _. last_leads (invariant_by first) optional_text_meets (invariant_by_is first))))

pub modifiers_meets : Meets true true modifiers_of bodies.modifiers
modifiers_meets = whole_meets (if_next_leads _ (same_leads invariant_first_meets (λ m. refl)) (after_leads optional_text_meets by)) where
  by : (o : Option Text) → Leads true true true (λ k. optional_is grammar.text o ⨾ k) (kind_by o) bodies.modifiers
  by (Some kind) =
      if_word_leads Invariant (give_leads (modifiers.KindInvariant kind) (ap (λ t. grammar.text kind ⨾ t) (sym (takes_nothing (keyword_is Invariant)))))
      (give_leads (modifiers.Kind kind) (sym (takes_nothing (grammar.text kind))))
  by None = give_leads modifiers.Nothing refl

pub formal_meets : Meets true true formal bodies.formal
formal_meets =
    whole_meets (after_leads modifiers_meets (λ before. after_leads type_name_meets (λ width. last_leads _ ident_meets (λ name. refl))))

-- ---- variables

-- variables after what stands before them, and their type
pub variables_leads : {first : Bool} (turns : ℕ) (before : Modifiers) (width : TypeName) →
    Leads first true true (λ k. bodies.modifiers before ⨾ grammar.type_name width ⨾ k) (variables turns before width) bodies.local_form
variables_leads turns before width = after_leads (names_meets turns) (λ named. last_leads _ (closing_meets Semicolon refl) (λ _. refl))

-- ---- stackdata

sized_room_leads : (fuel : ℕ) (width : TypeName) → Leads true true true (λ k. grammar.type_name width ⨾ k) (sized_room fuel width) bodies.room_form
sized_room_leads fuel width =
    after_leads (optional_meets _ (square_meets (whole_expr_meets fuel))) (λ count. last_leads _ (symbol_meets Semicolon) (λ _. refl))

room_form_meets : (fuel : ℕ) → Meets true true (room_form fuel) bodies.room_form
room_form_meets fuel =
    whole_meets
    (if_word_leads Align (after_leads int_meets (λ bytes. last_leads (λ _. rooms.Align bytes) (symbol_meets Semicolon) (λ _. refl)))
    (after_leads bits_meets by))
  where
    by : (o : Option TypeName) → Leads true true true (λ k. optional_is grammar.type_name o ⨾ k) (room_by fuel o) bodies.room_form
    by (Some width) = sized_room_leads fuel width
    by None =
        after_leads ident_meets (λ name.
        if_symbol_leads Colon (give_leads (rooms.Label name) (ap (λ t. grammar.ident name ⨾ t) (sym (takes_nothing (symbol_is Colon)))))
        (sized_room_leads fuel (named_type name)))

room_meets : (fuel : ℕ) → Meets true true (room fuel) room_is
room_meets fuel = whole_meets (after_leads here_meets (λ token. last_leads _ (room_form_meets fuel) (λ form. refl)))

pub stackdata_leads : {first : Bool} (fuel : ℕ) → Leads first true true (λ k. keyword_is Stackdata ⨾ k) (stackdata fuel) bodies.local_form
stackdata_leads fuel = last_leads locals.Stackdata (braces_meets (many_meets (room_meets fuel) (is_other CloseBrace) fuel)) (λ found. refl)

-- ---- procedures, over how a block is read

module _ {block : Reads Block} (block_meets : Meets true true block bodies.block) where
  -- after its name
  pub procedure_leads : {first : Bool} (fuel : ℕ) (name : Ident) → Leads first true true (λ k. grammar.ident name ⨾ k) (procedure fuel block name) bodies.proc
  procedure_leads fuel name =
      after_leads (round_meets (may_list_meets formal_meets begins_formal fuel)) (λ formals.
      after_leads block_meets (λ body. last_leads _ here_meets (λ past. refl)))

  pub proc_meets : (fuel : ℕ) → Meets true true (proc fuel block) bodies.proc
  proc_meets fuel = whole_meets (after_leads ident_meets (procedure_leads fuel))
