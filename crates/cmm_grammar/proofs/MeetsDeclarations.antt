-- Readers of declarations meet the grammar.
use Rattle.std.proofs.Common.{ℕ, true, false, Option, Some, None, refl, sym, []}
use Rattle.cmm_ast.specs.declared.token.Ident.{Ident}
use Rattle.cmm_lexer.specs.declared.keyword.Keyword.TheVariants.{As, Big, Byteorder, Const, Export as ExportWord, Import as ImportWord, Invariant, Little, Memsize, Pointersize, Register, Target, Typedef, Wordsize}
use Rattle.cmm_lexer.specs.declared.symbol.Symbol.TheVariants.{Assign, Semicolon}
use Rattle.cmm_ast.specs.declared.expression.TypeName.{TypeName}
use Rattle.cmm_ast.specs.declared.declaration.PropertyForm.TheVariants as properties
use Rattle.cmm_ast.specs.declared.declaration.ByteOrder.TheVariants as orders
use Rattle.cmm_grammar.specs.Taking.{◌⨾◌, keyword as keyword_is, symbol as symbol_is, optional as optional_is, listed as listed_is, may_comma}
use Rattle.cmm_grammar.specs.ExpressionGrammar as grammar
use Rattle.cmm_grammar.specs.UnitGrammar as units
use Rattle.cmm_grammar.specs.Reading.{◌>>=◌}
use Rattle.cmm_grammar.specs.ExpressionReading.{named_type}
use Rattle.cmm_grammar.specs.PartReading.{is_any_name, is_any_text, is_width}
use Rattle.cmm_grammar.specs.DeclarationReading.{is_other, bits, begins_name, Head, TypeFirst, NameFirst, Neither, head_by, head, optional_text, names, import_name, import_of, export_of, export_name, imports_by, exports_by, typed_name_by, byte_order, property_form, property, is_invariant, register, decl_form, decl}
use Rattle.cmm_grammar.proofs.Takings.{takes_nothing, commas_to}
use Rattle.cmm_grammar.proofs.UnitForms.{head_is, imports_is, exports_is, typed_name_is, property_is, regrouped}
use Rattle.cmm_grammar.proofs.Meets.{Leads, Meets, after_leads, then_leads, whole_meets, give_leads, last_leads, made_leads, same_leads, if_next_leads}
use Rattle.cmm_grammar.proofs.MeetsTokens.{here_meets}
use Rattle.cmm_grammar.proofs.MeetsLists.{symbol_meets, closing_meets, keyword_meets, ident_meets, text_meets, int_meets, if_word_leads, optional_meets, many_meets, more_listed_leads, listed_meets}
use Rattle.cmm_grammar.proofs.MeetsExpressions.{type_name_meets}
use Rattle.cmm_grammar.proofs.MeetsOperands.{whole_expr_meets}

-- ---- types that may be left out

pub bits_meets : Meets true true bits (optional_is grammar.type_name)
bits_meets = optional_meets is_width type_name_meets

pub optional_text_meets : Meets true true optional_text (optional_is grammar.text)
optional_text_meets = optional_meets is_any_text text_meets

pub names_meets : (turns : ℕ) → Meets true false (names turns) (listed_is grammar.ident)
names_meets turns = listed_meets ident_meets is_any_name turns

head_meets : Meets true true head head_is
head_meets = whole_meets (after_leads bits_meets by) where
  by : (o : Option TypeName) → Leads true true true (λ k. optional_is grammar.type_name o ⨾ k) (head_by o) head_is
  by (Some width) = give_leads (TypeFirst width) (sym (takes_nothing (grammar.type_name width)))
  by None =
      if_next_leads is_any_name
      (after_leads ident_meets (λ name.
      if_next_leads begins_name (give_leads (TypeFirst (named_type name)) (sym (takes_nothing (grammar.ident name))))
      (give_leads (NameFirst name) (sym (takes_nothing (grammar.ident name))))))
      (give_leads Neither refl)

-- ---- what declarations list

import_name_meets : Meets true true import_name units.import_name
import_name_meets =
    whole_meets
    (after_leads (optional_meets is_any_text (whole_meets (after_leads text_meets (λ t. last_leads (λ _. t) (keyword_meets As) (λ _. refl)))))
    (λ link. last_leads _ ident_meets (λ name. refl)))

export_of_leads : (name : Ident) → Leads true true true (λ k. grammar.ident name ⨾ k) (export_of name) units.export_name
export_of_leads name =
    last_leads _ (optional_meets _ (whole_meets (after_leads (keyword_meets As) (λ _. same_leads text_meets (λ t. refl))))) (λ link. refl)

export_name_meets : Meets true true export_name units.export_name
export_name_meets = whole_meets (after_leads ident_meets export_of_leads)

import_list_meets : (turns : ℕ) → Meets true false (head >>= imports_by turns) imports_is
import_list_meets turns = whole_meets (after_leads head_meets by) where
  by : (h : Head) → Leads true true false (λ k. head_is h ⨾ k) (imports_by turns h) imports_is
  by (TypeFirst width) = last_leads _ (listed_meets import_name_meets begins_name turns) (λ found. refl)
  by (NameFirst name) =
      made_leads _
      (more_listed_leads import_name_meets (λ k. k) (listed_is units.import_name) (λ a as_. commas_to units.import_name a as_ may_comma) begins_name turns (import_of name) [])
      (λ found. refl)
  by Neither = last_leads _ (listed_meets import_name_meets begins_name turns) (λ found. refl)

export_list_meets : (turns : ℕ) → Meets true false (head >>= exports_by turns) exports_is
export_list_meets turns = whole_meets (after_leads head_meets by) where
  by : (h : Head) → Leads true true false (λ k. head_is h ⨾ k) (exports_by turns h) exports_is
  by (TypeFirst width) = last_leads _ (listed_meets export_name_meets is_any_name turns) (λ found. refl)
  by (NameFirst name) =
      made_leads _
      (then_leads (export_of_leads name)
      (λ e. more_listed_leads export_name_meets (λ k. k) (listed_is units.export_name) (λ a as_. commas_to units.export_name a as_ may_comma) is_any_name turns e []))
      (λ found. refl)
  by Neither = last_leads _ (listed_meets export_name_meets is_any_name turns) (λ found. refl)

typed_name_meets : Meets true true (head >>= typed_name_by) typed_name_is
typed_name_meets = whole_meets (after_leads head_meets by) where
  by : (h : Head) → Leads true true true (λ k. head_is h ⨾ k) (typed_name_by h) typed_name_is
  by (TypeFirst width) = last_leads _ ident_meets (λ name. refl)
  by (NameFirst name) = give_leads (None, name) (sym (takes_nothing (grammar.ident name)))
  by Neither = last_leads _ ident_meets (λ name. refl)

-- ---- properties of the target

byte_order_meets : Meets true true byte_order units.byte_order
byte_order_meets =
    whole_meets
    (if_word_leads Little (give_leads orders.Little (sym (takes_nothing (keyword_is Little))))
    (last_leads (λ _. orders.Big) (keyword_meets Big) (λ _. refl)))

property_form_meets : Meets true true property_form units.property_form
property_form_meets =
    whole_meets
    (if_word_leads Memsize (last_leads properties.Memsize int_meets (λ bits. refl))
    (if_word_leads Byteorder (last_leads properties.Byteorder byte_order_meets (λ order. refl))
    (if_word_leads Pointersize (last_leads properties.Pointersize int_meets (λ bits. refl))
    (after_leads (keyword_meets Wordsize) (λ _. last_leads properties.Wordsize int_meets (λ bits. refl))))))

property_meets : Meets true true property property_is
property_meets = whole_meets (after_leads here_meets (λ token. last_leads _ property_form_meets (λ form. refl)))

-- ---- declarations

is_invariant_meets : Meets true true is_invariant units.if_invariant
is_invariant_meets =
    whole_meets (if_word_leads Invariant (give_leads true (sym (takes_nothing (keyword_is Invariant)))) (give_leads false refl))

register_leads : (turns : ℕ) → Leads true true true (λ k. k) (register turns) units.decl_form
register_leads turns =
    after_leads is_invariant_meets (λ invariant.
    after_leads (keyword_meets Register) (λ _.
    after_leads optional_text_meets (λ kind.
    after_leads type_name_meets (λ width.
    after_leads (names_meets turns) (λ named. last_leads _ (closing_meets Semicolon refl) (λ _. refl))))))

decl_form_meets : (fuel : ℕ) → Meets true true (decl_form fuel) units.decl_form
decl_form_meets fuel =
    whole_meets
    (if_word_leads ImportWord
    (after_leads (import_list_meets fuel) (λ found. last_leads _ (closing_meets Semicolon refl) (λ _. regrouped (keyword_is ImportWord) (optional_is grammar.type_name found.0) (listed_is units.import_name found.1) (symbol_is Semicolon))))
    (if_word_leads ExportWord
    (after_leads (export_list_meets fuel) (λ found. last_leads _ (closing_meets Semicolon refl) (λ _. regrouped (keyword_is ExportWord) (optional_is grammar.type_name found.0) (listed_is units.export_name found.1) (symbol_is Semicolon))))
    (if_word_leads Const
    (after_leads typed_name_meets (λ found.
    after_leads (symbol_meets Assign) (λ _.
    after_leads (whole_expr_meets fuel) (λ value. last_leads _ (symbol_meets Semicolon) (λ _. regrouped (keyword_is Const) (optional_is grammar.type_name found.0) (grammar.ident found.1) (symbol_is Assign ⨾ grammar.whole value ⨾ symbol_is Semicolon))))))
    (if_word_leads Typedef
    (after_leads type_name_meets (λ width. after_leads (names_meets fuel) (λ named. last_leads _ (closing_meets Semicolon refl) (λ _. refl))))
    (if_word_leads Target
    (after_leads (many_meets property_meets (is_other Semicolon) fuel) (λ found. last_leads _ (symbol_meets Semicolon) (λ _. refl)))
    (register_leads fuel))))))

pub decl_meets : (fuel : ℕ) → Meets true true (decl fuel) units.decl
decl_meets fuel = whole_meets (after_leads here_meets (λ token. last_leads _ (decl_form_meets fuel) (λ form. refl)))
