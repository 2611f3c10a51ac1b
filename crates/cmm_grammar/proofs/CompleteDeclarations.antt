-- Each declaration is read.
use Rattle.std.proofs.Common.{◌≡◌, ℕ, ◌⊎◌, inl, inr, Bool, true, false, List, [], ◌∷◌, Option, Some, None, refl, ◌∙◌, le_refl}
use Rattle.cmm_lexer.specs.declared.piece.Lexeme.{Lexeme}
use Rattle.cmm_lexer.specs.declared.piece.Lexeme.TheVariants as l
use Rattle.cmm_words.specs.declared.width.Width.{Width}
use Rattle.cmm_words.specs.declared.width.Width.TheVariants.{W8, W16, W32, W64}
use Rattle.cmm_ast.specs.declared.token.Ident.{Ident}
use Rattle.cmm_ast.specs.declared.token.Text.{Text}
use Rattle.cmm_lexer.specs.declared.keyword.Keyword.{Keyword}
use Rattle.cmm_lexer.specs.declared.keyword.Keyword.TheVariants.{As, Big, Byteorder, Const, Export as ExportWord, Import as ImportWord, Invariant, Little, Memsize, Pointersize, Register, Target, Typedef, Wordsize}
use Rattle.cmm_lexer.specs.declared.symbol.Symbol.TheVariants.{Assign, Semicolon}
use Rattle.cmm_ast.specs.declared.expression.Expr.{Expr}
use Rattle.cmm_ast.specs.declared.expression.TypeName.{TypeName}
use Rattle.cmm_ast.specs.declared.expression.TypeForm.{TypeForm}
use Rattle.cmm_ast.specs.declared.expression.TypeForm.TheVariants.{Bits, Named as OfName}
use Rattle.cmm_ast.specs.declared.declaration.Decl.{Decl}
use Rattle.cmm_ast.specs.declared.declaration.DeclForm.{DeclForm}
use Rattle.cmm_ast.specs.declared.declaration.DeclForm.TheVariants as decls
use Rattle.cmm_ast.specs.declared.declaration.Import.{Import}
use Rattle.cmm_ast.specs.declared.declaration.Export.{Export}
use Rattle.cmm_ast.specs.declared.declaration.Property.{Property}
use Rattle.cmm_ast.specs.declared.declaration.PropertyForm.{PropertyForm}
use Rattle.cmm_ast.specs.declared.declaration.PropertyForm.TheVariants as properties
use Rattle.cmm_ast.specs.declared.declaration.ByteOrder.{ByteOrder}
use Rattle.cmm_ast.specs.declared.declaration.ByteOrder.TheVariants as orders
use Rattle.cmm_lexer.specs.Spellings.{keyword_number, symbol_number}
use Rattle.cmm_grammar.specs.Taking.{◌⨾◌, nothing, is_word, keyword as keyword_is, symbol as symbol_is, optional as optional_is, listed as listed_is, many as many_is, may_comma}
use Rattle.cmm_grammar.specs.ExpressionGrammar as grammar
use Rattle.cmm_grammar.specs.ExpressionGrammar.{width_word}
use Rattle.cmm_grammar.specs.UnitGrammar as units
use Rattle.cmm_grammar.specs.Reading.{◌>>=◌, give, symbol, keyword, optional, ident}
use Rattle.cmm_grammar.specs.inside.Duties.{Complete}
use Rattle.cmm_grammar.specs.ExpressionReading.{type_name}
use Rattle.cmm_grammar.specs.DeclarationReading.{is_other, bits, begins_name, TypeFirst, NameFirst, Neither, head_by, head, optional_text, names, import_name, import_of, as_text, export_name, imports_by, exports_by, typed_name_by, byte_order, property_form, property, imports, exports, constant, typedef, target, is_invariant, register, decl_form, decl}
use Rattle.cmm_grammar.specs.PartReading.{is_any_name, is_any_text, is_width}
use Rattle.cmm_grammar.proofs.Takings.{takes_assoc, commas_to, rest_to}
use Rattle.cmm_grammar.proofs.ExpressionForms.{none_after}
use Rattle.cmm_grammar.proofs.UnitForms.{property_is}
use Rattle.cmm_grammar.proofs.Completes.{Next, Anything, follow_complete, after_complete, give_complete, last_complete, holds_complete, fails_complete, never_complete, then_complete, same_complete}
use Rattle.cmm_grammar.proofs.Tokens.{symbol_complete, keyword_complete, ident_complete, text_complete, int_complete}
use Rattle.cmm_grammar.proofs.Lists.{After, Parts, each_of, more_listed_complete, listed_complete}
use Rattle.cmm_grammar.proofs.CompleteExpressions.{type_token, type_name_complete, whole_complete, ends_before}
use Rattle.cmm_grammar.proofs.CompleteRepeats.{either_not, Passes, Not, start_complete, end_complete, flat_complete, strict_second, follow_spends, only_word_complete, some_complete, none_complete, parts_before, Spends, if_word_spends, keyword_spends, not_next_spends, here_spends, Rows, many_complete}

-- ---- what a type begins with, and an expression ends before

pub bits_begin : (width : Width) → is_width (l.Word (keyword_number (width_word width))) ≡ true
bits_begin W8 = refl
bits_begin W16 = refl
bits_begin W32 = refl
bits_begin W64 = refl

-- ---- types that may be left out

-- a type or, where it may be a name, what tells
pub type_head_complete : {fuel : ℕ} (w : TypeName) →
    Complete fuel (grammar.type_name w) (TypeFirst w) head (Next (type_token w.form)) (Passes begins_name)
type_head_complete {fuel} w = by w.token w.form where
  by : (token : ℕ) (form : TypeForm) →
      Complete fuel (grammar.type_name (record { token = token; form = form })) (TypeFirst (record { token = token; form = form })) head (Next (type_token form)) (Passes begins_name)
  by token (Bits width) =
      end_complete head_by
      (some_complete is_width (λ x e. rw e (bits_begin width)) (type_name_complete (record { token = token; form = Bits width })))
      (λ x f. tt) (give_complete (TypeFirst (record { token = token; form = Bits width })))
  by token (OfName bytes) =
      start_complete head_by (none_complete is_width (λ x e. rw e refl)) (λ x f. f)
      (holds_complete is_any_name (λ x e. rw e refl)
      (end_complete _ (ident_complete (record { name = bytes; token = token })) (λ x f. tt) (holds_complete begins_name (λ x f. f) (give_complete _))))

pub name_head_complete : {fuel : ℕ} (i : Ident) → Complete fuel (grammar.ident i) (NameFirst i) head (Next (l.Name i.name)) (Not begins_name)
name_head_complete i =
    start_complete head_by (none_complete is_width (λ x e. rw e refl)) (λ x f. f)
    (holds_complete is_any_name (λ x e. rw e refl)
    (end_complete _ (ident_complete i) (λ x f. tt) (fails_complete begins_name (λ x f. f) (give_complete _))))

-- ---- what declarations list

-- a text and a name begin an import; an expression's type is neither
pub type_no_text : (form : TypeForm) (x : Option Lexeme) → Next (type_token form) x → Not is_any_text x
type_no_text (Bits width) x e = rw e refl
type_no_text (OfName bytes) x e = rw e refl

pub optional_text_complete : {fuel : ℕ} {follow : Option Lexeme → Type 0} → ((x : Option Lexeme) → follow x → Not is_any_text x) → (kind : Option Text) →
    Complete fuel (optional_is grammar.text kind) kind optional_text (λ x. Passes is_any_text x ⊎ follow x) follow
optional_text_complete ends (Some t) =
    follow_complete (λ x e. inl (rw e refl)) (λ x f. tt) (some_complete is_any_text (λ x e. rw e refl) (text_complete t))
optional_text_complete ends None = follow_complete (λ x f. inr f) (λ x f. f) (none_complete is_any_text ends)

name_parts : Parts is_any_name (Passes is_any_name) Anything (Next (l.Symbol (symbol_number Semicolon)))
name_parts = parts_before is_any_name Semicolon refl refl (λ x f. tt)

pub names_complete : {fuel : ℕ} (is : List Ident) →
    Complete fuel (listed_is grammar.ident is) is (names fuel) (Passes is_any_name) (Next (l.Symbol (symbol_number Semicolon)))
names_complete [] = never_complete (λ r after e. absurd cc)
names_complete (i ∷ is) =
    listed_complete ident grammar.ident name_parts i is (λ i. follow_complete (λ x e. rw e refl) (λ x f. tt) (ident_complete i))

-- imports
import_token : Option Text → Ident → Lexeme
import_token (Some t) name = l.Text t.bytes
import_token None name = l.Name name.name

import_begins : (link : Option Text) (name : Ident) (x : Option Lexeme) → Next (import_token link name) x → Passes begins_name x
unfolding import_token
import_begins (Some t) name x e = rw e refl
import_begins None name x e = rw e refl

import_of_complete : {fuel : ℕ} (link : Option Text) (name : Ident) →
    Complete fuel (units.import_name (record { link = link; name = name })) (record { link = link; name = name }) import_name (Next (import_token link name)) Anything
unfolding import_token
import_of_complete (Some t) name =
    after_complete
    (some_complete is_any_text (λ x e. rw e refl) (after_complete (text_complete t) (λ x f. tt) (λ t. last_complete (λ _. t) (keyword_complete As))))
    (λ x f. tt) (λ link. last_complete (λ name. record { link = link; name = name }) (ident_complete name))
import_of_complete None name =
    start_complete (λ link. ident >>= λ name. give record { link = link; name = name }) (none_complete is_any_text (λ x e. rw e refl)) (λ x e. e)
    (last_complete (λ name. record { link = None; name = name }) (ident_complete name))

import_complete : {fuel : ℕ} (i : Import) → Complete fuel (units.import_name i) i import_name (Passes begins_name) Anything
import_complete i = follow_complete (import_begins i.link i.name) (λ x f. tt) (import_of_complete i.link i.name)

import_parts : Parts begins_name (Passes begins_name) Anything (Next (l.Symbol (symbol_number Semicolon)))
import_parts = parts_before begins_name Semicolon refl refl (λ x f. tt)

text_head_complete : {fuel : ℕ} (bytes : List ℕ) → Complete fuel nothing Neither head (Next (l.Text bytes)) (Next (l.Text bytes))
text_head_complete bytes =
    start_complete head_by (none_complete is_width (λ x e. rw e refl)) (λ x e. e) (fails_complete is_any_name (λ x e. rw e refl) (give_complete Neither))

untyped_imports : {fuel : ℕ} (link : Option Text) (name : Ident) (is : List Import) →
    Complete fuel (units.import_name (record { link = link; name = name }) ⨾ rest_to units.import_name is may_comma)
    (None, record { link = link; name = name } ∷ is) (head >>= imports_by fuel) Anything (Next (l.Symbol (symbol_number Semicolon)))
unfolding import_token
untyped_imports {fuel} (Some t) name is =
    follow_complete (λ x f. tt) (λ x f. f)
    (start_complete (imports_by fuel) (text_head_complete t.bytes) (λ x e. e)
    (last_complete (λ found. (None, found))
    (after_complete (import_of_complete (Some t) name) (λ x f. tt) (λ i.
    more_listed_complete import_name units.import_name import_parts is (i ∷ []) fuel (le_refl fuel) (each_of import_complete is)))))
untyped_imports {fuel} None name is =
    follow_complete (λ x f. tt) (λ x f. f)
    (then_complete (imports_by fuel) (name_head_complete name) (either_not _ refl refl)
    (last_complete (λ found. (None, found))
    (more_listed_complete import_name units.import_name import_parts is (import_of name ∷ []) fuel (le_refl fuel) (each_of import_complete is))))

imports_complete : {fuel : ℕ} (width : Option TypeName) (is : List Import) →
    Complete fuel (optional_is grammar.type_name width ⨾ listed_is units.import_name is) (width, is) (head >>= imports_by fuel) Anything
    (Next (l.Symbol (symbol_number Semicolon)))
imports_complete width [] = never_complete (λ r after e. none_after (optional_is grammar.type_name width r) after e)
imports_complete {fuel} (Some w) (i ∷ is) =
    follow_complete (λ x f. tt) (λ x f. f)
    (then_complete (imports_by fuel) (type_head_complete w) (λ x f. f)
    (last_complete (λ found. (Some w, found)) (listed_complete import_name units.import_name import_parts i is import_complete)))
imports_complete {fuel} None (i ∷ is) =
    same_complete (commas_to units.import_name i is may_comma) (untyped_imports i.link i.name is)

-- exports
abbrev NotAs : Option Lexeme → Type 0
NotAs = Not (is_word As)

as_text_complete : {fuel : ℕ} {follow : Option Lexeme → Type 0} → ((x : Option Lexeme) → follow x → NotAs x) → (link : Option Text) →
    Complete fuel (optional_is (λ t. keyword_is As ⨾ grammar.text t) link) link (optional (is_word As) as_text)
    (λ x. Next (l.Word (keyword_number As)) x ⊎ follow x) follow
as_text_complete ends (Some t) =
    follow_complete (λ x f. inl f) (λ x f. tt)
    (some_complete _ (λ x e. rw e refl) (after_complete (keyword_complete As) (λ x f. tt) (λ _. text_complete t)))
as_text_complete ends None = follow_complete (λ x f. inr f) (λ x f. f) (none_complete _ ends)

export_complete : {fuel : ℕ} (e : Export) → Complete fuel (units.export_name e) e export_name (Passes is_any_name) NotAs
export_complete e =
    follow_complete (λ x is. rw is refl) (λ x f. f)
    (after_complete (ident_complete e.name) (λ x f. tt) (λ name. last_complete (λ link. record { name = name; link = link }) (as_text_complete (λ x f. f) e.link)))

link_no_name : (x : Option Lexeme) → Next (l.Word (keyword_number As)) x ⊎ After (Next (l.Symbol (symbol_number Semicolon))) x → Not begins_name x
link_no_name x (inl e) = rw e refl
link_no_name x (inr f) = either_not _ refl refl x f

export_parts : Parts is_any_name (Passes is_any_name) NotAs (Next (l.Symbol (symbol_number Semicolon)))
export_parts = parts_before is_any_name Semicolon refl refl (either_not _ refl refl)

name_begins : (x : Option Lexeme) → Passes is_any_name x → Passes begins_name x
name_begins (Some (l.Name bytes)) e = refl
name_begins (Some _) e = absurd cc
name_begins None e = absurd cc

untyped_exports : {fuel : ℕ} (name : Ident) (link : Option Text) (es : List Export) →
    Complete fuel (grammar.ident name ⨾ optional_is (λ t. keyword_is As ⨾ grammar.text t) link ⨾ rest_to units.export_name es may_comma)
    (None, record { name = name; link = link } ∷ es) (head >>= exports_by fuel) Anything (Next (l.Symbol (symbol_number Semicolon)))
untyped_exports {fuel} name link es =
    follow_complete (λ x f. tt) (λ x f. f)
    (then_complete (exports_by fuel) (name_head_complete name) link_no_name
    (last_complete (λ found. (None, found))
    (after_complete (last_complete (λ link. record { name = name; link = link }) (as_text_complete (either_not _ refl refl) link)) (λ x f. f) (λ e.
    more_listed_complete export_name units.export_name export_parts es (e ∷ []) fuel (le_refl fuel) (each_of export_complete es)))))

exports_complete : {fuel : ℕ} (width : Option TypeName) (es : List Export) →
    Complete fuel (optional_is grammar.type_name width ⨾ listed_is units.export_name es) (width, es) (head >>= exports_by fuel) Anything
    (Next (l.Symbol (symbol_number Semicolon)))
exports_complete width [] = never_complete (λ r after e. none_after (optional_is grammar.type_name width r) after e)
exports_complete {fuel} (Some w) (e ∷ es) =
    follow_complete (λ x f. tt) (λ x f. f)
    (then_complete (exports_by fuel) (type_head_complete w) name_begins
    (last_complete (λ found. (Some w, found)) (listed_complete export_name units.export_name export_parts e es export_complete)))
exports_complete {fuel} None (e ∷ es) =
    same_complete (commas_to units.export_name e es may_comma ∙ takes_assoc (grammar.ident e.name) _ (rest_to units.export_name es may_comma))
    (untyped_exports e.name e.link es)

-- a name after a type that may be left out
typed_name_complete : {fuel : ℕ} (width : Option TypeName) (name : Ident) →
    Complete fuel (optional_is grammar.type_name width ⨾ grammar.ident name) (width, name) (head >>= typed_name_by) Anything
    (Next (l.Symbol (symbol_number Assign)))
typed_name_complete (Some w) name =
    follow_complete (λ x f. tt) (λ x f. tt)
    (then_complete typed_name_by (type_head_complete w) (λ x e. rw e refl) (last_complete (λ name. (Some w, name)) (ident_complete name)))
typed_name_complete None name =
    follow_complete (λ x f. tt) (λ x f. f) (end_complete typed_name_by (name_head_complete name) (λ x e. rw e refl) (give_complete (None, name)))

-- ---- properties of the target

byte_order_complete : {fuel : ℕ} (o : ByteOrder) → Complete fuel (units.byte_order o) o byte_order Anything Anything
byte_order_complete orders.Little = follow_complete (λ x f. tt) (λ x f. f) (only_word_complete Little)
byte_order_complete orders.Big =
    follow_complete (λ x f. tt) (λ x f. f)
    (fails_complete _ (λ x e. rw e refl) (last_complete (λ _. orders.Big) (keyword_complete Big)))

-- not the end of the properties
abbrev NotEnd : Option Lexeme → Type 0
NotEnd = Passes (is_other Semicolon)

property_form_spends : {fuel : ℕ} (f : PropertyForm) → Spends fuel (units.property_form f) f property_form NotEnd Anything
property_form_spends (properties.Memsize bits) =
    follow_spends (λ x e. rw e refl) (λ x f. f) (if_word_spends Memsize (last_complete properties.Memsize (int_complete bits)))
property_form_spends (properties.Byteorder order) =
    follow_spends (λ x e. rw e refl) (λ x f. f)
    (not_next_spends _ (λ x e. rw e refl) (if_word_spends Byteorder (last_complete properties.Byteorder (byte_order_complete order))))
property_form_spends (properties.Pointersize bits) =
    follow_spends (λ x e. rw e refl) (λ x f. f)
    (not_next_spends _ (λ x e. rw e refl)
    (not_next_spends _ (λ x e. rw e refl) (if_word_spends Pointersize (last_complete properties.Pointersize (int_complete bits)))))
property_form_spends (properties.Wordsize bits) =
    follow_spends (λ x e. rw e refl) (λ x f. f)
    (not_next_spends _ (λ x e. rw e refl)
    (not_next_spends _ (λ x e. rw e refl)
    (not_next_spends _ (λ x e. rw e refl)
    (keyword_spends Wordsize (last_complete properties.Wordsize (int_complete bits))))))

property_spends : {fuel : ℕ} (p : Property) → Spends fuel (property_is p) p property NotEnd Anything
property_spends p = here_spends (λ token form. record { token = token; form = form }) p.token (property_form_spends p.form)

property_rows : Rows (is_other Semicolon) NotEnd Anything (Next (l.Symbol (symbol_number Semicolon)))
property_rows = record { starts = λ x f. f; ends = λ x e. rw e refl; goes_on = λ x f. tt }

-- ---- declarations

-- the word that a declaration begins with
abbrev pub decl_word : DeclForm → Keyword
decl_word (decls.Import width imports) = ImportWord
decl_word (decls.Export width exports) = ExportWord
decl_word (decls.Const width name value) = Const
decl_word (decls.Typedef width names) = Typedef
decl_word (decls.Register invariant kind width names) = elim invariant [ true ↦ Invariant | false ↦ Register ]
decl_word (decls.Target properties) = Target

is_invariant_complete : {fuel : ℕ} (invariant : Bool) →
    Complete fuel (units.if_invariant invariant) invariant is_invariant
    (Next (l.Word (keyword_number (elim invariant [ true ↦ Invariant | false ↦ Register ])))) (Next (l.Word (keyword_number Register)))
is_invariant_complete true = follow_complete (λ x e. e) (λ x f. tt) (only_word_complete Invariant)
is_invariant_complete false = fails_complete _ (λ x e. rw e refl) (give_complete false)

register_spends : {fuel : ℕ} (invariant : Bool) (kind : Option Text) (width : TypeName) (named : List Ident) →
    Spends fuel
    (keyword_is Register ⨾ optional_is grammar.text kind ⨾ grammar.type_name width ⨾ listed_is grammar.ident named ⨾ symbol_is Semicolon)
    (decls.Register invariant kind width named)
    (keyword Register >>= λ _.
    optional_text >>= λ kind.
    type_name >>= λ width. names fuel >>= λ named. symbol Semicolon >>= λ _. give (decls.Register invariant kind width named))
    (Next (l.Word (keyword_number Register))) Anything
register_spends invariant kind width named =
    keyword_spends Register
    (after_complete (optional_text_complete (type_no_text width.form) kind) (λ x e. e) (λ kind.
    after_complete (type_name_complete width) (λ x f. tt) (λ width.
    after_complete (names_complete named) (λ x e. e) (λ named.
    last_complete (λ _. decls.Register invariant kind width named) (symbol_complete Semicolon)))))

registers_spends : {fuel : ℕ} (invariant : Bool) (kind : Option Text) (width : TypeName) (named : List Ident) →
    Spends fuel (units.decl_form (decls.Register invariant kind width named)) (decls.Register invariant kind width named) (register fuel)
    (Next (l.Word (keyword_number (elim invariant [ true ↦ Invariant | false ↦ Register ])))) Anything
registers_spends {fuel} invariant kind width named = record {
  complete = after_complete (is_invariant_complete invariant) (λ x e. e) (λ invariant. (register_spends invariant kind width named).complete);
  strict = strict_second (is_invariant_complete {fuel = fuel} invariant).moves (register_spends {fuel = fuel} invariant kind width named).strict;
}

target_complete : {fuel : ℕ} (found : List Property) →
    Complete fuel (many_is property_is found ⨾ symbol_is Semicolon) (decls.Target found) (target fuel) Anything Anything
target_complete {fuel} found =
    follow_complete (λ x f. tt) (λ x f. f)
    (after_complete (many_complete property property_is property_rows found (each_of property_spends found)) (λ x e. e) (λ found.
    last_complete (λ _. decls.Target found) (symbol_complete Semicolon)))

typedef_complete : {fuel : ℕ} (width : TypeName) (named : List Ident) →
    Complete fuel (grammar.type_name width ⨾ listed_is grammar.ident named ⨾ symbol_is Semicolon) (decls.Typedef width named) (typedef fuel) Anything Anything
typedef_complete width named =
    follow_complete (λ x f. tt) (λ x f. f)
    (after_complete (type_name_complete width) (λ x f. tt) (λ width.
    after_complete (names_complete named) (λ x e. e) (λ named. last_complete (λ _. decls.Typedef width named) (symbol_complete Semicolon))))

import_decl_complete : {fuel : ℕ} (width : Option TypeName) (is : List Import) →
    Complete fuel (optional_is grammar.type_name width ⨾ listed_is units.import_name is ⨾ symbol_is Semicolon) (decls.Import width is) (imports fuel) Anything Anything
import_decl_complete width is =
    flat_complete (optional_is grammar.type_name width) (listed_is units.import_name is) (symbol_is Semicolon)
    (after_complete (imports_complete width is) (λ x e. e) (λ found. last_complete (λ _. decls.Import found.0 found.1) (symbol_complete Semicolon)))

export_decl_complete : {fuel : ℕ} (width : Option TypeName) (es : List Export) →
    Complete fuel (optional_is grammar.type_name width ⨾ listed_is units.export_name es ⨾ symbol_is Semicolon) (decls.Export width es) (exports fuel) Anything Anything
export_decl_complete width es =
    flat_complete (optional_is grammar.type_name width) (listed_is units.export_name es) (symbol_is Semicolon)
    (after_complete (exports_complete width es) (λ x e. e) (λ found. last_complete (λ _. decls.Export found.0 found.1) (symbol_complete Semicolon)))

constant_complete : {fuel : ℕ} (width : Option TypeName) (name : Ident) (value : Expr) →
    Complete fuel (optional_is grammar.type_name width ⨾ grammar.ident name ⨾ symbol_is Assign ⨾ grammar.whole value ⨾ symbol_is Semicolon)
    (decls.Const width name value) (constant fuel) Anything Anything
constant_complete {fuel} width name value =
    flat_complete (optional_is grammar.type_name width) (grammar.ident name) (symbol_is Assign ⨾ grammar.whole value ⨾ symbol_is Semicolon)
    (after_complete (typed_name_complete width name) (λ x e. e) (λ found.
    after_complete (symbol_complete Assign) (λ x f. tt) (λ _.
    after_complete (whole_complete fuel value) (ends_before Semicolon refl refl) (λ value.
    last_complete (λ _. decls.Const found.0 found.1 value) (symbol_complete Semicolon)))))

decl_form_spends : {fuel : ℕ} (f : DeclForm) → Spends fuel (units.decl_form f) f (decl_form fuel) (Next (l.Word (keyword_number (decl_word f)))) Anything
decl_form_spends (decls.Import width imports) = if_word_spends ImportWord (import_decl_complete width imports)
decl_form_spends (decls.Export width exports) = not_next_spends _ (λ x e. rw e refl) (if_word_spends ExportWord (export_decl_complete width exports))
decl_form_spends (decls.Const width name value) =
    not_next_spends _ (λ x e. rw e refl) (not_next_spends _ (λ x e. rw e refl) (if_word_spends Const (constant_complete width name value)))
decl_form_spends (decls.Typedef width names) =
    not_next_spends _ (λ x e. rw e refl)
    (not_next_spends _ (λ x e. rw e refl)
    (not_next_spends _ (λ x e. rw e refl) (if_word_spends Typedef (typedef_complete width names))))
decl_form_spends (decls.Target properties) =
    not_next_spends _ (λ x e. rw e refl)
    (not_next_spends _ (λ x e. rw e refl)
    (not_next_spends _ (λ x e. rw e refl)
    (not_next_spends _ (λ x e. rw e refl) (if_word_spends Target (target_complete properties)))))
decl_form_spends (decls.Register invariant kind width names) =
    not_next_spends _ (no_other invariant ImportWord refl refl)
    (not_next_spends _ (no_other invariant ExportWord refl refl)
    (not_next_spends _ (no_other invariant Const refl refl)
    (not_next_spends _ (no_other invariant Typedef refl refl)
    (not_next_spends _ (no_other invariant Target refl refl) (registers_spends invariant kind width names)))))
  where
    no_other : (invariant : Bool) (word : Keyword) → is_word word (l.Word (keyword_number Invariant)) ≡ false →
        is_word word (l.Word (keyword_number Register)) ≡ false → (x : Option Lexeme) →
        Next (l.Word (keyword_number (elim invariant [ true ↦ Invariant | false ↦ Register ]))) x → Not (is_word word) x
    no_other true word one two x e = rw e one
    no_other false word one two x e = rw e two

pub decl_spends : {fuel : ℕ} (d : Decl) → Spends fuel (units.decl d) d (decl fuel) (Next (l.Word (keyword_number (decl_word d.form)))) Anything
decl_spends d = here_spends (λ token form. record { token = token; form = form }) d.token (decl_form_spends d.form)
