-- Each procedure, and what it declares, is read.
use Rattle.std.proofs.Common.{ℕ, ◌⊎◌, inl, inr, List, Option, Some, None, refl, arith}
use Rattle.cmm_lexer.specs.declared.piece.Lexeme.{Lexeme}
use Rattle.cmm_lexer.specs.declared.piece.Lexeme.TheVariants as l
use Rattle.cmm_words.specs.declared.width.Width.TheVariants.{W8, W16, W32, W64}
use Rattle.cmm_ast.specs.declared.token.Ident.{Ident}
use Rattle.cmm_lexer.specs.declared.keyword.Keyword.TheVariants.{Align, Invariant}
use Rattle.cmm_lexer.specs.declared.symbol.Symbol.TheVariants.{Open, Close, Colon, OpenBrace, CloseBrace, OpenSquare, CloseSquare, Semicolon}
use Rattle.cmm_ast.specs.declared.expression.Expr.{Expr}
use Rattle.cmm_ast.specs.declared.expression.TypeName.{TypeName}
use Rattle.cmm_ast.specs.declared.expression.TypeForm.{TypeForm}
use Rattle.cmm_ast.specs.declared.expression.TypeForm.TheVariants.{Bits, Named as OfName}
use Rattle.cmm_ast.specs.declared.procedure.Proc.{Proc}
use Rattle.cmm_ast.specs.declared.procedure.Formal.{Formal}
use Rattle.cmm_ast.specs.declared.procedure.Modifiers.{Modifiers}
use Rattle.cmm_ast.specs.declared.procedure.Modifiers.TheVariants as modifiers
use Rattle.cmm_ast.specs.declared.procedure.LocalForm.TheVariants as locals
use Rattle.cmm_ast.specs.declared.procedure.Room.{Room}
use Rattle.cmm_ast.specs.declared.procedure.RoomForm.{RoomForm}
use Rattle.cmm_ast.specs.declared.procedure.RoomForm.TheVariants as rooms
use Rattle.cmm_ast.specs.declared.statement.Block.{Block}
use Rattle.cmm_lexer.specs.Spellings.{symbol_number}
use Rattle.cmm_grammar.specs.Taking.{◌⨾◌, is_word, is_sign, here as here_is, symbol as symbol_is, optional as optional_is, listed as listed_is, many as many_is, may_list as may_list_is, round as round_is, square as square_is, braces as braces_is}
use Rattle.cmm_grammar.specs.ExpressionGrammar as grammar
use Rattle.cmm_grammar.specs.ExpressionGrammar.{width_word}
use Rattle.cmm_grammar.specs.StatementGrammar as bodies
use Rattle.cmm_grammar.specs.Reading.{Reads, ◌>>=◌, give}
use Rattle.cmm_grammar.specs.inside.Duties.{Complete}
use Rattle.cmm_grammar.specs.ExpressionReading.{named_type}
use Rattle.cmm_grammar.specs.DeclarationReading.{is_other, optional_text, bits}
use Rattle.cmm_grammar.specs.ProcedureReading.{invariant_by, kind_by, modifiers_of, begins_formal, formal, variables, room_count, sized_room, room_by, room_form, room, stackdata, procedure}
use Rattle.cmm_grammar.specs.PartReading.{is_any_name, is_any_text, is_width}
use Rattle.cmm_grammar.proofs.StatementForms.{room_is}
use Rattle.cmm_grammar.proofs.Completes.{Next, Anything, Strict, follow_complete, less_complete, after_complete, give_complete, last_complete, holds_complete, fails_complete, here_complete, token_strict, then_complete}
use Rattle.cmm_grammar.proofs.Tokens.{only_name, only_keyword, symbol_complete, keyword_complete, ident_complete, text_complete, int_complete}
use Rattle.cmm_grammar.proofs.Lists.{Parts, each_of, may_list_complete}
use Rattle.cmm_grammar.proofs.CompleteExpressions.{type_token, type_name_complete, in_brackets_complete, whole_complete, ends_before}
use Rattle.cmm_grammar.proofs.CompleteRepeats.{Passes, Not, start_complete, end_complete, only_word_complete, only_symbol_complete, some_complete, none_complete, parts_before, strict_then, here_strict, Spends, if_word_spends, not_next_spends, follow_spends, here_spends, Rows, many_complete}
use Rattle.cmm_grammar.proofs.CompleteDeclarations.{bits_begin, type_no_text, names_complete}

-- ---- what stands before the type of a variable

pub type_no_invariant : (form : TypeForm) (x : Option Lexeme) → Next (type_token form) x → Not (is_word Invariant) x
type_no_invariant (Bits W8) x e = rw e refl
type_no_invariant (Bits W16) x e = rw e refl
type_no_invariant (Bits W32) x e = rw e refl
type_no_invariant (Bits W64) x e = rw e refl
type_no_invariant (OfName bytes) x e = rw e refl

type_begins : (form : TypeForm) (x : Option Lexeme) → Next (type_token form) x → Passes begins_formal x
type_begins (Bits W8) x e = rw e refl
type_begins (Bits W16) x e = rw e refl
type_begins (Bits W32) x e = rw e refl
type_begins (Bits W64) x e = rw e refl
type_begins (OfName bytes) x e = rw e refl

pub modifiers_complete : {fuel : ℕ} (form : TypeForm) (m : Modifiers) →
    Complete fuel (bodies.modifiers m) m modifiers_of (Passes begins_formal) (Next (type_token form))
modifiers_complete form modifiers.Nothing =
    follow_complete (type_begins form) (λ x f. f)
    (fails_complete _ (type_no_invariant form)
    (start_complete kind_by (none_complete is_any_text (type_no_text form)) (λ x e. e) (give_complete modifiers.Nothing)))
modifiers_complete form (modifiers.Kind kind) =
    follow_complete (λ x e. rw e refl) (λ x f. f)
    (fails_complete _ (λ x e. rw e refl)
    (end_complete kind_by (some_complete is_any_text (λ x e. rw e refl) (text_complete kind)) (λ x f. tt)
    (fails_complete _ (type_no_invariant form) (give_complete (modifiers.Kind kind)))))
modifiers_complete form (modifiers.KindInvariant kind) =
    follow_complete (λ x e. rw e refl) (λ x f. tt)
    (fails_complete _ (λ x e. rw e refl)
    (then_complete kind_by (some_complete is_any_text (λ x e. rw e refl) (text_complete kind)) (λ x f. tt) (only_word_complete Invariant)))
modifiers_complete form (modifiers.Invariant first) =
    follow_complete (λ x e. rw e refl) (λ x f. f)
    (holds_complete _ (λ x e. rw e refl)
    (after_complete {b = λ n. modifiers.Invariant n} (here_complete first) (λ x f. f) (λ n.
    end_complete (λ _. optional_text >>= λ kind. give (invariant_by n kind)) (keyword_complete Invariant) (λ x f. tt)
    (last_complete (invariant_by n) (none_complete is_any_text (type_no_text form))))))
modifiers_complete form (modifiers.InvariantKind first kind) =
    follow_complete (λ x e. rw e refl) (λ x f. tt)
    (holds_complete _ (λ x e. rw e refl)
    (after_complete {b = λ n. modifiers.InvariantKind n kind} (here_complete first) (λ x f. f) (λ n.
    after_complete (keyword_complete Invariant) (λ x f. tt) (λ _.
    last_complete (invariant_by n) (some_complete is_any_text (λ x e. rw e refl) (text_complete kind))))))

pub formal_complete : {fuel : ℕ} (f : Formal) → Complete fuel (bodies.formal f) f formal (Passes begins_formal) Anything
formal_complete f =
    after_complete {b = λ before. record { modifiers = before; width = f.width; name = f.name }} (modifiers_complete f.width.form f.modifiers) (λ x e. e) (λ before.
    after_complete {b = λ width. record { modifiers = before; width = width; name = f.name }} (type_name_complete f.width) (λ x f. tt) (λ width.
    last_complete (λ name. record { modifiers = before; width = width; name = name }) (ident_complete f.name)))

-- ---- variables

pub variables_complete : {fuel : ℕ} (before : Modifiers) (width : TypeName) (named : List Ident) →
    Complete fuel (listed_is grammar.ident named ⨾ symbol_is Semicolon) (locals.Variables before width named) (variables fuel before width)
    (Passes is_any_name) Anything
variables_complete before width named =
    after_complete (names_complete named) (λ x e. e) (λ named. last_complete (λ _. locals.Variables before width named) (symbol_complete Semicolon))

-- ---- stackdata

-- a count, or the end
abbrev Sized : Option Lexeme → Type 0
Sized x = Next (l.Symbol (symbol_number OpenSquare)) x ⊎ Next (l.Symbol (symbol_number Semicolon)) x

sized_no_colon : (x : Option Lexeme) → Sized x → Not (is_sign Colon) x
sized_no_colon x (inl e) = rw e refl
sized_no_colon x (inr e) = rw e refl

room_count_complete : {fuel : ℕ} (count : Option Expr) →
    Complete fuel (optional_is (λ e. square_is (grammar.whole e)) count) count (room_count fuel) Sized (Next (l.Symbol (symbol_number Semicolon)))
room_count_complete {fuel} (Some e) =
    follow_complete (λ x f. inl f) (λ x f. tt)
    (some_complete _ (λ x e. rw e refl)
    (less_complete (omega arith) (in_brackets_complete OpenSquare CloseSquare (ends_before CloseSquare refl refl) (whole_complete fuel e))))
room_count_complete None = follow_complete (λ x f. inr f) (λ x f. f) (none_complete _ (λ x e. rw e refl))

sized_room_complete : {fuel : ℕ} (width : TypeName) (count : Option Expr) →
    Complete fuel (optional_is (λ e. square_is (grammar.whole e)) count ⨾ symbol_is Semicolon) (rooms.Data width count) (sized_room fuel width) Sized Anything
sized_room_complete width count =
    after_complete {b = λ count. rooms.Data width count} (room_count_complete count) (λ x e. e) (λ count.
    last_complete (λ _. rooms.Data width count) (symbol_complete Semicolon))

pub ident_strict : (i : Ident) → Strict (grammar.ident i)
ident_strict i = here_strict i.token (token_strict (only_name i.name))

pub type_strict : (t : TypeName) → Strict (grammar.type_name t)
type_strict t = here_strict t.token (by t.form) where
  by : (form : TypeForm) → Strict (grammar.type_form form)
  by (Bits width) = token_strict (only_keyword (width_word width))
  by (OfName bytes) = token_strict (only_name bytes)

-- not the end of the stackdata
abbrev pub NotClose : Option Lexeme → Type 0
NotClose = Passes (is_other CloseBrace)

type_not_close : (form : TypeForm) (x : Option Lexeme) → Next (type_token form) x → NotClose x
type_not_close (Bits width) x e = rw e refl
type_not_close (OfName bytes) x e = rw e refl

type_no_align : (form : TypeForm) (x : Option Lexeme) → Next (type_token form) x → Not (is_word Align) x
type_no_align (Bits W8) x e = rw e refl
type_no_align (Bits W16) x e = rw e refl
type_no_align (Bits W32) x e = rw e refl
type_no_align (Bits W64) x e = rw e refl
type_no_align (OfName bytes) x e = rw e refl

-- a type, or a name that may be one
typed_room_complete : {fuel : ℕ} (token : ℕ) (form : TypeForm) (count : Option Expr) →
    Complete fuel
    (grammar.type_name (record { token = token; form = form }) ⨾ optional_is (λ e. square_is (grammar.whole e)) count ⨾ symbol_is Semicolon)
    (rooms.Data (record { token = token; form = form }) count) (bits >>= room_by fuel) (Next (type_token form)) Anything
typed_room_complete {fuel} token (Bits width) count =
    then_complete (room_by fuel)
    (some_complete is_width (λ x e. rw e (bits_begin width)) (type_name_complete (record { token = token; form = Bits width }))) (λ x f. tt)
    (sized_room_complete (record { token = token; form = Bits width }) count)
typed_room_complete {fuel} token (OfName bytes) count =
    start_complete (room_by fuel) (none_complete is_width (λ x e. rw e refl)) (λ x e. e)
    (after_complete {b = λ name. rooms.Data (named_type name) count} (ident_complete (record { name = bytes; token = token })) (λ x f. tt) (λ name.
    fails_complete _ sized_no_colon (sized_room_complete (named_type name) count)))

room_form_spends : {fuel : ℕ} (f : RoomForm) → Spends fuel (bodies.room_form f) f (room_form fuel) NotClose Anything
room_form_spends {fuel} (rooms.Label name) =
    follow_spends (λ x e. rw e refl) (λ x f. f)
    (not_next_spends _ (λ x e. rw e refl)
    record {
      complete = start_complete (room_by fuel) (none_complete is_width (λ x e. rw e refl)) (λ x e. e)
          (after_complete {b = λ name. rooms.Label name} (ident_complete name) (λ x f. tt) (λ name. only_symbol_complete Colon));
      strict = strict_then (ident_strict name) (symbol_complete {fuel = 0} Colon).moves;
    })
room_form_spends (rooms.Align bytes) =
    follow_spends (λ x e. rw e refl) (λ x f. f)
    (if_word_spends Align
    (after_complete {b = λ bytes. rooms.Align bytes} (int_complete bytes) (λ x f. tt) (λ bytes. last_complete (λ _. rooms.Align bytes) (symbol_complete Semicolon))))
room_form_spends {fuel} (rooms.Data width count) =
    follow_spends (type_not_close width.form) (λ x f. f)
    (not_next_spends _ (type_no_align width.form)
    record {
      complete = typed_room_complete width.token width.form count;
      strict = strict_then (type_strict width) (sized_room_complete {fuel = fuel} width count).moves;
    })

room_spends : {fuel : ℕ} (r : Room) → Spends fuel (room_is r) r (room fuel) NotClose Anything
room_spends r = here_spends (λ token form. record { token = token; form = form }) r.token (room_form_spends r.form)

-- rows in braces
pub brace_rows : Rows (is_other CloseBrace) NotClose Anything (Next (l.Symbol (symbol_number CloseBrace)))
brace_rows = record { starts = λ x f. f; ends = λ x e. rw e refl; goes_on = λ x f. tt }

pub stackdata_complete : {fuel : ℕ} (found : List Room) →
    Complete fuel (braces_is (many_is room_is found)) (locals.Stackdata found) (stackdata fuel) (Next (l.Symbol (symbol_number OpenBrace))) Anything
stackdata_complete {fuel} found =
    last_complete locals.Stackdata
    (less_complete (omega arith)
    (in_brackets_complete OpenBrace CloseBrace (λ x e. e) (many_complete (room fuel) room_is brace_rows found (each_of room_spends found))))

-- ---- procedures

formal_parts : Parts begins_formal (Passes begins_formal) Anything (Next (l.Symbol (symbol_number Close)))
formal_parts = parts_before begins_formal Close refl refl (λ x f. tt)

pub procedure_complete : {fuel : ℕ} {block : Reads Block} → ((b : Block) → Complete fuel (bodies.block b) b block Anything Anything) → (p : Proc) →
    (name : Ident) →
    Complete fuel (round_is (may_list_is bodies.formal p.formals) ⨾ bodies.block p.body ⨾ here_is p.past)
    (record { name = name; formals = p.formals; body = p.body; past = p.past })
    (procedure fuel block name) (Next (l.Symbol (symbol_number Open))) Anything
procedure_complete {fuel} block p name =
    after_complete {b = λ formals. record { name = name; formals = formals; body = p.body; past = p.past }}
    (less_complete (omega arith) (in_brackets_complete Open Close (λ x e. e) (may_list_complete formal bodies.formal formal_parts p.formals formal_complete)))
    (λ x f. tt) (λ formals.
    after_complete {b = λ body. record { name = name; formals = formals; body = body; past = p.past }} (block p.body) (λ x f. tt) (λ body.
    last_complete (λ past. record { name = name; formals = formals; body = body; past = past }) (here_complete p.past)))
