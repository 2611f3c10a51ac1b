-- Each part of a body that holds no block is read.
use Rattle.std.proofs.Common.{◌≡◌, ℕ, refl, List, [], None, Option, Some, ap, false, sym, ◌∙◌, ◌∷◌, Bool, true}
use Rattle.cmm_words.specs.declared.width.Width.TheVariants.{W8, W16, W32, W64}
use Rattle.cmm_words.specs.declared.width.Width.{Width}
use Rattle.cmm_lexer.specs.declared.piece.Lexeme.TheVariants as l
use Rattle.cmm_lexer.specs.declared.piece.Lexeme.{Lexeme}
use Rattle.cmm_ast.specs.declared.token.Ident.{Ident}
use Rattle.cmm_ast.specs.declared.token.Int.{Int}
use Rattle.cmm_ast.specs.declared.token.Text.{Text}
use Rattle.cmm_lexer.specs.declared.keyword.Keyword.TheVariants as word
use Rattle.cmm_lexer.specs.declared.keyword.Keyword.{Keyword}
use Rattle.cmm_lexer.specs.declared.symbol.Symbol.TheVariants as sign
use Rattle.cmm_ast.specs.declared.expression.Expr.{Expr}
use Rattle.cmm_ast.specs.declared.expression.ExprForm.{more_of-Expr, end_of-Expr}
use Rattle.cmm_ast.specs.declared.expression.Memory.{Memory', Memory}
use Rattle.cmm_ast.specs.declared.expression.TypeForm.TheVariants.{Bits, Named as OfName}
use Rattle.cmm_ast.specs.declared.expression.TypeForm.{TypeForm}
use Rattle.cmm_ast.specs.declared.expression.TypeName.{TypeName}
use Rattle.cmm_ast.specs.declared.procedure.LocalForm.TheVariants as locals
use Rattle.cmm_ast.specs.declared.procedure.LocalForm.{LocalForm}
use Rattle.cmm_ast.specs.declared.procedure.Modifiers.TheVariants as before
use Rattle.cmm_ast.specs.declared.procedure.Modifiers.{Modifiers}
use Rattle.cmm_ast.specs.declared.statement.Actual.{Actual}
use Rattle.cmm_ast.specs.declared.statement.Callee.{Callee}
use Rattle.cmm_ast.specs.declared.statement.CalleeForm.TheVariants as callees
use Rattle.cmm_ast.specs.declared.statement.CalleeForm.{CalleeForm}
use Rattle.cmm_ast.specs.declared.statement.Flow.{Flow}
use Rattle.cmm_ast.specs.declared.statement.Kinded.{Kinded}
use Rattle.cmm_ast.specs.declared.statement.Lvalue.TheVariants as lvalues
use Rattle.cmm_ast.specs.declared.statement.Lvalue.{Lvalue}
use Rattle.cmm_ast.specs.declared.statement.StmtForm.TheVariants as stmts
use Rattle.cmm_ast.specs.declared.statement.StmtForm.{StmtForm}
use Rattle.cmm_lexer.specs.Spellings.{keyword_number, symbol_number}
use Rattle.cmm_grammar.specs.Taking.{Reading, Takes, here as here_is, is_word, is_sign, keyword as keyword_is, listed as listed_is, nothing, symbol as symbol_is, token, ◌⨾◌, commas as commas_is, is_name, optional as optional_is, square as square_is}
use Rattle.cmm_grammar.specs.ExpressionGrammar as grammar
use Rattle.cmm_grammar.specs.ExpressionGrammar.{width_word, aligned_by}
use Rattle.cmm_grammar.specs.StatementGrammar as bodies
use Rattle.cmm_grammar.specs.Reading.{Reads, if_next, next, skip, ◌>>=◌}
use Rattle.cmm_grammar.specs.inside.Duties.{Complete}
use Rattle.cmm_grammar.specs.ExpressionReading.{named_type, type_name}
use Rattle.cmm_grammar.specs.PartReading.{is_any_name, is_width}
use Rattle.cmm_grammar.specs.ProcedureReading.{variables}
use Rattle.cmm_grammar.specs.StatementReading.{OfLocal, PartForm, flat_by, flat_part, is_within, memory_stmt, name_stmt, of_local, of_stmt, kind_part, kinded_part, width_part, OfStmt, memory_token, word_stmt}
use Rattle.cmm_grammar.specs.TargetReading.{Results}
use Rattle.cmm_grammar.proofs.Takings.{takes_assoc, takes_nothing, commas_to, rest_to}
use Rattle.cmm_grammar.proofs.ExpressionForms.{opened, operand_is}
use Rattle.cmm_grammar.proofs.StatementForms.{outer_type}
use Rattle.cmm_grammar.proofs.Completes.{Anything, Next, at_complete, both, fails_complete, holds_complete, last_complete, skip_complete, token_taken, number_taken, token_strict, then_complete}
use Rattle.cmm_grammar.proofs.Tokens.{ident_complete, only_keyword, only_text, text_complete}
use Rattle.cmm_grammar.proofs.CompleteRepeats.{either_not, Not, Passes, other_symbol, Spends, strict_then, strict_second, here_strict, follow_spends, not_next_spends, if_next_spends, last_spends, never_spends, word_spends, taken_spends, same_spends}
use Rattle.cmm_grammar.proofs.CompleteExpressions.{type_name_complete, type_token}
use Rattle.cmm_grammar.proofs.CompleteDeclarations.{bits_begin}
use Rattle.cmm_grammar.proofs.CompleteNames.{AtOpen, Located, located_stmt, memory_call, memory_values, name_call, name_located, name_results, name_values, word_at, name_checked, name_label}
use Rattle.cmm_grammar.proofs.CompleteProcedures.{modifiers_complete, stackdata_complete, variables_complete, type_no_invariant, ident_strict, type_strict}
use Rattle.cmm_grammar.proofs.CompleteTargets.{first_complete, CallAfter, CallRest, ResultsRest, ValuesAfter, assignment_call, numbers_same}
use Rattle.cmm_grammar.proofs.CompleteWords.{return_stmt, goto_stmt, jump_stmt, cut_stmt, continuation_stmt, foreign_stmt, bracketed_stmt, empty_stmt}

-- what a part that holds no block begins with
pub record FlatStart (x : Option Lexeme) : Type 0 where
  pub within : Passes is_within x
  pub no_else : Not (is_word word.Else) x
  pub no_if : Not (is_word word.If) x
  pub no_switch : Not (is_word word.Switch) x
  pub no_span : Not (is_word word.Span) x

-- a token is none of these words
abbrev is_none : List Keyword → Lexeme → Bool
is_none [] x = true
is_none (k ∷ ks) x = elim (is_word k x) [ true ↦ false | false ↦ is_none ks x ]

none_first : (test rest : Bool) → elim test as (λ _. Bool) [ true ↦ false | false ↦ rest ] ≡ true → (test ≡ false) × (rest ≡ true)
none_first true rest e = absurd cc
none_first false rest e = (refl, e)

is_none_first : (k : Keyword) (ks : List Keyword) (x : Lexeme) → is_none (k ∷ ks) x ≡ true → (is_word k x ≡ false) × (is_none ks x ≡ true)
is_none_first k ks x e = none_first (is_word k x) (is_none ks x) e

-- these go on with a statement that holds blocks, or begin one
abbrev of_blocks : List Keyword
of_blocks = word.Else ∷ word.If ∷ word.Switch ∷ word.Span ∷ []

flat_start : (x : Lexeme) → is_within x ≡ true → is_none of_blocks x ≡ true → FlatStart (Some x)
flat_start x within e =
    let after_else = is_none_first word.Else (word.If ∷ word.Switch ∷ word.Span ∷ []) x e in
    let after_if = is_none_first word.If (word.Switch ∷ word.Span ∷ []) x after_else.1 in
    let after_switch = is_none_first word.Switch (word.Span ∷ []) x after_if.1 in
    record {
      within = within;
      no_else = after_else.0;
      no_if = after_if.0;
      no_switch = after_switch.0;
      no_span = (is_none_first word.Span [] x after_switch.1).0;
    }

width_of_no_block : (width : Width) → is_none of_blocks (l.Word (keyword_number (width_word width))) ≡ true
width_of_no_block W8 = refl
width_of_no_block W16 = refl
width_of_no_block W32 = refl
width_of_no_block W64 = refl

-- ---- by the first token

module _ {fuel : ℕ} {p : Takes} {form : PartForm} where
  -- this token
  at_token : (x : Lexeme) → is_within x ≡ true → is_none of_blocks x ≡ true → Spends fuel p form (flat_by fuel (Some x)) (Next x) Anything →
      Spends fuel p form (flat_part fuel) FlatStart Anything
  at_token x within none one =
      follow_spends (λ y is. rw is (flat_start x within none)) (λ y f. f)
      (record { complete = at_complete (flat_by fuel) x one.complete; strict = one.strict })

-- what follows a name
abbrev after_name : ℕ → Ident → Reads PartForm
after_name fuel name = if_next is_any_name (of_local (variables fuel before.Nothing (named_type name))) (of_stmt (name_stmt fuel name))

-- what follows a text
abbrev after_kind : ℕ → Text → Reads PartForm
after_kind fuel kind =
    if_next (is_word word.Invariant) (skip >>= λ _. type_name >>= λ width. of_local (variables fuel (before.KindInvariant kind) width))
    (kind_part fuel kind)

-- a part that begins with a name, a width, or a kind, by what follows that
module _ {fuel : ℕ} {p : Takes} {form : PartForm} {first : Option Lexeme → Type 0} where
  by_name : (name : Ident) → Complete fuel p form (after_name fuel name) first Anything →
      Spends fuel (grammar.ident name ⨾ p) form (flat_part fuel) FlatStart Anything
  by_name name one =
      at_token (l.Name name.name) refl refl
      (record { complete = then_complete (after_name fuel) (ident_complete name) (λ x f. tt) one; strict = strict_then (ident_strict name) one.moves })

  by_width : (token_ : ℕ) (width : Width) → Complete fuel p form (width_part fuel (record { token = token_; form = Bits width })) first Anything →
      Spends fuel (grammar.type_name (record { token = token_; form = Bits width }) ⨾ p) form (flat_part fuel) FlatStart Anything
  by_width token_ width one =
      let t : TypeName = record { token = token_; form = Bits width } in
      at_token (l.Word (keyword_number (width_word width))) refl (width_of_no_block width)
      (if_next_spends is_width (λ x is. rw is (bits_begin width))
      (record { complete = then_complete (width_part fuel) (type_name_complete t) (λ x f. tt) one; strict = strict_then (type_strict t) one.moves }))

  by_kind : (kind : Text) → Complete fuel p form (after_kind fuel kind) first Anything →
      Spends fuel (grammar.text kind ⨾ p) form (flat_part fuel) FlatStart Anything
  by_kind kind one =
      at_token (l.Text kind.bytes) refl refl record {
        complete = then_complete (after_kind fuel) (text_complete kind) (λ x f. tt) one;
        strict = strict_then (here_strict kind.token (token_strict (only_text kind.bytes))) one.moves;
      }

  by_kind_name : (kind : Text) (name : Ident) → Complete fuel p form (kinded_part fuel kind name) first Anything →
      Complete fuel (grammar.ident name ⨾ p) form (after_kind fuel kind) (Next (l.Name name.name)) Anything
  by_kind_name kind name one =
      fails_complete (is_word word.Invariant) (λ x is. rw is refl)
      (fails_complete is_width (λ x is. rw is refl) (then_complete (kinded_part fuel kind) (ident_complete name) (λ x f. tt) one))

-- ---- variables and stackdata

name_no_square : (x : Option Lexeme) → Passes is_any_name x → Not (is_sign sign.OpenSquare) x
name_no_square = other_symbol is_any_name sign.OpenSquare refl

-- variables after their type
abbrev Named : List Ident → Takes
Named named = listed_is grammar.ident named ⨾ symbol_is sign.Semicolon

module _ (fuel : ℕ) (named : List Ident) where
  abbrev Variables : Modifiers → TypeName → Type 0
  Variables before width =
      Spends fuel (bodies.modifiers before ⨾ grammar.type_name width ⨾ Named named) (OfLocal (locals.Variables before width named)) (flat_part fuel) FlatStart Anything

  after_type : (before : Modifiers) (width : TypeName) →
      Complete fuel (Named named) (OfLocal (locals.Variables before width named)) (of_local (variables fuel before width)) (Passes is_any_name) Anything
  after_type before width = last_complete OfLocal (variables_complete before width named)

  typed : (before : Modifiers) (width : TypeName) →
      Complete fuel (grammar.type_name width ⨾ Named named) (OfLocal (locals.Variables before width named)) (type_name >>= λ width. of_local (variables fuel before width))
      (Next (type_token width.form)) Anything
  typed before width = then_complete (λ width. of_local (variables fuel before width)) (type_name_complete width) (λ x f. tt) (after_type before width)

  plain_variables : (token_ : ℕ) (form : TypeForm) → Variables before.Nothing (record { token = token_; form = form })
  plain_variables token_ (Bits width) =
      by_width token_ width (fails_complete (is_sign sign.OpenSquare) name_no_square (after_type before.Nothing (record { token = token_; form = Bits width })))
  plain_variables token_ (OfName bytes) =
      by_name (record { name = bytes; token = token_ })
      (holds_complete is_any_name (λ x e. e) (after_type before.Nothing (record { token = token_; form = OfName bytes })))

  kind_variables : (kind : Text) (token_ : ℕ) (form : TypeForm) → Variables (before.Kind kind) (record { token = token_; form = form })
  kind_variables kind token_ (Bits width) =
      by_kind kind
      (fails_complete (is_word word.Invariant) (type_no_invariant (Bits width))
      (holds_complete is_width (λ x is. rw is (bits_begin width)) (typed (before.Kind kind) (record { token = token_; form = Bits width }))))
  kind_variables kind token_ (OfName bytes) =
      by_kind kind
      (by_kind_name kind (record { name = bytes; token = token_ })
      (holds_complete is_any_name (λ x e. e) (after_type (before.Kind kind) (record { token = token_; form = OfName bytes }))))

  kind_invariant_variables : (kind : Text) (width : TypeName) → Variables (before.KindInvariant kind) width
  kind_invariant_variables kind width =
      same_spends (takes_assoc (grammar.text kind) (keyword_is word.Invariant) (grammar.type_name width ⨾ Named named))
      (by_kind kind
      (holds_complete (is_word word.Invariant) (λ x is. rw is refl)
      (then_complete (λ _. type_name >>= λ width. of_local (variables fuel (before.KindInvariant kind) width))
      (skip_complete (is_word word.Invariant) (only_keyword word.Invariant)) (λ x f. tt) (typed (before.KindInvariant kind) width))))

  -- the word first
  invariant_variables : (m : Modifiers) (width : TypeName) →
      ((r after : Reading) → (bodies.modifiers m ⨾ grammar.type_name width ⨾ Named named) r ≡ Some after → Next (l.Word (keyword_number word.Invariant)) (next r.left)) →
      Variables m width
  invariant_variables m width first =
      at_token (l.Word (keyword_number word.Invariant)) refl refl
      (not_next_spends is_width (λ x is. rw is refl)
      (if_next_spends (is_word word.Invariant) (λ x is. rw is refl) record {
        complete = first_complete first
            (then_complete (λ m. type_name >>= λ width. of_local (variables fuel m width)) (modifiers_complete width.form m) (λ x e. e) (typed m width));
        strict = strict_second (modifiers_complete {fuel = 0} width.form m).moves (strict_then (type_strict width) (after_type m width).moves);
      }))

-- the word is what the modifiers begin with
invariant_next : (n : ℕ) (p q : Takes) (r after : Reading) → ((here_is n ⨾ keyword_is word.Invariant ⨾ p) ⨾ q) r ≡ Some after →
    Next (l.Word (keyword_number word.Invariant)) (next r.left)
invariant_next n p q r after e =
    let s = both (here_is n ⨾ keyword_is word.Invariant ⨾ p) q r after e in
    let t = both (keyword_is word.Invariant) p r s.between (number_taken n (keyword_is word.Invariant ⨾ p) r s.between s.first).1 in
    (token_taken (is_word word.Invariant) (l.Word (keyword_number word.Invariant)) r t.between (only_keyword word.Invariant) t.first).next_was

pub local_spends : {fuel : ℕ} (form : LocalForm) → Spends fuel (bodies.local_form form) (OfLocal form) (flat_part fuel) FlatStart Anything
local_spends {fuel} (locals.Variables before.Nothing width named) = plain_variables fuel named width.token width.form
local_spends {fuel} (locals.Variables (before.Kind kind) width named) = kind_variables fuel named kind width.token width.form
local_spends {fuel} (locals.Variables (before.KindInvariant kind) width named) = kind_invariant_variables fuel named kind width
local_spends {fuel} (locals.Variables (before.Invariant n) width named) =
    invariant_variables fuel named (before.Invariant n) width
    (λ r after e. invariant_next n nothing (grammar.type_name width ⨾ Named named) r after
    (ap (λ t. ((here_is n ⨾ t) ⨾ grammar.type_name width ⨾ Named named) r) (takes_nothing (keyword_is word.Invariant)) ∙ e))
local_spends {fuel} (locals.Variables (before.InvariantKind n kind) width named) =
    invariant_variables fuel named (before.InvariantKind n kind) width (invariant_next n (grammar.text kind) (grammar.type_name width ⨾ Named named))
local_spends {fuel} (locals.Stackdata rooms) =
    at_token (l.Word (keyword_number word.Stackdata)) refl refl
    (not_next_spends is_width (λ x is. rw is refl)
    (not_next_spends (is_word word.Invariant) (λ x is. rw is refl)
    (if_next_spends (is_word word.Stackdata) (λ x is. rw is refl) (word_spends word.Stackdata (last_complete OfLocal (stackdata_complete rooms))))))

-- ---- statements that begin with a name or a word in memory

stmt_after_name : {fuel : ℕ} {p : Takes} {form : StmtForm} {first : Option Lexeme → Type 0} (name : Ident) →
    ((x : Option Lexeme) → first x → Not is_any_name x) → Complete fuel p form (name_stmt fuel name) first Anything →
    Spends fuel (grammar.ident name ⨾ p) (OfStmt form) (flat_part fuel) FlatStart Anything
stmt_after_name name no_name one = by_name name (fails_complete is_any_name no_name (last_complete OfStmt one))

stmt_after_type : {fuel : ℕ} {p : Takes} {form : StmtForm} {first : Option Lexeme → Type 0} (token_ : ℕ) (width : TypeForm) (e : Expr) (bytes : Option Int) →
    Complete fuel p form (memory_stmt fuel (word_at (record { token = token_; form = width }) e bytes)) first Anything →
    Spends fuel (grammar.type_name (record { token = token_; form = width }) ⨾ Located e bytes ⨾ p) (OfStmt form) (flat_part fuel) FlatStart Anything
stmt_after_type token_ (Bits width) e bytes one =
    by_width token_ width
    (holds_complete (is_sign sign.OpenSquare) (λ x is. rw is refl)
    (last_complete OfStmt (located_stmt (record { token = token_; form = Bits width }) e bytes one)))
stmt_after_type token_ (OfName name) e bytes one =
    stmt_after_name (record { name = name; token = token_ }) (λ x is. rw is refl) (name_located (record { name = name; token = token_ }) e bytes one)

stmt_after_memory : {fuel : ℕ} {p : Takes} {form : StmtForm} {first : Option Lexeme → Type 0} (m : Memory) →
    Complete fuel p form (memory_stmt fuel m) first Anything → Spends fuel (grammar.whole_memory m ⨾ p) (OfStmt form) (flat_part fuel) FlatStart Anything
unfolding opened
stmt_after_memory {fuel = fuel} {p = p} {form = form} (Memory' width a (more_of-Expr t f end_of-Expr) bytes) one =
    let e : Expr = record { token = t; form = f } in
    same_spends
    (ap (λ q. q ⨾ p) (outer_type width (square_is (operand_is 0 e ⨾ optional_is aligned_by bytes)))
    ∙ takes_assoc (grammar.type_name width) (Located e bytes) p)
    (stmt_after_type width.token width.form e bytes one)

-- ---- assignments

-- a statement is read as a part
abbrev pub IsRead : ℕ → StmtForm → Type 0
IsRead fuel form = Spends fuel (bodies.stmt_form form) (OfStmt form) (flat_part fuel) FlatStart Anything

-- by its first target, and what goes on
first_target : {fuel : ℕ} {form : StmtForm} {A : Type 0} (p : A → Takes) (a : A) (as_ : List A) (k : Takes) →
    Spends fuel (p a ⨾ rest_to p as_ k) (OfStmt form) (flat_part fuel) FlatStart Anything →
    Spends fuel (commas_is p (a ∷ as_) ⨾ k) (OfStmt form) (flat_part fuel) FlatStart Anything
first_target {fuel = fuel} {form = form} p a as_ k one =
    same_spends (commas_to p a as_ k) one

assign_complete : {fuel : ℕ} (to : List Lvalue) (vs : List Expr) → IsRead fuel (stmts.Assign to vs)
assign_complete [] vs = never_spends (λ r after e. absurd cc)
assign_complete {fuel} (lvalues.Name name ∷ to) vs =
    first_target bodies.lvalue (lvalues.Name name) to (symbol_is sign.Assign ⨾ ValuesAfter vs) (stmt_after_name name (either_not _ refl refl) (name_values fuel name to vs))
assign_complete {fuel} (lvalues.Memory m ∷ to) vs =
    first_target bodies.lvalue (lvalues.Memory m) to (symbol_is sign.Assign ⨾ ValuesAfter vs) (stmt_after_memory m (memory_values fuel m to vs))

-- ---- calls with results

results_complete : {fuel : ℕ} (kind : Option Text) (name : Ident) (ks : List Kinded) (by : Option Text) (what : Callee) (actuals : List Actual) (fs : List Flow) →
    IsRead fuel (stmts.Call (record { kind = kind; name = name } ∷ ks) by what actuals fs)
results_complete {fuel} kind name ks by what actuals fs =
    let k : Kinded = record { kind = kind; name = name } in
    same_spends (takes_assoc (commas_is bodies.kinded (k ∷ ks)) (symbol_is sign.Assign) (CallAfter by what actuals fs))
    (first_target bodies.kinded k ks (symbol_is sign.Assign ⨾ CallAfter by what actuals fs) (by_kind_of kind))
  where
    by_kind_of : (kind : Option Text) →
        Spends fuel (bodies.kinded (record { kind = kind; name = name }) ⨾ ResultsRest ks by what actuals fs)
        (OfStmt (stmts.Call (record { kind = kind; name = name } ∷ ks) by what actuals fs)) (flat_part fuel) FlatStart Anything
    by_kind_of None = stmt_after_name name (either_not _ refl refl) (name_results fuel name ks by what actuals fs)
    by_kind_of (Some kind) =
        same_spends (takes_assoc (grammar.text kind) (grammar.ident name) (ResultsRest ks by what actuals fs))
        (by_kind kind
        (by_kind_name kind name
        (fails_complete is_any_name (either_not _ refl refl)
        (last_complete OfStmt (assignment_call fuel (Results (record { kind = Some kind; name = name } ∷ [])) tt ks by what actuals fs)))))

-- ---- calls without results or convention

-- the number before a name or a word in memory is its own
without : (n : ℕ) (p k : Takes) (r after : Reading) → ((here_is n ⨾ p) ⨾ k) r ≡ Some after → (p ⨾ k) r ≡ Some after
without n p k r after e = (number_taken n (p ⨾ k) r after (ap (λ t. t r) (sym (takes_assoc (here_is n) p k)) ∙ e)).1

-- the number of a word in memory is that of its type
memory_number : (m : Memory) (r after : Reading) → grammar.whole_memory m r ≡ Some after → memory_token m ≡ r.taken
memory_number (Memory' width a row bytes) r after e =
    let there : Reading = record r { operators = 0 } in
    let s = both (grammar.type_name width) (square_is (grammar.operand 0 row ⨾ optional_is aligned_by bytes)) there after e in
    (number_taken width.token (grammar.type_form width.form) there s.between s.first).0

memory_numbers : (n : ℕ) (m : Memory) (k : Takes) (r after : Reading) → ((here_is n ⨾ grammar.whole_memory m) ⨾ k) r ≡ Some after → n ≡ memory_token m
memory_numbers n m k r after e =
    let s = both (here_is n ⨾ grammar.whole_memory m) k r after e in
    let first = number_taken n (grammar.whole_memory m) r s.between s.first in
    first.0 ∙ sym (memory_number m r s.between first.1)

open_no_name : (x : Option Lexeme) → AtOpen x → Not is_any_name x
open_no_name x e = rw e refl

abbrev Call : List Actual → List Flow → Callee → StmtForm
Call actuals fs what = stmts.Call [] None what actuals fs

module _ (fuel : ℕ) (actuals : List Actual) (fs : List Flow) where
  call_of_name : (n : ℕ) (i : Ident) → IsRead fuel (Call actuals fs (record { token = n; form = callees.Name i }))
  call_of_name n i =
      taken_spends (λ (same : n ≡ i.token). grammar.ident i ⨾ CallRest actuals fs)
      (λ r after e. (numbers_same n i.token (token (is_name i.name)) (CallRest actuals fs) r after e, without n (grammar.ident i) (CallRest actuals fs) r after e))
      (λ same. rw same (stmt_after_name i open_no_name (name_call fuel i actuals fs)))

  call_of_memory : (n : ℕ) (m : Memory) → IsRead fuel (Call actuals fs (record { token = n; form = callees.Memory m }))
  call_of_memory n m =
      taken_spends (λ (same : n ≡ memory_token m). grammar.whole_memory m ⨾ CallRest actuals fs)
      (λ r after e. (memory_numbers n m (CallRest actuals fs) r after e, without n (grammar.whole_memory m) (CallRest actuals fs) r after e))
      (λ same. rw same (stmt_after_memory m (memory_call fuel m actuals fs)))

-- ---- every part that holds no block

-- at a word that begins no variables
at_word : {fuel : ℕ} {form : StmtForm} (k : Keyword) → is_none of_blocks (l.Word (keyword_number k)) ≡ true → is_width (l.Word (keyword_number k)) ≡ false →
    is_none (word.Invariant ∷ word.Stackdata ∷ []) (l.Word (keyword_number k)) ≡ true →
    Spends fuel (bodies.stmt_form form) form (word_stmt fuel) (Next (l.Word (keyword_number k))) Anything → IsRead fuel form
at_word k none no_width e one =
    let x : Lexeme = l.Word (keyword_number k) in
    let after_invariant = is_none_first word.Invariant (word.Stackdata ∷ []) x e in
    let after_stackdata = is_none_first word.Stackdata [] x after_invariant.1 in
    at_token x refl none
    (not_next_spends is_width (λ y is. rw is no_width)
    (not_next_spends (is_word word.Invariant) (λ y is. rw is after_invariant.0)
    (not_next_spends (is_word word.Stackdata) (λ y is. rw is after_stackdata.0) (last_spends OfStmt one))))

-- a tree that holds no block
abbrev pub HoldsNoBlock : StmtForm → Type 0
HoldsNoBlock (stmts.If' condition _ body otherwise) = ⊥
HoldsNoBlock (stmts.Switch' over value _ arms) = ⊥
HoldsNoBlock (stmts.Span' key value _ body) = ⊥
HoldsNoBlock _ = Unit {0}

module _ {fuel : ℕ} where
  -- by the callee, which tells what the call begins with
  plain_call : (what : Callee) (actuals : List Actual) (fs : List Flow) → IsRead fuel (stmts.Call [] None what actuals fs)
  plain_call what actuals fs = by what.token what.form where
    by : (n : ℕ) (form : CalleeForm) → IsRead fuel (stmts.Call [] None (record { token = n; form = form }) actuals fs)
    by n (callees.Name i) = call_of_name fuel actuals fs n i
    by n (callees.Memory m) = call_of_memory fuel actuals fs n m
    by n (callees.Bracketed e) =
        at_token (l.Symbol (symbol_number sign.Open)) refl refl (last_spends OfStmt (bracketed_stmt fuel n e actuals fs))

  pub stmt_spends : (form : StmtForm) → HoldsNoBlock form → IsRead fuel form
  stmt_spends stmts.Empty none = at_token (l.Symbol (symbol_number sign.Semicolon)) refl refl (last_spends OfStmt (empty_stmt fuel))
  stmt_spends (stmts.If' _ _ _ _) none = absurd none
  stmt_spends (stmts.Switch' _ _ _ _) none = absurd none
  stmt_spends (stmts.Span' _ _ _ _) none = absurd none
  stmt_spends (stmts.Assign to vs) none = assign_complete to vs
  stmt_spends (stmts.Checked name op left right fs) none = stmt_after_name name (either_not _ refl refl) (name_checked fuel name op left right fs)
  stmt_spends (stmts.Call [] None what actuals fs) none = plain_call what actuals fs
  stmt_spends (stmts.Call [] (Some kind) what actuals fs) none = at_word word.Foreign refl refl refl (foreign_stmt fuel kind what actuals fs)
  stmt_spends (stmts.Call (k ∷ ks) by what actuals fs) none = results_complete k.kind k.name ks by what actuals fs
  stmt_spends (stmts.Jump what actuals) none = at_word word.Jump refl refl refl (jump_stmt fuel what actuals)
  stmt_spends (stmts.Return by found) none = at_word word.Return refl refl refl (return_stmt fuel by found)
  stmt_spends (stmts.Label name) none = stmt_after_name name (λ x is. rw is refl) (name_label fuel name)
  stmt_spends (stmts.Continuation name ks) none = at_word word.Continuation refl refl refl (continuation_stmt fuel name ks)
  stmt_spends (stmts.Goto name) none = at_word word.Goto refl refl refl (goto_stmt fuel name)
  stmt_spends (stmts.Cut what actuals fs) none = at_word word.Cut refl refl refl (cut_stmt fuel what actuals fs)
