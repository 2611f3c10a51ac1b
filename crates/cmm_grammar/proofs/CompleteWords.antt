-- Each statement that begins with a reserved word or a symbol, and holds no block, is read.
use Rattle.std.proofs.Common.{ℕ, ◌⊎◌, List, [], Option, Some, None, refl, arith}
use Rattle.cmm_lexer.specs.declared.piece.Lexeme.{Lexeme}
use Rattle.cmm_lexer.specs.declared.piece.Lexeme.TheVariants as l
use Rattle.cmm_ast.specs.declared.token.Ident.{Ident}
use Rattle.cmm_ast.specs.declared.token.Text.{Text}
use Rattle.cmm_lexer.specs.declared.keyword.Keyword.TheVariants.{Continuation, Cut, Foreign, Goto, Jump, Return, To}
use Rattle.cmm_lexer.specs.declared.symbol.Symbol.TheVariants.{Open, Close, Colon, Less, Semicolon}
use Rattle.cmm_ast.specs.declared.expression.Expr.{Expr}
use Rattle.cmm_ast.specs.declared.statement.Actual.{Actual}
use Rattle.cmm_ast.specs.declared.statement.Callee.{Callee}
use Rattle.cmm_ast.specs.declared.statement.CalleeForm.TheVariants as callees
use Rattle.cmm_ast.specs.declared.statement.Exit.{Exit}
use Rattle.cmm_ast.specs.declared.statement.Flow.{Flow}
use Rattle.cmm_ast.specs.declared.statement.Kinded.{Kinded}
use Rattle.cmm_ast.specs.declared.statement.StmtForm.TheVariants as stmts
use Rattle.cmm_lexer.specs.Spellings.{keyword_number, symbol_number}
use Rattle.cmm_grammar.specs.Taking.{◌⨾◌, is_word, is_sign, keyword as keyword_is, symbol as symbol_is, optional as optional_is, round as round_is, may_list as may_list_is}
use Rattle.cmm_grammar.specs.ExpressionGrammar as grammar
use Rattle.cmm_grammar.specs.StatementGrammar as bodies
use Rattle.cmm_grammar.specs.Reading.{◌>>=◌, give}
use Rattle.cmm_grammar.specs.inside.Duties.{Complete}
use Rattle.cmm_grammar.specs.PartReading.{begins_kinded, kinded, lvalue, called, callee}
use Rattle.cmm_grammar.specs.CallReading.{call, call_after}
use Rattle.cmm_grammar.specs.StatementReading.{jump, return_form, goto, cut, continuation, word_stmt, symbol_stmt}
use Rattle.cmm_grammar.proofs.Completes.{Next, Anything, after_complete, last_complete, follow_complete, less_complete, holds_complete, fails_complete, token_strict, give_complete, here_complete, then_complete}
use Rattle.cmm_grammar.proofs.Tokens.{only_symbol, symbol_complete, keyword_complete, ident_complete, text_complete}
use Rattle.cmm_grammar.proofs.Lists.{Parts, may_list_complete}
use Rattle.cmm_grammar.proofs.CompleteExpressions.{in_brackets_complete, whole_complete, ends_before}
use Rattle.cmm_grammar.proofs.CompleteRepeats.{either_not, start_complete, parts_before, Passes, optional_complete, Spends, strict_then, strict_second, if_next_spends, not_next_spends, word_spends}
use Rattle.cmm_grammar.proofs.CompleteParts.{NoSquare, kinded_complete, arguments_complete, callee_complete, exit_complete}
use Rattle.cmm_grammar.proofs.CompleteFlows.{NoFlow, annotations_complete}
use Rattle.cmm_grammar.proofs.CompleteCalls.{call_complete}

-- ---- after the word

-- what may follow the exit of a return
abbrev AfterExit : Option Lexeme → Type 0
AfterExit x = Next (l.Symbol (symbol_number Open)) x ⊎ Next (l.Symbol (symbol_number Semicolon)) x

return_complete : (fuel : ℕ) (by : Option Exit) (values : Option (List Actual)) →
    Complete fuel (optional_is bodies.exit by ⨾ optional_is bodies.arguments values ⨾ symbol_is Semicolon) (stmts.Return by values)
    (return_form fuel) Anything Anything
return_complete fuel by values =
    follow_complete (λ x f. tt) (λ x f. f)
    (after_complete {b = λ by. stmts.Return by values}
    (optional_complete {follow = AfterExit} (is_sign Less) (λ x e. rw e refl) (either_not _ refl refl)
    (λ e. follow_complete (λ x f. f) (λ x f. tt) (exit_complete fuel e)) by)
    (λ x f. f) (λ by.
    after_complete {b = λ values. stmts.Return by values}
    (optional_complete {follow = Next (l.Symbol (symbol_number Semicolon))} (is_sign Open) (λ x e. rw e refl) (λ x e. rw e refl)
    (λ as_. follow_complete (λ x f. f) (λ x f. tt) (arguments_complete fuel as_)) values)
    (λ x f. f) (λ values. last_complete (λ _. stmts.Return by values) (symbol_complete Semicolon))))

goto_complete : {fuel : ℕ} (name : Ident) → Complete fuel (grammar.ident name ⨾ symbol_is Semicolon) (stmts.Goto name) goto Anything Anything
goto_complete name =
    follow_complete (λ x f. tt) (λ x f. f)
    (after_complete {b = λ name. stmts.Goto name} (ident_complete name) (λ x f. tt) (λ name. last_complete (λ _. stmts.Goto name) (symbol_complete Semicolon)))

-- no name goes on at the brackets of a call
no_square : (x : Option Lexeme) → Next (l.Symbol (symbol_number Open)) x → NoSquare x
no_square x e = rw e refl

jump_complete : (fuel : ℕ) (what : Callee) (actuals : List Actual) →
    Complete fuel (bodies.callee what ⨾ bodies.arguments actuals ⨾ symbol_is Semicolon) (stmts.Jump what actuals) (jump fuel) Anything Anything
jump_complete fuel what actuals =
    follow_complete (λ x f. tt) (λ x f. f)
    (after_complete {b = λ what. stmts.Jump what actuals} (callee_complete fuel what) no_square (λ what.
    after_complete {b = λ as_. stmts.Jump what as_} (arguments_complete fuel actuals) (λ x f. tt) (λ as_.
    last_complete (λ _. stmts.Jump what as_) (symbol_complete Semicolon))))

cut_complete : (fuel : ℕ) (what : Callee) (actuals : List Actual) (fs : List Flow) →
    Complete fuel (keyword_is To ⨾ bodies.callee what ⨾ bodies.arguments actuals ⨾ bodies.annotated fs ⨾ symbol_is Semicolon)
    (stmts.Cut what actuals fs) (cut fuel) Anything Anything
cut_complete fuel what actuals fs =
    follow_complete (λ x f. tt) (λ x f. f)
    (after_complete {b = λ _. stmts.Cut what actuals fs} (keyword_complete To) (λ x f. tt) (λ _.
    after_complete {b = λ what. stmts.Cut what actuals fs} (callee_complete fuel what) no_square (λ what.
    after_complete {b = λ as_. stmts.Cut what as_ fs} (arguments_complete fuel actuals) (λ x f. tt) (λ as_.
    after_complete {b = λ fs. stmts.Cut what as_ fs} (annotations_complete fuel fs) no_flow (λ fs.
    last_complete (λ _. stmts.Cut what as_ fs) (symbol_complete Semicolon))))))
  where
    no_flow : (x : Option Lexeme) → Next (l.Symbol (symbol_number Semicolon)) x → NoFlow x
    no_flow x e = rw e (refl, (refl, refl))

parameters : Parts begins_kinded (Passes begins_kinded) Anything (Next (l.Symbol (symbol_number Close)))
parameters = parts_before begins_kinded Close refl refl (λ x f. tt)

continuation_complete : (fuel : ℕ) (name : Ident) (ks : List Kinded) →
    Complete fuel (grammar.ident name ⨾ round_is (may_list_is bodies.kinded ks) ⨾ symbol_is Colon) (stmts.Continuation name ks)
    (continuation fuel) Anything Anything
continuation_complete fuel name ks =
    follow_complete (λ x f. tt) (λ x f. f)
    (after_complete {b = λ name. stmts.Continuation name ks} (ident_complete name) (λ x f. tt) (λ name.
    after_complete {b = λ ks. stmts.Continuation name ks}
    (less_complete (omega arith)
    (in_brackets_complete Open Close (λ x e. e) (may_list_complete kinded bodies.kinded parameters ks kinded_complete)))
    (λ x f. tt) (λ ks. last_complete (λ _. stmts.Continuation name ks) (symbol_complete Colon))))

-- ---- a statement by its word

pub return_stmt : (fuel : ℕ) (by : Option Exit) (values : Option (List Actual)) →
    Spends fuel (bodies.stmt_form (stmts.Return by values)) (stmts.Return by values) (word_stmt fuel) (Next (l.Word (keyword_number Return))) Anything
return_stmt fuel by values = if_next_spends _ (λ x e. rw e refl) (word_spends Return (return_complete fuel by values))

pub goto_stmt : (fuel : ℕ) (name : Ident) →
    Spends fuel (bodies.stmt_form (stmts.Goto name)) (stmts.Goto name) (word_stmt fuel) (Next (l.Word (keyword_number Goto))) Anything
goto_stmt fuel name = not_next_spends _ (λ x e. rw e refl) (if_next_spends _ (λ x e. rw e refl) (word_spends Goto (goto_complete name)))

pub jump_stmt : (fuel : ℕ) (what : Callee) (actuals : List Actual) →
    Spends fuel (bodies.stmt_form (stmts.Jump what actuals)) (stmts.Jump what actuals) (word_stmt fuel) (Next (l.Word (keyword_number Jump))) Anything
jump_stmt fuel what actuals =
    not_next_spends _ (λ x e. rw e refl)
    (not_next_spends _ (λ x e. rw e refl) (if_next_spends _ (λ x e. rw e refl) (word_spends Jump (jump_complete fuel what actuals))))

pub cut_stmt : (fuel : ℕ) (what : Callee) (actuals : List Actual) (fs : List Flow) →
    Spends fuel (bodies.stmt_form (stmts.Cut what actuals fs)) (stmts.Cut what actuals fs) (word_stmt fuel) (Next (l.Word (keyword_number Cut))) Anything
cut_stmt fuel what actuals fs =
    not_next_spends _ (λ x e. rw e refl)
    (not_next_spends _ (λ x e. rw e refl)
    (not_next_spends _ (λ x e. rw e refl) (if_next_spends _ (λ x e. rw e refl) (word_spends Cut (cut_complete fuel what actuals fs)))))

pub continuation_stmt : (fuel : ℕ) (name : Ident) (ks : List Kinded) →
    Spends fuel (bodies.stmt_form (stmts.Continuation name ks)) (stmts.Continuation name ks) (word_stmt fuel)
    (Next (l.Word (keyword_number Continuation))) Anything
continuation_stmt fuel name ks =
    not_next_spends _ (λ x e. rw e refl)
    (not_next_spends _ (λ x e. rw e refl)
    (not_next_spends _ (λ x e. rw e refl)
    (not_next_spends _ (λ x e. rw e refl)
    (if_next_spends _ (λ x e. rw e refl) (word_spends Continuation (continuation_complete fuel name ks))))))

-- ---- calls without results

-- by a foreign convention
foreign_spends : (fuel : ℕ) (t : Text) (what : Callee) (actuals : List Actual) (fs : List Flow) →
    Spends fuel (bodies.stmt_form (stmts.Call [] (Some t) what actuals fs)) (stmts.Call [] (Some t) what actuals fs) (call_after fuel [])
    (Next (l.Word (keyword_number Foreign))) Anything
foreign_spends fuel t what actuals fs =
    let by = word_spends {fuel = fuel} Foreign (last_complete (λ t. Some t) (text_complete t)) in
    let rest = after_complete {b = λ what. stmts.Call [] (Some t) what actuals fs} (callee_complete fuel what) no_square (λ what.
    call_complete fuel [] (Some t) what actuals fs)
    in
    record {
      complete = then_complete (λ by. callee fuel >>= λ what. call fuel [] by what)
          (holds_complete {fails = give None} (is_word Foreign) (λ x e. rw e refl) by.complete) (λ x f. tt) rest;
      strict = strict_then by.strict rest.moves;
    }

pub foreign_stmt : (fuel : ℕ) (t : Text) (what : Callee) (actuals : List Actual) (fs : List Flow) →
    Spends fuel (bodies.stmt_form (stmts.Call [] (Some t) what actuals fs)) (stmts.Call [] (Some t) what actuals fs) (word_stmt fuel)
    (Next (l.Word (keyword_number Foreign))) Anything
foreign_stmt fuel t what actuals fs =
    not_next_spends _ (λ x e. rw e refl)
    (not_next_spends _ (λ x e. rw e refl)
    (not_next_spends _ (λ x e. rw e refl)
    (not_next_spends _ (λ x e. rw e refl)
    (not_next_spends _ (λ x e. rw e refl) (if_next_spends _ (λ x e. rw e refl) (foreign_spends fuel t what actuals fs))))))

-- of an expression in round brackets
bracketed_complete : (fuel token : ℕ) (e : Expr) →
    Complete fuel (bodies.callee (record { token = token; form = callees.Bracketed e })) (record { token = token; form = callees.Bracketed e }) (callee fuel)
    (Next (l.Symbol (symbol_number Open))) Anything
bracketed_complete fuel token e =
    after_complete {b = λ n. record { token = n; form = callees.Bracketed e }} (here_complete token) (λ x f. f) (λ n.
    last_complete (λ form. record { token = n; form = form })
    (holds_complete {fails = lvalue fuel >>= λ v. give (called v)} (is_sign Open) (λ x e. rw e refl)
    (last_complete callees.Bracketed (less_complete (omega arith) (in_brackets_complete Open Close (ends_before Close refl refl) (whole_complete fuel e))))))

pub bracketed_stmt : (fuel token : ℕ) (e : Expr) (actuals : List Actual) (fs : List Flow) →
    Spends fuel (bodies.stmt_form (stmts.Call [] None (record { token = token; form = callees.Bracketed e }) actuals fs))
    (stmts.Call [] None (record { token = token; form = callees.Bracketed e }) actuals fs) (symbol_stmt fuel)
    (Next (l.Symbol (symbol_number Open))) Anything
bracketed_stmt fuel token e actuals fs =
    let callee_ = bracketed_complete fuel token e in
    if_next_spends _ (λ x e. rw e refl) record {
      complete = start_complete (λ by. callee fuel >>= λ what. call fuel [] by what)
          (fails_complete (is_word Foreign) (λ x e. rw e refl) (give_complete None)) (λ x f. f)
          (after_complete {b = λ what. stmts.Call [] None what actuals fs} callee_ (λ x f. tt) (λ what.
          call_complete fuel [] None what actuals fs));
      strict = strict_second callee_.moves
          (strict_second (arguments_complete 0 actuals).moves (strict_second (annotations_complete 0 fs).moves (token_strict (only_symbol Semicolon))));
    }

-- ---- the empty statement

pub empty_stmt : (fuel : ℕ) → Spends fuel (bodies.stmt_form stmts.Empty) stmts.Empty (symbol_stmt fuel) (Next (l.Symbol (symbol_number Semicolon))) Anything
empty_stmt fuel = not_next_spends _ (λ x e. rw e refl) record {
  complete = last_complete (λ _. stmts.Empty) (symbol_complete Semicolon);
  strict = token_strict (only_symbol Semicolon);
}
