-- Each call, and the values that a switch is over, are read.
use Rattle.std.proofs.Common.{◌≡◌, ℕ, ◌⊎◌, inl, inr, List, Option, Some, None, refl, arith}
use Rattle.cmm_lexer.specs.declared.piece.Lexeme.{Lexeme}
use Rattle.cmm_lexer.specs.declared.piece.Lexeme.TheVariants as l
use Rattle.cmm_ast.specs.declared.token.Text.{Text}
use Rattle.cmm_lexer.specs.declared.keyword.Keyword.TheVariants.{Foreign}
use Rattle.cmm_lexer.specs.declared.symbol.Symbol.TheVariants.{Open, OpenSquare, CloseSquare, Semicolon}
use Rattle.cmm_lexer.specs.declared.symbol.Symbol.TheVariants as sign
use Rattle.cmm_ast.specs.declared.statement.Actual.{Actual}
use Rattle.cmm_ast.specs.declared.statement.Callee.{Callee}
use Rattle.cmm_ast.specs.declared.statement.Flow.{Flow}
use Rattle.cmm_ast.specs.declared.statement.Kinded.{Kinded}
use Rattle.cmm_ast.specs.declared.statement.Span.{Span as SwitchSpan}
use Rattle.cmm_ast.specs.declared.statement.StmtForm.TheVariants as stmts
use Rattle.cmm_lexer.specs.Spellings.{keyword_number, symbol_number}
use Rattle.cmm_grammar.specs.Taking.{◌⨾◌, is_word, keyword as keyword_is, symbol as symbol_is, optional as optional_is}
use Rattle.cmm_grammar.specs.ExpressionGrammar as grammar
use Rattle.cmm_grammar.specs.StatementGrammar as bodies
use Rattle.cmm_grammar.specs.Reading.{give}
use Rattle.cmm_grammar.specs.inside.Duties.{Complete}
use Rattle.cmm_grammar.specs.CallReading.{call, convention, call_after}
use Rattle.cmm_grammar.specs.StatementReading.{switch_span}
use Rattle.cmm_grammar.proofs.Completes.{Next, Anything, after_complete, give_complete, last_complete, follow_complete, less_complete, holds_complete, fails_complete, skip_complete}
use Rattle.cmm_grammar.proofs.Tokens.{only_keyword, symbol_complete, text_complete}
use Rattle.cmm_grammar.proofs.CompleteExpressions.{Ends, in_brackets_complete, whole_complete}
use Rattle.cmm_grammar.proofs.CompleteParts.{begins_callee, arguments_complete, callee_complete}
use Rattle.cmm_grammar.proofs.CompleteFlows.{NoFlow, annotations_complete}
use Rattle.cmm_grammar.proofs.CompleteRepeats.{Passes, Not, other_word}

-- ---- what a switch is over

ends_at : (n : ℕ) (x : Option Lexeme) → x ≡ Some (l.Symbol n) → Ends 0 (Some (l.Symbol n)) → Ends 0 x
ends_at n x is e = rw is e

pub switch_span_complete : (fuel : ℕ) (s : SwitchSpan) →
    Complete fuel (bodies.switch_span s) s (switch_span fuel) (Next (l.Symbol (symbol_number OpenSquare))) Anything
switch_span_complete fuel s =
    less_complete (omega arith)
    (in_brackets_complete OpenSquare CloseSquare
    (λ x is. ends_at (symbol_number CloseSquare) x is (record { no_more = refl; no_infix = λ op e. absurd cc }))
    (after_complete {b = λ from. record { from = from; to = s.to }} (whole_complete fuel s.from)
    (λ x is. ends_at (symbol_number sign.Range) x is (record { no_more = refl; no_infix = λ op e. absurd cc })) (λ from.
    after_complete {b = λ _. record { from = from; to = s.to }} (symbol_complete sign.Range) (λ x f. tt) (λ _.
    last_complete (λ to. record { from = from; to = to }) (whole_complete fuel s.to)))))

-- ---- calls

pub call_complete : (fuel : ℕ) (to : List Kinded) (by : Option Text) (what : Callee) (actuals : List Actual) (fs : List Flow) →
    Complete fuel (bodies.arguments actuals ⨾ bodies.annotated fs ⨾ symbol_is Semicolon) (stmts.Call to by what actuals fs) (call fuel to by what)
    (Next (l.Symbol (symbol_number Open))) Anything
call_complete fuel to by what actuals fs =
    after_complete {b = λ as_. stmts.Call to by what as_ fs} (arguments_complete fuel actuals) (λ x f. tt) (λ as_.
    after_complete {b = λ fs. stmts.Call to by what as_ fs} (annotations_complete fuel fs) no_flow (λ fs.
    last_complete (λ _. stmts.Call to by what as_ fs) (symbol_complete Semicolon)))
  where
    no_flow : (x : Option Lexeme) → x ≡ Some (l.Symbol (symbol_number Semicolon)) → NoFlow x
    no_flow x is = rw is (refl, (refl, refl))

abbrev NotForeign : Option Lexeme → Type 0
NotForeign = Not (is_word Foreign)

convention_complete : {fuel : ℕ} (by : Option Text) →
    Complete fuel (optional_is (λ t. keyword_is Foreign ⨾ grammar.text t) by) by convention
    (λ x. (x ≡ Some (l.Word (keyword_number Foreign))) ⊎ NotForeign x) NotForeign
convention_complete (Some t) =
    follow_complete (λ x f. inl f) (λ x f. tt)
    (holds_complete {fails = give None} (is_word Foreign) (λ x is. rw is refl)
    (after_complete {b = λ _. Some t} (skip_complete (is_word Foreign) (only_keyword Foreign)) (λ x f. tt)
    (λ _. last_complete (λ t. Some t) (text_complete t))))
convention_complete None =
    follow_complete (λ x f. inr f) (λ x f. f) (fails_complete (is_word Foreign) (λ x f. f) (give_complete None))

-- no callee begins with this word
not_foreign : (x : Option Lexeme) → Passes begins_callee x → NotForeign x
not_foreign = other_word begins_callee Foreign refl

-- after the results, or without them
pub call_after_complete : (fuel : ℕ) (to : List Kinded) (by : Option Text) (what : Callee) (actuals : List Actual) (fs : List Flow) →
    Complete fuel
    (optional_is (λ t. keyword_is Foreign ⨾ grammar.text t) by ⨾ bodies.callee what ⨾ bodies.arguments actuals ⨾ bodies.annotated fs ⨾ symbol_is Semicolon)
    (stmts.Call to by what actuals fs) (call_after fuel to) (λ x. (x ≡ Some (l.Word (keyword_number Foreign))) ⊎ NotForeign x) Anything
call_after_complete fuel to by what actuals fs =
    after_complete {b = λ by. stmts.Call to by what actuals fs} (convention_complete by) not_foreign (λ by.
    after_complete {b = λ what. stmts.Call to by what actuals fs} (callee_complete fuel what) (λ x is. rw is refl) (λ what.
    call_complete fuel to by what actuals fs))
