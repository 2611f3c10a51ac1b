-- Each statement that begins with a name or a word in memory is read after it.
use Rattle.std.proofs.Common.{ℕ, refl, arith, List, [], None, Option, ◌∷◌}
use Rattle.cmm_lexer.specs.declared.piece.Lexeme.TheVariants as l
use Rattle.cmm_lexer.specs.declared.piece.Lexeme.{Lexeme}
use Rattle.cmm_ast.specs.declared.token.Ident.{Ident}
use Rattle.cmm_ast.specs.declared.token.Int.{Int}
use Rattle.cmm_ast.specs.declared.token.Text.{Text}
use Rattle.cmm_lexer.specs.declared.symbol.Symbol.TheVariants as sign
use Rattle.cmm_ast.specs.declared.expression.Expr.{Expr}
use Rattle.cmm_ast.specs.declared.expression.Memory.{Memory, roll-Memory}
use Rattle.cmm_ast.specs.declared.expression.TypeName.{TypeName}
use Rattle.cmm_ast.specs.declared.statement.Actual.{Actual}
use Rattle.cmm_ast.specs.declared.statement.Callee.{Callee}
use Rattle.cmm_ast.specs.declared.statement.CalleeForm.TheVariants as callees
use Rattle.cmm_ast.specs.declared.statement.Flow.{Flow}
use Rattle.cmm_ast.specs.declared.statement.Kinded.{Kinded}
use Rattle.cmm_ast.specs.declared.statement.Lvalue.TheVariants as lvalues
use Rattle.cmm_ast.specs.declared.statement.Lvalue.{Lvalue}
use Rattle.cmm_ast.specs.declared.statement.StmtForm.TheVariants as stmts
use Rattle.cmm_ast.specs.declared.statement.StmtForm.{StmtForm}
use Rattle.cmm_lexer.specs.Spellings.{symbol_number}
use Rattle.cmm_grammar.specs.Taking.{Takes, is_sign, optional as optional_is, outermost as outermost_is, square as square_is, symbol as symbol_is, ◌⨾◌}
use Rattle.cmm_grammar.specs.ExpressionGrammar.{aligned_by}
use Rattle.cmm_grammar.specs.Reading.{◌>>=◌}
use Rattle.cmm_grammar.specs.inside.Duties.{Complete}
use Rattle.cmm_grammar.specs.ExpressionReading.{named_type, whole_memory}
use Rattle.cmm_grammar.specs.StatementReading.{memory_stmt, memory_token, name_stmt}
use Rattle.cmm_grammar.specs.TargetReading.{Lvalues, Names, assignment}
use Rattle.cmm_grammar.proofs.ExpressionForms.{operand_is}
use Rattle.cmm_grammar.proofs.Completes.{Anything, Next, fails_complete, holds_complete, last_complete, less_complete, outermost_complete, skip_complete, then_complete}
use Rattle.cmm_grammar.proofs.Tokens.{only_symbol}
use Rattle.cmm_grammar.proofs.CompleteRepeats.{either_not}
use Rattle.cmm_grammar.proofs.CompleteExpressions.{memory_complete, spine}
use Rattle.cmm_grammar.proofs.CompleteCalls.{call_complete}
use Rattle.cmm_grammar.proofs.CompleteTargets.{AfterTarget, assignment_call, assignment_checked, assignment_values, CallRest, CheckedRest, ResultsRest, ValuesRest}

-- the arguments of a call begin
abbrev pub AtOpen : Option Lexeme → Type 0
AtOpen = Next (l.Symbol (symbol_number sign.Open))

-- a target goes on with none of these
-- ---- after a word in memory

pub memory_call : (fuel : ℕ) (m : Memory) (actuals : List Actual) (fs : List Flow) →
    Complete fuel (CallRest actuals fs) (stmts.Call [] None (record { token = memory_token m; form = callees.Memory m }) actuals fs) (memory_stmt fuel m) AtOpen
    Anything
memory_call fuel m actuals fs =
    holds_complete (is_sign sign.Open) (λ x e. rw e refl)
    (call_complete fuel [] None (record { token = memory_token m; form = callees.Memory m }) actuals fs)

pub memory_values : (fuel : ℕ) (m : Memory) (to : List Lvalue) (vs : List Expr) →
    Complete fuel (ValuesRest to vs) (stmts.Assign (lvalues.Memory m ∷ to) vs) (memory_stmt fuel m) AfterTarget Anything
memory_values fuel m to vs =
    fails_complete (is_sign sign.Open) (either_not _ refl refl) (assignment_values fuel (Lvalues (lvalues.Memory m ∷ [])) tt to vs)

-- ---- after a name

pub name_label : (fuel : ℕ) (name : Ident) →
    Complete fuel (symbol_is sign.Colon) (stmts.Label name) (name_stmt fuel name) (Next (l.Symbol (symbol_number sign.Colon))) Anything
name_label fuel name =
    holds_complete (is_sign sign.Colon) (λ x e. rw e refl)
    (last_complete (λ _. stmts.Label name) (skip_complete (is_sign sign.Colon) (only_symbol sign.Colon)))

pub name_call : (fuel : ℕ) (name : Ident) (actuals : List Actual) (fs : List Flow) →
    Complete fuel (CallRest actuals fs) (stmts.Call [] None (record { token = name.token; form = callees.Name name }) actuals fs) (name_stmt fuel name) AtOpen
    Anything
name_call fuel name actuals fs =
    fails_complete (is_sign sign.Colon) (λ x e. rw e refl)
    (fails_complete (is_sign sign.OpenSquare) (λ x e. rw e refl)
    (holds_complete (is_sign sign.Open) (λ x e. rw e refl)
    (call_complete fuel [] None (record { token = name.token; form = callees.Name name }) actuals fs)))

-- the name is a target
name_target : {fuel : ℕ} {p : Takes} {form : StmtForm} (name : Ident) → Complete fuel p form (assignment fuel (Names (name ∷ []))) AfterTarget Anything →
    Complete fuel p form (name_stmt fuel name) AfterTarget Anything
name_target name one =
    fails_complete (is_sign sign.Colon) (either_not _ refl refl)
    (fails_complete (is_sign sign.OpenSquare) (either_not _ refl refl) (fails_complete (is_sign sign.Open) (either_not _ refl refl) one))

pub name_values : (fuel : ℕ) (name : Ident) (to : List Lvalue) (vs : List Expr) →
    Complete fuel (ValuesRest to vs) (stmts.Assign (lvalues.Name name ∷ to) vs) (name_stmt fuel name) AfterTarget Anything
name_values fuel name to vs = name_target name (assignment_values fuel (Names (name ∷ [])) tt to vs)

pub name_results : (fuel : ℕ) (name : Ident) (ks : List Kinded) (by : Option Text) (what : Callee) (actuals : List Actual) (fs : List Flow) →
    Complete fuel (ResultsRest ks by what actuals fs) (stmts.Call (record { kind = None; name = name } ∷ ks) by what actuals fs) (name_stmt fuel name)
    AfterTarget Anything
name_results fuel name ks by what actuals fs = name_target name (assignment_call fuel (Names (name ∷ [])) tt ks by what actuals fs)

pub name_checked : (fuel : ℕ) (name op : Ident) (left right : Expr) (fs : List Flow) →
    Complete fuel (CheckedRest op left right fs) (stmts.Checked name op left right fs) (name_stmt fuel name) AfterTarget Anything
name_checked fuel name op left right fs = name_target name (assignment_checked fuel name op left right fs)

-- ---- a word in memory after its type

-- the address in its brackets
abbrev pub Located : Expr → Option Int → Takes
Located e bytes = outermost_is (square_is (operand_is 0 e ⨾ optional_is aligned_by bytes))

abbrev pub word_at : TypeName → Expr → Option Int → Memory
word_at width e bytes = roll-Memory (record { width = width; address = e; aligned = bytes })

-- by what follows the word
pub located_stmt : {fuel : ℕ} {p : Takes} {form : StmtForm} {first : Option Lexeme → Type 0} (width : TypeName) (e : Expr) (bytes : Option Int) →
    Complete fuel p form (memory_stmt fuel (word_at width e bytes)) first Anything →
    Complete fuel (Located e bytes ⨾ p) form (whole_memory fuel width >>= λ m. memory_stmt fuel m) (Next (l.Symbol (symbol_number sign.OpenSquare))) Anything
located_stmt {fuel = fuel} width e bytes one =
    then_complete (λ m. memory_stmt fuel m) (less_complete (omega arith) (outermost_complete (memory_complete fuel e (spine e.form) width bytes))) (λ x f. tt) one

pub name_located : {fuel : ℕ} {p : Takes} {form : StmtForm} {first : Option Lexeme → Type 0} (name : Ident) (e : Expr) (bytes : Option Int) →
    Complete fuel p form (memory_stmt fuel (word_at (named_type name) e bytes)) first Anything →
    Complete fuel (Located e bytes ⨾ p) form (name_stmt fuel name) (Next (l.Symbol (symbol_number sign.OpenSquare))) Anything
name_located name e bytes one =
    fails_complete (is_sign sign.Colon) (λ x is. rw is refl)
    (holds_complete (is_sign sign.OpenSquare) (λ x is. rw is refl) (located_stmt (named_type name) e bytes one))
