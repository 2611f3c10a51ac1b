-- How what stands before an `=` is read, and the statements that it begins. Names alone may be assigned to or be results of a
-- call, so the first kind, the first word in memory or else what follows the `=` decides.
pub use Rattle.cmm_grammar.specs.declared.told_apart.Targets.{Targets}
pub use Rattle.cmm_grammar.specs.declared.told_apart.Targets.TheVariants.{Names, Lvalues, Results}
use Rattle.std.specs.Prelude.{ℕ, zero, suc, Bool, List, [], ◌∷◌, ◌++◌, map, Option, Some, None, is_some}
use Rattle.cmm_lexer.specs.declared.piece.Lexeme.{Lexeme}
use Rattle.cmm_ast.specs.declared.token.Ident.{Ident}
use Rattle.cmm_lexer.specs.declared.keyword.Keyword.TheVariants.{Foreign}
use Rattle.cmm_lexer.specs.declared.symbol.Symbol.TheVariants.{Open, Comma, Semicolon}
use Rattle.cmm_lexer.specs.declared.symbol.Symbol.TheVariants as sign
use Rattle.cmm_ast.specs.declared.expression.Expr.{Expr}
use Rattle.cmm_ast.specs.declared.expression.ExprForm.{ExprForm, more_of-Expr}
use Rattle.cmm_ast.specs.declared.expression.ExprForm.TheVariants.{Prim, Memory as InMemory}
use Rattle.cmm_ast.specs.declared.expression.PrimForm.{PrimForm}
use Rattle.cmm_ast.specs.declared.expression.PrimForm.TheVariants.{Name as NameOf, Bracketed'}
use Rattle.cmm_ast.specs.declared.statement.CalleeForm.{CalleeForm}
use Rattle.cmm_ast.specs.declared.statement.CalleeForm.TheVariants as callees
use Rattle.cmm_ast.specs.declared.statement.Kinded.{Kinded}
use Rattle.cmm_ast.specs.declared.statement.Lvalue.{Lvalue}
use Rattle.cmm_ast.specs.declared.statement.Lvalue.TheVariants as lvalues
use Rattle.cmm_ast.specs.declared.statement.StmtForm.{StmtForm}
use Rattle.cmm_ast.specs.declared.statement.StmtForm.TheVariants as stmts
use Rattle.cmm_grammar.specs.Taking.{is_word, is_sign}
use Rattle.cmm_grammar.specs.Reading.{Reads, ◌>>=◌, give, stop, if_next, here, skip, symbol, checked_in, pick, round, is_comma, listed, more_listed}
use Rattle.cmm_grammar.specs.ExpressionReading.{begins_expression, whole}
use Rattle.cmm_grammar.specs.PartReading.{is_any_text, kinded, lvalue, annotations}
use Rattle.cmm_grammar.specs.CallReading.{call, call_after}

-- the names as what is assigned to, and as results of a call
abbrev pub lvalues_of : List Ident → List Lvalue
lvalues_of names = map lvalues.Name names

abbrev pub results_of : List Ident → List Kinded
results_of names = map (λ name. record { kind = None; name = name }) names

-- ---- the targets

abbrev pub with_lvalue : List Ident → Lvalue → Targets
with_lvalue names (lvalues.Name name) = Names (names ++ (name ∷ []))
with_lvalue names (lvalues.Memory m) = Lvalues (lvalues_of names ++ (lvalues.Memory m ∷ []))

abbrev pub next_target : ℕ → Targets → Reads Targets
next_target fuel (Names names) =
    if_next is_any_text (kinded >>= λ k. give (Results (results_of names ++ (k ∷ [])))) (lvalue fuel >>= λ to. give (with_lvalue names to))
next_target fuel (Lvalues to) = lvalue fuel >>= λ one. give (Lvalues (to ++ (one ∷ [])))
next_target fuel (Results results) = kinded >>= λ k. give (Results (results ++ (k ∷ [])))

abbrev pub more_targets : ℕ → ℕ → Targets → Reads Targets
more_targets zero fuel targets = stop
more_targets (suc turns) fuel targets = if_next is_comma (skip >>= λ _. next_target fuel targets >>= λ more. more_targets turns fuel more) (give targets)

-- ---- what follows the `=`

-- the callee that an expression before an opening bracket is
abbrev pub callee_of_prim : ℕ → PrimForm → Option CalleeForm
callee_of_prim token (NameOf bytes) = Some (callees.Name record { name = bytes; token = token })
callee_of_prim token (Bracketed' _ (more_of-Expr first form rest)) = Some (callees.Bracketed (record { token = first; form = form }))
callee_of_prim token _ = None

abbrev pub callee_of_form : ℕ → ExprForm → Option CalleeForm
callee_of_form token (Prim prim) = callee_of_prim token prim
callee_of_form token (InMemory m) = Some (callees.Memory m)
callee_of_form token _ = None

abbrev pub called : ℕ → List Ident → ℕ → Option CalleeForm → Reads StmtForm
called fuel names token (Some form) = call fuel (results_of names) None (record { token = token; form = form })
called fuel names token None = stop

abbrev pub assign : ℕ → List Lvalue → Reads (List Expr) → Reads StmtForm
assign fuel to values = values >>= λ values. symbol Semicolon >>= λ _. give (stmts.Assign to values)

-- values, or a call without a convention
abbrev pub values : ℕ → List Ident → Reads StmtForm
values fuel names =
    whole fuel >>= λ value.
    if_next (is_sign Open) (called fuel names value.token (callee_of_form value.token value.form))
    (assign fuel (lvalues_of names) (more_listed fuel begins_expression (whole fuel) (value ∷ [])))

abbrev pub is_checked_operator : Lexeme → Bool
is_checked_operator x = is_some (checked_in x)

abbrev pub checked_operator : Reads Ident
checked_operator = here >>= λ token. pick checked_in >>= λ bytes. give record { name = bytes; token = token }

abbrev pub two_values : ℕ → Reads (Expr × Expr)
two_values fuel = whole fuel >>= λ left. symbol Comma >>= λ _. whole fuel >>= λ right. give (left, right)

abbrev pub checked : ℕ → List Ident → Reads StmtForm
checked fuel (name ∷ []) =
    checked_operator >>= λ op. round (two_values fuel) >>= λ operands. annotations fuel >>= λ fs. symbol Semicolon >>= λ _.
    give (stmts.Checked name op operands.0 operands.1 fs)
checked fuel _ = stop

abbrev pub after_names : ℕ → List Ident → Reads StmtForm
after_names fuel names =
    if_next (is_word Foreign) (call_after fuel (results_of names))
    (if_next is_checked_operator (checked fuel names) (values fuel names))

abbrev pub assigned : ℕ → Targets → Reads StmtForm
assigned fuel (Names names) = after_names fuel names
assigned fuel (Lvalues to) = assign fuel to (listed fuel begins_expression (whole fuel))
assigned fuel (Results results) = call_after fuel results

-- the rest of an assignment or of a call with results, after the first target
abbrev pub assignment : ℕ → Targets → Reads StmtForm
assignment fuel first = more_targets fuel fuel first >>= λ targets. symbol sign.Assign >>= λ _. assigned fuel targets
