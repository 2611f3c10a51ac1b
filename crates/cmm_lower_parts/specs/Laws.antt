-- What fits a program: the lengths in one that is in range, and what breaks no rule.
use Rattle.std.specs.Prelude.{◌≡◌, ℕ, ◌<◌, ◌^◌, Bool, List, [], flat_map}
use Rattle.std.specs.List.{All}
use Rattle.cmm_ast.specs.declared.expression.Expr.{Expr}
use Rattle.cmm_ast.specs.declared.statement.Actual.{Actual}
use Rattle.cmm_ast.specs.declared.statement.Callee.{Callee}
use Rattle.cmm_ast.specs.declared.statement.Lvalue.{Lvalue}
use Rattle.cmm_ast.specs.declared.statement.StmtForm.{StmtForm}
use Rattle.cmm_program.specs.declared.program.Program.{Program}
use Rattle.cmm_program.specs.InRange.{IsInRange}
use Rattle.cmm_static_semantics.specs.Senses.{Senses}
use Rattle.cmm_static_semantics.specs.Expressions.{inner_spots}
use Rattle.cmm_static_semantics.specs.Scopes.{Scope}
use Rattle.cmm_static_semantics.specs.Calls.{actuals_spots, callee_spots}
use Rattle.cmm_static_semantics.specs.Statements.{lvalue_spots, sides, stmt_spots}
use Rattle.cmm_typing.specs.Resolved.{AlignmentsFit}
use Rattle.cmm_lower_parts.specs.Fitting.{ActualsFit, CalleeFits, PlaceFits}
use Rattle.cmm_lower_parts.specs.Owned.{FormTakesVariables}

-- data and stackdata of a program in range
pub record LengthsFit (p : Program) : Type 0 where
  pub datums : All (λ d. d.length < 2 ^ 32) p.datums
  pub stackdata : All (λ q. All (λ i. i.length < 2 ^ 32) q.stack) p.procs

abbrev pub ProgramsFit : Type 0
ProgramsFit = (p : Program) → IsInRange p → LengthsFit p

-- parts in which nothing is broken have small alignments
pub record AlignmentsAreSmall : Type 0 where
  pub expression : (names : Senses) (e : Expr) → inner_spots names e ≡ [] → AlignmentsFit e
  pub callee : (s : Scope) (may_yield : Bool) (c : Callee) → callee_spots s may_yield c ≡ [] → CalleeFits c.form
  pub actuals : (s : Scope) (as_ : List Actual) → actuals_spots s as_ ≡ [] → ActualsFit as_
  pub places : (s : Scope) (ls : List Lvalue) → flat_map (lvalue_spots s) ls ≡ [] → All PlaceFits ls
  pub right_sides : (s : Scope) (ls : List Lvalue) (es : List Expr) → sides s ls es ≡ [] → All AlignmentsFit es

-- the parameters of a continuation that breaks no rule
abbrev pub ParametersAreVariables : Type 0
ParametersAreVariables = (s : Scope) (token : ℕ) (form : StmtForm) → stmt_spots s token form ≡ [] → FormTakesVariables s form
