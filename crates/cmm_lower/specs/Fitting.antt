-- Which parts of a body fit a program, whose numbers have 32 bits: those of a procedure that breaks no rule do.
use Rattle.std.specs.Prelude.{◌≡◌, ℕ, ◌+◌, ◌<◌, ◌^◌, IsTrue, List, length, Option, Some, None}
use Rattle.std.specs.List.{All}
use Rattle.cmm_ast.specs.declared.token.Ident.{Ident}
use Rattle.cmm_ast.specs.declared.procedure.Proc.{Proc}
use Rattle.cmm_ast.specs.declared.statement.Exit.{Exit}
use Rattle.cmm_ast.specs.declared.statement.Flow.{Flow}
use Rattle.cmm_ast.specs.declared.statement.Part.{Part}
use Rattle.cmm_ast.specs.declared.statement.Part.TheVariants as parts
use Rattle.cmm_ast.specs.declared.statement.StmtForm.{StmtForm}
use Rattle.cmm_ast.specs.declared.statement.StmtForm.TheVariants as stmts
use Rattle.cmm_ast.specs.declared.unit.Item.{Item}
use Rattle.cmm_ast.specs.declared.unit.Item.TheVariants as items
use Rattle.cmm_static_semantics.specs.Calls.{flow_names}
use Rattle.cmm_static_semantics.specs.Declarations.{is_continuation, is_declared, is_label}
use Rattle.cmm_static_semantics.specs.Items.{parts_of}
use Rattle.cmm_static_semantics.specs.Limits.{number_or_zero, site_count}
use Rattle.cmm_static_semantics.specs.Scopes.{Scope, senses}
use Rattle.cmm_static_semantics.specs.Senses.{Senses}
use Rattle.cmm_static_semantics.specs.Statements.{passed, scope_of}
use Rattle.cmm_static_semantics.specs.Typing.{of_primary}
use Rattle.cmm_elaboration.specs.Procedures.{stack_items}
use Rattle.cmm_lower_parts.specs.Fitting.{ActualsFit, CalleeFits, PlaceFits}
use Rattle.cmm_lower_parts.specs.Owned.{TakesVariables, rooms_in}
use Rattle.cmm_typing.specs.Resolved.{AlignmentsFit}

-- ---- names

abbrev pub IsLabel : Scope → Ident → Type 0
IsLabel s i = IsTrue (is_declared is_label i.name s.own)

abbrev pub IsContinuation : Scope → Ident → Type 0
IsContinuation s i = IsTrue (is_declared is_continuation i.name s.own)

-- annotations name continuations of the procedure alone
abbrev pub FlowsFit : Scope → List Flow → Type 0
FlowsFit s fs = All (λ f. All (IsContinuation s) (flow_names f)) fs

-- ---- statements, what stands in the blocks inside them left out

abbrev pub ExitFits : Scope → Option Exit → Type 0
ExitFits s None = Unit {0}
ExitFits s (Some x) = (number_or_zero (senses s) (of_primary x.index) < 2 ^ 32) × (number_or_zero (senses s) (of_primary x.count) < 2 ^ 32)

abbrev pub FormFits : Scope → StmtForm → Type 0
FormFits s (stmts.If' condition _ body otherwise) = AlignmentsFit condition
FormFits s (stmts.Switch' range value _ arms) = AlignmentsFit value
FormFits s (stmts.Span' key value _ body) = Unit {0}
FormFits s (stmts.Assign to values) = All PlaceFits to × All AlignmentsFit values
FormFits s (stmts.Checked result operator left right flows) = AlignmentsFit left × AlignmentsFit right × FlowsFit s flows
FormFits s (stmts.Call results None callee actuals flows) = CalleeFits callee.form × ActualsFit actuals × (length actuals < 2 ^ 8) × FlowsFit s flows
FormFits s (stmts.Call results (Some convention) callee actuals flows) = ActualsFit actuals
FormFits s (stmts.Jump callee actuals) = CalleeFits callee.form × ActualsFit actuals
FormFits s (stmts.Return exit values) = ExitFits s exit × ActualsFit (passed values)
FormFits s (stmts.Label name) = IsLabel s name
FormFits s (stmts.Continuation name parameters) = IsContinuation s name
FormFits s (stmts.Goto name) = IsLabel s name
FormFits s (stmts.Cut callee actuals flows) = CalleeFits callee.form × ActualsFit actuals × FlowsFit s flows
FormFits s stmts.Empty = Unit {0}

abbrev pub PartFits : Scope → Part → Type 0
PartFits s (parts.Local l) = Unit {0}
PartFits s (parts.Stmt' first past form) = FormFits s form

-- parts, before which n call sites stand
pub record PartsFit (s : Scope) (n : ℕ) (ps : List Part) : Type 0 where
  pub each : All (PartFits s) ps
  pub sites : n + site_count ps < 2 ^ 32

-- ---- a procedure, among the names of its unit

pub record ProcFits (outer : Senses) (p : Proc) : Type 0 where
  pub formals : length p.formals < 2 ^ 32
  pub body : PartsFit (scope_of outer p) 0 (parts_of p.body)
  pub parameters : All (TakesVariables (scope_of outer p)) (parts_of p.body)
  pub stackdata : All (λ i. i.length < 2 ^ 32) (stack_items (scope_of outer p) (rooms_in p))

-- of what stands in a unit, procedures alone may not fit
abbrev pub ItemFits : Senses → Item → Type 0
ItemFits outer (items.Proc p) = ProcFits outer p
ItemFits outer _ = Unit {0}
