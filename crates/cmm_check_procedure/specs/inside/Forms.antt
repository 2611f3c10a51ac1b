-- What statements break, form by form.
use Rattle.std.specs.Prelude.{List, [], ◌++◌, true, false, Option, Some, None}
use Rattle.cmm_ast.specs.declared.token.Ident.{Ident}
use Rattle.cmm_ast.specs.declared.token.Text.{Text}
use Rattle.cmm_ast.specs.declared.expression.Expr.{Expr}
use Rattle.cmm_ast.specs.declared.expression.Primary.{Primary}
use Rattle.cmm_ast.specs.declared.statement.Actual.{Actual}
use Rattle.cmm_ast.specs.declared.statement.Callee.{Callee}
use Rattle.cmm_ast.specs.declared.statement.Exit.{Exit}
use Rattle.cmm_ast.specs.declared.statement.Flow.{Flow}
use Rattle.cmm_ast.specs.declared.statement.Kinded.{Kinded}
use Rattle.cmm_rules.specs.declared.rule.Rule.TheVariants.{UnknownOperator, BadHostCall}
use Rattle.cmm_static_semantics.specs.declared.spot.Spot.{Spot}
use Rattle.cmm_static_semantics.specs.Calls.{results_spots, actuals_spots, flows_spots, site_flows_spots, callee_spots, foreign_callee_spots, is_foreign}
use Rattle.cmm_static_semantics.specs.Expressions.{number_spots, constant_spots}
use Rattle.cmm_static_semantics.specs.Operators.{checked_named}
use Rattle.cmm_static_semantics.specs.Scopes.{Scope, senses}
use Rattle.cmm_static_semantics.specs.Spots.{at, unless}
use Rattle.cmm_static_semantics.specs.Statements.{passed, return_spots, checked_spots}
use Rattle.cmm_static_semantics.specs.Typing.{of_primary}

-- the key of a span is a compile-time constant, and its value a link-time constant
abbrev pub span_spots : Scope → Primary → Expr → List Spot
span_spots s key value = number_spots (senses s) (of_primary key) ++ constant_spots (senses s) value

-- a call of a procedure
abbrev pub own_spots : Scope → List Kinded → Callee → List Actual → List Flow → List Spot
own_spots s results callee actuals flows = results_spots s results ++ callee_spots s true callee ++ actuals_spots s actuals ++ site_flows_spots s flows

-- a call of the host: 38 where it is none
abbrev pub foreign_spots : Scope → Text → List Kinded → Callee → List Actual → List Flow → List Spot
foreign_spots s convention results callee actuals flows =
    results_spots s results ++ foreign_callee_spots s callee ++ actuals_spots s actuals ++ flows_spots s flows
    ++ unless (is_foreign s convention results callee actuals flows) BadHostCall callee.token

-- a call, of the host where a convention is said
abbrev pub call_spots : Scope → Option Text → List Kinded → Callee → List Actual → List Flow → List Spot
call_spots s None results callee actuals flows = own_spots s results callee actuals flows
call_spots s (Some convention) results callee actuals flows = foreign_spots s convention results callee actuals flows

-- a jump: its callee is no procedure of the host
abbrev pub jump_spots : Scope → Callee → List Actual → List Spot
jump_spots s callee actuals = callee_spots s false callee ++ actuals_spots s actuals

-- a cut, with its annotations
abbrev pub cut_spots : Scope → Callee → List Actual → List Flow → List Spot
cut_spots s callee actuals flows = callee_spots s false callee ++ actuals_spots s actuals ++ flows_spots s flows

-- what is returned, where it stands in brackets
abbrev pub passed_spots : Scope → Option (List Actual) → List Spot
passed_spots s values = actuals_spots s (passed values)

-- a return: its exit, and what is returned
abbrev pub returned_spots : Scope → Option Exit → Option (List Actual) → List Spot
returned_spots s exit values = return_spots s exit ++ passed_spots s values

-- a checked operator with its annotations
abbrev pub checked_site_spots : Scope → Ident → Ident → Expr → Expr → List Flow → List Spot
checked_site_spots s result operator left right flows = checked_spots s result operator left right ++ site_flows_spots s flows

-- 26: a checked operator is a division
abbrev pub unknown_spots : Ident → List Spot
unknown_spots operator = elim (checked_named operator.name) [ Some op ↦ [] | None ↦ at UnknownOperator operator.token ]
