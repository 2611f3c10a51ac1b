-- Formals, and how many values a piece of stackdata is of.
use Rattle.std.specs.Prelude.{List, [], ◌++◌, flat_map, Option, Some, None}
use Rattle.cmm_ast.specs.declared.expression.Expr.{Expr}
use Rattle.cmm_ast.specs.declared.procedure.Formal.{Formal}
use Rattle.cmm_rules.specs.declared.rule.Rule.TheVariants.{TooManyValues}
use Rattle.cmm_static_semantics.specs.declared.spot.Spot.{Spot}
use Rattle.cmm_static_semantics.specs.Expressions.{number_spots, type_spots, past_limit}
use Rattle.cmm_static_semantics.specs.Scopes.{Scope, senses, types}
use Rattle.cmm_static_semantics.specs.Statements.{formal_token}

-- how many values a piece of stackdata is of, where that is said: a constant
abbrev pub count_spots : Scope → Option Expr → List Spot
count_spots s (Some e) = number_spots (senses s) e
count_spots s None = []

-- 33: no more than 64
abbrev pub too_many_formals : List Formal → List Spot
too_many_formals formals = past_limit TooManyValues 64 formal_token formals

-- the type of a formal
abbrev pub formal_spots : Scope → Formal → List Spot
formal_spots s f = type_spots (types s) f.width

-- formals, their number first
abbrev pub formals_spots : Scope → List Formal → List Spot
formals_spots s formals = too_many_formals formals ++ flat_map (formal_spots s) formals
