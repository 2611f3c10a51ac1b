-- The sides of an assignment, one value after the other.
use Rattle.std.specs.Prelude.{◌==◌, ℕ, List, [], ◌∷◌, ◌++◌, flat_map, length, None}
use Rattle.cmm_ast.specs.declared.expression.Expr.{Expr}
use Rattle.cmm_ast.specs.declared.statement.Lvalue.{Lvalue}
use Rattle.cmm_rules.specs.declared.rule.Rule.TheVariants.{CountsDiffer}
use Rattle.cmm_static_semantics.specs.declared.spot.Spot.{Spot}
use Rattle.cmm_static_semantics.specs.Expressions.{bits_spots}
use Rattle.cmm_static_semantics.specs.Scopes.{Scope, senses}
use Rattle.cmm_static_semantics.specs.Spots.{unless}
use Rattle.cmm_static_semantics.specs.Statements.{lvalue_spots, lvalue_width, sides}

-- a value, which is of the width of the first place
abbrev pub side_spots : Scope → List Lvalue → Expr → List Spot
side_spots s (l ∷ ls) e = bits_spots (senses s) (lvalue_width s l) e
side_spots s [] e = bits_spots (senses s) None e

-- the places that are left for the next value
abbrev pub past_first : List Lvalue → List Lvalue
past_first (l ∷ ls) = ls
past_first [] = []

-- 28: as many places as values; and what both break
abbrev pub assignment_spots : Scope → ℕ → List Lvalue → List Expr → List Spot
assignment_spots s token to values = unless (length to == length values) CountsDiffer token ++ flat_map (lvalue_spots s) to ++ sides s to values
