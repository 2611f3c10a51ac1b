-- The sides of an assignment, one value after the other.
use Rattle.std.proofs.Common.{◌≡◌, ◌≤◌, ◌-◌, List, [], ◌∷◌, ◌++◌, length, take, drop, get_or, refl, ap, sym, ◌∙◌, Option, arith}
use Rattle.std.proofs.lemmas.List.{take_rest}
use Rattle.cmm_ast.specs.declared.expression.Expr.{Expr}
use Rattle.cmm_ast.specs.declared.statement.Lvalue.{Lvalue}
use Rattle.cmm_static_semantics.specs.declared.spot.Spot.{Spot}
use Rattle.cmm_static_semantics.specs.Scopes.{Scope}
use Rattle.cmm_static_semantics.specs.Spots.{first_of}
use Rattle.cmm_static_semantics.specs.Statements.{sides}
use Rattle.cmm_static_semantics.proofs.Shared.{first_of_append}
use Rattle.cmm_check_procedure.specs.inside.Sides.{past_first, side_spots}

sides_law : (s : Scope) (places : List Lvalue) (e : Expr) (es : List Expr) → sides s places (e ∷ es) ≡ side_spots s places e ++ sides s (past_first places) es
sides_law s (l ∷ ls) e es = refl
sides_law s [] e es = refl

sides_next : (s : Scope) (best : Option Spot) (places : List Lvalue) (e : Expr) (es : List Expr) →
    first_of (first_of best (side_spots s places e)) (sides s (past_first places) es) ≡ first_of best (sides s places (e ∷ es))
sides_next s best places e es =
    sym (ap (first_of best) (sides_law s places e es) ∙ first_of_append best (side_spots s places e) (sides s (past_first places) es))

-- a turn of the loop over the values: the first fault of what is left is that of all
pub sides_step : (s : Scope) (best noted whole : Option Spot) (places rest : List Lvalue) (left more : List Expr) (e : Expr) → 1 ≤ length left → e ≡ get_or left 0 e →
    more ≡ take (length left - 1) (drop 1 left) → noted ≡ first_of best (side_spots s places e) → rest ≡ past_first places →
    first_of best (sides s places left) ≡ whole → first_of noted (sides s rest more) ≡ whole
sides_step s best noted whole places rest [] more e within at after note past is = absurd (omega arith)
sides_step s best noted whole places rest (x ∷ xs) more e within at after note past is =
    ap (λ b. first_of b (sides s rest more)) note
    ∙ ap (λ q. first_of (first_of best (side_spots s places e)) (sides s q more)) past
    ∙ ap (λ q. first_of (first_of best (side_spots s places e)) (sides s (past_first places) q)) (after ∙ take_rest (x ∷ xs) 1)
    ∙ sides_next s best places e xs
    ∙ ap (λ q. first_of best (sides s places (q ∷ xs))) at
    ∙ is
