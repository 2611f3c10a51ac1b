-- The arms of a switch, by what stands before their blocks.
use Rattle.std.proofs.Common.{◌≡◌, refl, ap, ◌∙◌, List, ◌∷◌, ◌++◌, ℕ, map, Option, None}
use Rattle.std.specs.Prelude.{option_map}
use denote.Hole.Carrier as Carrier
use Rattle.cmm_ast.specs.declared.expression.Expr.{Expr}
use Rattle.cmm_ast.specs.declared.statement.Arm.{Arm}
use Rattle.cmm_ast.specs.declared.statement.Otherwise.TheBlock as OtherwiseForms
use Rattle.cmm_ast.specs.declared.statement.Span.{Span}
use Rattle.cmm_ast.specs.declared.statement.StmtForm.{StmtForm, Row_of-Arm, end_of-Arm, more_of-Arm, items-the_row-Arm, items_hidden-the_row-Arm-2}
use Rattle.cmm_ast.specs.declared.statement.StmtForm.TheVariants as stmts
use Rattle.cmm_static_semantics.specs.Algebras.{knowns}
use Rattle.cmm_static_semantics.specs.Expressions.{bits_spots}
use Rattle.cmm_static_semantics.specs.Judging.{if_ok}
use Rattle.cmm_static_semantics.specs.Scopes.{Scope, senses}
use Rattle.cmm_static_semantics.specs.Statements.{stmt_spots}
use Rattle.cmm_static_semantics.specs.Switches.{heads, switch_spots}
use Rattle.cmm_static_semantics.specs.Typing.{wanted}
use Rattle.cmm_check_procedure.specs.Heads.{arm_head}

rows : (n : _) (row : Row_of-Arm n) → heads row ≡ map arm_head (items-the_row-Arm n row)
unfolding OtherwiseForms.hidden-the_row-Part-0 OtherwiseForms.hidden-the_row-Arm-2 Carrier.hidden Carrier.roll
rows n end_of-Arm = refl
rows n (more_of-Arm {n = m} token case_ x body rest) = ap (λ t. record { token = token; case_ = case_ } ∷ t) (rows m rest)

pub heads_are : (as_ : List Arm) → heads (OtherwiseForms.hidden-the_row-Arm-2 as_) ≡ map arm_head as_
heads_are as_ = rows _ (OtherwiseForms.hidden-the_row-Arm-2 as_) ∙ ap (map arm_head) (items_hidden-the_row-Arm-2 as_)

switch_is : (s : Scope) (token : ℕ) (over : Option Span) (v : Expr) (as_ : List Arm) →
    stmt_spots s token (stmts.Switch over v as_) ≡
    bits_spots (senses s) None v ++ switch_spots (senses s) (option_map (λ x. x.width) (if_ok (wanted knowns (senses s) None v))) over (map arm_head as_)
unfolding OtherwiseForms.hidden-the_row-Part-0 OtherwiseForms.hidden-the_row-Arm-2 Carrier.hidden Carrier.roll
switch_is s token over v as_ = ap (λ hs. bits_spots (senses s) None v ++ switch_spots (senses s) (option_map (λ x. x.width) (if_ok (wanted knowns (senses s) None v))) over hs)
    (heads_are as_)

-- the faults of a switch
pub switch_law : (s : Scope) (token : ℕ) (f : StmtForm) (over : Option Span) (v : Expr) (as_ : List Arm) → f ≡ stmts.Switch over v as_ →
    stmt_spots s token f ≡ bits_spots (senses s) None v ++ switch_spots (senses s) (option_map (λ x. x.width) (if_ok (wanted knowns (senses s) None v))) over (map arm_head as_)
switch_law s token f over v as_ is = ap (stmt_spots s token) is ∙ switch_is s token over v as_
