-- The faults of a statement, those of the arms of a switch apart.
use Rattle.std.proofs.Common.{◌≡◌, ℕ, List, ◌++◌, map, refl, sym, ap, ◌∙◌, Option, append-nil}
use denote.Hole.Carrier as Carrier
use Rattle.cmm_ast.specs.declared.expression.Expr.{Expr}
use Rattle.cmm_ast.specs.declared.statement.Arm.{Arm}
use Rattle.cmm_ast.specs.declared.statement.Otherwise.TheBlock as OtherwiseForms
use Rattle.cmm_ast.specs.declared.statement.Span.{Span}
use Rattle.cmm_ast.specs.declared.statement.StmtForm.{StmtForm}
use Rattle.cmm_ast.specs.declared.statement.StmtForm.TheVariants as stmts
use Rattle.cmm_static_semantics.specs.declared.spot.Spot.{Spot}
use Rattle.cmm_static_semantics.specs.Scopes.{Scope, senses}
use Rattle.cmm_static_semantics.specs.Spots.{first_of}
use Rattle.cmm_static_semantics.specs.Statements.{stmt_spots}
use Rattle.cmm_static_semantics.specs.Switches.{switch_spots}
use Rattle.cmm_static_semantics.proofs.Shared.{first_of_append}
use Rattle.cmm_check_procedure.specs.Heads.{arm_head}
use Rattle.cmm_check_procedure.proofs.Heads.{heads_are}
use Rattle.cmm_check_procedure.specs.inside.Parted.{value_width, form_spots, arms_spots}

parted : (s : Scope) (token : ℕ) (form : StmtForm) → stmt_spots s token form ≡ form_spots s token form ++ arms_spots s form
parted s token (stmts.Switch' range value x arms) = refl
parted s token form = sym (append-nil (stmt_spots s token form))

-- first all else, then the arms
pub both_parts : (s : Scope) (token : ℕ) (form : StmtForm) (before between after : Option Spot) →
    between ≡ first_of before (form_spots s token form) → after ≡ first_of between (arms_spots s form) → after ≡ first_of before (stmt_spots s token form)
both_parts s token form before between after e f =
    f ∙ ap (λ b. first_of b (arms_spots s form)) e ∙ sym (first_of_append before (form_spots s token form) (arms_spots s form))
    ∙ ap (first_of before) (sym (parted s token form))

arms_are : (s : Scope) (range : Option Span) (value : Expr) (arms : List Arm) →
    arms_spots s (stmts.Switch range value arms) ≡ switch_spots (senses s) (value_width s value) range (map arm_head arms)
unfolding OtherwiseForms.hidden-the_row-Part-0 OtherwiseForms.hidden-the_row-Arm-2 Carrier.hidden Carrier.roll
arms_are s range value arms = ap (switch_spots (senses s) (value_width s value) range) (heads_are arms)

-- the arms of a statement that is a switch
pub arms_law : (s : Scope) (form : StmtForm) (range : Option Span) (value : Expr) (arms : List Arm) → form ≡ stmts.Switch range value arms →
    arms_spots s form ≡ switch_spots (senses s) (value_width s value) range (map arm_head arms)
arms_law s form range value arms is = ap (arms_spots s) is ∙ arms_are s range value arms
