-- The names in statements and items that hold others, by their parts.
use Rattle.std.proofs.Common.{◌≡◌, ℕ, List, ◌++◌, Option, refl, ap, ◌∙◌}
use Rattle.std.specs.Prelude.{flat_map}
use denote.Hole.Carrier as Carrier
use Rattle.cmm_ast.specs.declared.expression.Expr.{Expr}
use Rattle.cmm_ast.specs.declared.expression.Primary.{Primary}
use Rattle.cmm_ast.specs.declared.statement.Arm.{Arm}
use Rattle.cmm_ast.specs.declared.statement.Block.{Block}
use Rattle.cmm_ast.specs.declared.statement.Otherwise.{Otherwise}
use Rattle.cmm_ast.specs.declared.statement.Otherwise.TheBlock as OtherwiseForms
use Rattle.cmm_ast.specs.declared.statement.Span.{Span as SwitchSpan}
use Rattle.cmm_ast.specs.declared.statement.StmtForm.{StmtForm, Row_of-Arm, end_of-Arm, more_of-Arm, items-the_row-Arm, items_hidden-the_row-Arm-2}
use Rattle.cmm_ast.specs.declared.statement.StmtForm.TheVariants as stmts
use Rattle.cmm_ast.specs.declared.unit.Item.{Item}
use Rattle.cmm_ast.specs.declared.unit.Item.TheVariants as items
use Rattle.cmm_ast.specs.declared.unit.Item.TheBlock as Items
use Rattle.cmm_static_semantics.specs.Mentions.{all_names, primary_names, listed}
use Rattle.cmm_static_semantics.specs.Switches.{heads}
use Rattle.cmm_static_semantics.specs.LongNames.{of_expr, of_stmt, of_head, of_span, of_item}
use Rattle.cmm_symbols.specs.inside.Arms.{of_case}

pub if_law : (f : StmtForm) (c : Expr) (b : Block) (o : Otherwise) → f ≡ stmts.If c b o → of_stmt f ≡ of_expr c
unfolding OtherwiseForms.hidden-the_row-Part-0 Carrier.hidden Carrier.roll
if_law f c b o is = ap of_stmt is

pub span_law : (f : StmtForm) (key : Primary) (v : Expr) (b : Block) → f ≡ stmts.Span key v b → of_stmt f ≡ primary_names all_names key ++ of_expr v
unfolding OtherwiseForms.hidden-the_row-Part-0 Carrier.hidden Carrier.roll
span_law f key v b is = ap of_stmt is

arm_rows : (n : _) (row : Row_of-Arm n) → flat_map of_head (heads row) ≡ flat_map (λ a. of_case a.case) (items-the_row-Arm n row)
unfolding OtherwiseForms.hidden-the_row-Part-0 OtherwiseForms.hidden-the_row-Arm-2 Carrier.hidden Carrier.roll
arm_rows n end_of-Arm = refl
arm_rows n (more_of-Arm {n = m} first what x body rest) = ap (λ t. of_case what ++ t) (arm_rows m rest)

switch_is : (over : Option SwitchSpan) (v : Expr) (as_ : List Arm) →
    of_stmt (stmts.Switch over v as_) ≡ flat_map of_span (listed over) ++ of_expr v ++ flat_map (λ a. of_case a.case) as_
unfolding OtherwiseForms.hidden-the_row-Part-0 OtherwiseForms.hidden-the_row-Arm-2 Carrier.hidden Carrier.roll
switch_is over v as_ = ap (λ t. flat_map of_span (listed over) ++ of_expr v ++ t)
    (arm_rows _ (OtherwiseForms.hidden-the_row-Arm-2 as_) ∙ ap (flat_map (λ a. of_case a.case)) (items_hidden-the_row-Arm-2 as_))

pub switch_law : (f : StmtForm) (over : Option SwitchSpan) (v : Expr) (as_ : List Arm) → f ≡ stmts.Switch over v as_ →
    of_stmt f ≡ flat_map of_span (listed over) ++ of_expr v ++ flat_map (λ a. of_case a.case) as_
switch_law f over v as_ is = ap of_stmt is ∙ switch_is over v as_

pub item_span_law : (i : Item) (t : ℕ) (key : Primary) (v : Expr) (inside : List Item) → i ≡ items.Span t key v inside → of_item i ≡ primary_names all_names key ++ of_expr v
unfolding Items.hidden-the_row-Item-0 Carrier.hidden
item_span_law i t key v inside is = ap of_item is
