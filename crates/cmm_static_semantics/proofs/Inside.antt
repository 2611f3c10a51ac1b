-- What stands inside statements and items, by their blocks as lists.
use Rattle.std.proofs.Common.{◌≡◌, ℕ, refl, sym, ap, ◌∙◌, List, ◌∷◌, ◌++◌, Option}
use Rattle.std.specs.Prelude.{flat_map}
use denote.Hole.Carrier as Carrier
use Rattle.cmm_ast.specs.declared.expression.Expr.{Expr}
use Rattle.cmm_ast.specs.declared.expression.Primary.{Primary}
use Rattle.cmm_ast.specs.declared.statement.Arm.{Arm}
use Rattle.cmm_ast.specs.declared.statement.Block.{Block, Row_of-Part, end_of-Part, more_of-Part, items-the_row-Part, items_hidden-the_row-Part-0, items_shown-the_row-Part-0}
use Rattle.cmm_ast.specs.declared.statement.Otherwise.{Otherwise}
use Rattle.cmm_ast.specs.declared.statement.Otherwise.TheVariants as otherwises
use Rattle.cmm_ast.specs.declared.statement.Otherwise.TheBlock as OtherwiseForms
use Rattle.cmm_ast.specs.declared.statement.Part.{Part}
use Rattle.cmm_ast.specs.declared.statement.Part.TheVariants as parts
use Rattle.cmm_ast.specs.declared.statement.Span.{Span as SwitchSpan}
use Rattle.cmm_ast.specs.declared.statement.Stmt.{Stmt}
use Rattle.cmm_ast.specs.declared.statement.StmtForm.{Row_of-Arm, end_of-Arm, more_of-Arm, items-the_row-Arm, items_hidden-the_row-Arm-2}
use Rattle.cmm_ast.specs.declared.statement.StmtForm.TheVariants as stmts
use Rattle.cmm_ast.specs.declared.unit.Item.{Item, Row_of-Item, end_of-Item, more_of-Item, items-the_row-Item, items_hidden-the_row-Item-0}
use Rattle.cmm_ast.specs.declared.unit.Item.TheVariants as items
use Rattle.cmm_ast.specs.declared.unit.Item.TheBlock as Items
use Rattle.cmm_static_semantics.specs.Items.{SpanTree, Within, within, item_within, items_within, parts_in, part_within, parts_inside, parts_of_arms, parts_otherwise, parts_row}

unfoldable opened : Unit {0}
unfolding OtherwiseForms.hidden-the_row-Part-0 OtherwiseForms.hidden-the_row-Stmt-1 OtherwiseForms.hidden-the_row-Arm-2 Items.hidden-the_row-Item-0 Carrier.hidden Carrier.roll
opened = tt

-- ---- statements

part_rows : (spans : List SpanTree) (n : _) (row : Row_of-Part n) → parts_row spans row ≡ flat_map (part_within spans) (items-the_row-Part n row)
part_rows spans n end_of-Part = refl
part_rows spans n (more_of-Part {n = m} p rest) = ap (λ t. part_within spans p ++ t) (part_rows spans m rest)

pub hidden_parts : (spans : List SpanTree) (ps : List Part) → parts_row spans (OtherwiseForms.hidden-the_row-Part-0 ps) ≡ flat_map (part_within spans) ps
hidden_parts spans ps = part_rows spans _ (OtherwiseForms.hidden-the_row-Part-0 ps) ∙ ap (flat_map (part_within spans)) (items_hidden-the_row-Part-0 ps)

pub shown_parts : (spans : List SpanTree) (x : _) (body : Row_of-Part _) → flat_map (part_within spans) (OtherwiseForms.shown-the_row-Part-0 x body) ≡ parts_row spans body
shown_parts spans x body = ap (flat_map (part_within spans)) (items_shown-the_row-Part-0 x body) ∙ sym (part_rows spans _ body)

pub if_inside : (spans : List SpanTree) (c : Expr) (b : Block) (o : Otherwise) → parts_inside spans (stmts.If c b o) ≡ parts_in spans b ++ parts_otherwise spans o
unfolding opened
if_inside spans c b o = ap (λ t. t ++ parts_otherwise spans o) (hidden_parts spans b.parts)

pub span_inside : (spans : List SpanTree) (key : Primary) (v : Expr) (b : Block) → parts_inside spans (stmts.Span key v b) ≡ parts_in (record { key = key; value = v } ∷ spans) b
unfolding opened
span_inside spans key v b = hidden_parts (record { key = key; value = v } ∷ spans) b.parts

-- what stands in some arms
abbrev pub in_arms : List SpanTree → List Arm → List (Within Part)
in_arms spans as_ = flat_map (λ a. parts_in spans a.body) as_

arm_rows : (spans : List SpanTree) (n : _) (row : Row_of-Arm n) → parts_of_arms spans row ≡ in_arms spans (items-the_row-Arm n row)
unfolding opened
arm_rows spans n end_of-Arm = refl
arm_rows spans n (more_of-Arm {n = m} first what x body rest) =
    ap (λ t. parts_row spans body ++ t) (arm_rows spans m rest) ∙ ap (λ t. t ++ in_arms spans (items-the_row-Arm m rest)) (sym (shown_parts spans _ body))

pub switch_inside : (spans : List SpanTree) (over : Option SwitchSpan) (v : Expr) (as_ : List Arm) → parts_inside spans (stmts.Switch over v as_) ≡ in_arms spans as_
unfolding opened
switch_inside spans over v as_ = arm_rows spans _ (OtherwiseForms.hidden-the_row-Arm-2 as_) ∙ ap (in_arms spans) (items_hidden-the_row-Arm-2 as_)

pub else_inside : (spans : List SpanTree) (b : Block) → parts_otherwise spans (otherwises.Else b) ≡ parts_in spans b
unfolding opened
else_inside spans b = hidden_parts spans b.parts

pub else_if_inside : (spans : List SpanTree) (s : Stmt) → parts_otherwise spans (otherwises.ElseIf s) ≡ part_within spans (parts.Stmt s)
unfolding opened
else_if_inside spans s = refl

-- ---- items of a section

item_rows : (spans : List SpanTree) (n : _) (row : Row_of-Item n) → items_within spans row ≡ flat_map (item_within spans) (items-the_row-Item n row)
item_rows spans n end_of-Item = refl
item_rows spans n (more_of-Item {n = m} i rest) = ap (λ t. item_within spans i ++ t) (item_rows spans m rest)

pub span_item_inside : (spans : List SpanTree) (t : ℕ) (key : Primary) (value : Expr) (inside : List Item) →
    item_within spans (items.Span t key value inside)
    ≡ within spans (items.Span t key value inside) ∷ flat_map (item_within (record { key = key; value = value } ∷ spans)) inside
unfolding opened
span_item_inside spans t key value inside = ap (λ xs. within spans (items.Span t key value inside) ∷ xs)
    (item_rows (record { key = key; value = value } ∷ spans) _ (Items.hidden-the_row-Item-0 inside)
    ∙ ap (flat_map (item_within (record { key = key; value = value } ∷ spans))) (items_hidden-the_row-Item-0 inside))
