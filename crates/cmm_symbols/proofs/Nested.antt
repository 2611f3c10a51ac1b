-- What stands inside a statement, by its blocks.
use Rattle.std.proofs.Common.{◌≡◌, List, [], ◌∷◌, ◌++◌, Option, refl, ap, ◌∙◌}
use Rattle.std.proofs.lemmas.List.{map-append}
use Rattle.cmm_ast.specs.declared.expression.Expr.{Expr}
use Rattle.cmm_ast.specs.declared.expression.Primary.{Primary}
use Rattle.cmm_ast.specs.declared.statement.Arm.{Arm}
use Rattle.cmm_ast.specs.declared.statement.Block.{Block}
use Rattle.cmm_ast.specs.declared.statement.Otherwise.{Otherwise}
use Rattle.cmm_ast.specs.declared.statement.Otherwise.TheVariants as otherwises
use Rattle.cmm_ast.specs.declared.statement.Part.TheVariants as parts
use Rattle.cmm_ast.specs.declared.statement.Span.{Span as SwitchSpan}
use Rattle.cmm_ast.specs.declared.statement.Stmt.{Stmt}
use Rattle.cmm_ast.specs.declared.statement.StmtForm.TheVariants as stmts
use Rattle.cmm_static_semantics.specs.Items.{SpanTree, parts_in, part_within, parts_inside, parts_otherwise}
use Rattle.cmm_static_semantics.proofs.Shared.{if_inside, span_inside, switch_inside, in_arms as parts_of_arms, else_inside, else_if_inside}
use Rattle.cmm_symbols.specs.inside.Arms.{in_arms}
use Rattle.cmm_symbols.specs.Shown.{whats}

arms_flat : (spans : List SpanTree) (as_ : List Arm) → whats (parts_of_arms spans as_) ≡ in_arms spans as_
arms_flat spans [] = refl
arms_flat spans (a ∷ as_) =
    map-append (λ w. w.what) (parts_in spans a.body) (parts_of_arms spans as_) ∙ ap (λ t. whats (parts_in spans a.body) ++ t) (arms_flat spans as_)

-- what stands in a statement of a form
pub if_law : (spans : List SpanTree) (s : Stmt) (c : Expr) (b : Block) (o : Otherwise) → s.form ≡ stmts.If c b o →
    whats (part_within spans (parts.Stmt s)) ≡ parts.Stmt s ∷ (whats (parts_in spans b) ++ whats (parts_otherwise spans o))
if_law spans s c b o is = ap (λ t. parts.Stmt s ∷ t)
    (ap (λ f. whats (parts_inside spans f)) is ∙ ap whats (if_inside spans c b o) ∙ map-append (λ w. w.what) (parts_in spans b) (parts_otherwise spans o))

pub span_law : (spans : List SpanTree) (s : Stmt) (key : Primary) (v : Expr) (b : Block) → s.form ≡ stmts.Span key v b →
    whats (part_within spans (parts.Stmt s)) ≡ parts.Stmt s ∷ whats (parts_in (record { key = key; value = v } ∷ spans) b)
span_law spans s key v b is = ap (λ t. parts.Stmt s ∷ t) (ap (λ f. whats (parts_inside spans f)) is ∙ ap whats (span_inside spans key v b))

pub switch_law : (spans : List SpanTree) (s : Stmt) (over : Option SwitchSpan) (v : Expr) (as_ : List Arm) → s.form ≡ stmts.Switch over v as_ →
    whats (part_within spans (parts.Stmt s)) ≡ parts.Stmt s ∷ in_arms spans as_
switch_law spans s over v as_ is = ap (λ t. parts.Stmt s ∷ t) (ap (λ f. whats (parts_inside spans f)) is ∙ ap whats (switch_inside spans over v as_) ∙ arms_flat spans as_)

pub else_law : (spans : List SpanTree) (o : Otherwise) (b : Block) → o ≡ otherwises.Else b → whats (parts_otherwise spans o) ≡ whats (parts_in spans b)
else_law spans o b is = ap (λ q. whats (parts_otherwise spans q)) is ∙ ap whats (else_inside spans b)

pub else_if_law : (spans : List SpanTree) (o : Otherwise) (s : Stmt) → o ≡ otherwises.ElseIf s → whats (parts_otherwise spans o) ≡ whats (part_within spans (parts.Stmt s))
else_if_law spans o s is = ap (λ q. whats (parts_otherwise spans q)) is ∙ ap whats (else_if_inside spans s)
