-- The alignments in expressions, by their parts.
use Rattle.std.proofs.Common.{◌≡◌, ℕ, List, [], ◌++◌, refl, ap, ◌∙◌, append-nil}
use Rattle.std.specs.Prelude.{flat_map}
use denote.Hole.Carrier as Carrier
use Rattle.cmm_ast.specs.declared.token.Int.{Int}
use Rattle.cmm_ast.specs.declared.expression.Expr.{Expr}
use Rattle.cmm_ast.specs.declared.expression.ExprForm.{ExprForm, Row_of-Expr, more_of-Expr, end_of-Expr, items-the_row-Expr, items_hidden-the_row-Expr-1}
use Rattle.cmm_ast.specs.declared.expression.ExprForm.TheBlock as ExprForms
use Rattle.cmm_ast.specs.declared.expression.ExprForm.TheVariants.{Infix, Prefix, Named}
use Rattle.cmm_ast.specs.declared.expression.Infix.{Infix as Sign}
use Rattle.cmm_ast.specs.declared.expression.Prefix.{Prefix as PrefixSign}
use Rattle.cmm_ast.specs.declared.expression.PrimForm.{PrimForm}
use Rattle.cmm_ast.specs.declared.expression.PrimForm.TheVariants.{Bracketed}
use Rattle.cmm_ast.specs.declared.expression.Memory.{Memory, Memory', out-Memory}
use Rattle.cmm_static_semantics.specs.Mentions.{form_alignments, row_alignments, prim_alignments, memory_alignments, listed}

abbrev of_expr : Expr → List Int
of_expr e = form_alignments e.form

infix_form : (l : Expr) (op : Sign) (r : Expr) → form_alignments (Infix l op r) ≡ (of_expr l ++ []) ++ (of_expr r ++ [])
unfolding ExprForms.hidden-the_row-Expr-0 Carrier.hidden
infix_form l op r = refl

prefix_form : (op : PrefixSign) (a : Expr) → form_alignments (Prefix op a) ≡ of_expr a ++ []
unfolding ExprForms.hidden-the_row-Expr-0 Carrier.hidden
prefix_form op a = refl

bracketed_form : (a : Expr) → prim_alignments (Bracketed a) ≡ of_expr a ++ []
unfolding ExprForms.hidden-the_row-Expr-0 Carrier.hidden
bracketed_form a = refl

rows : (n : _) (row : Row_of-Expr n) → row_alignments row ≡ flat_map of_expr (items-the_row-Expr n row)
rows n end_of-Expr = refl
rows n (more_of-Expr {n = m} token form rest) = ap (λ t. form_alignments form ++ t) (rows m rest)

named_form : (name : List ℕ) (es : List Expr) → form_alignments (Named name es) ≡ flat_map of_expr es
unfolding ExprForms.hidden-the_row-Expr-1 Carrier.hidden
named_form name es = rows _ (ExprForms.hidden-the_row-Expr-1 es) ∙ ap (flat_map of_expr) (items_hidden-the_row-Expr-1 es)

pub infix_aligned : (f : ExprForm) (l : Expr) (op : Sign) (r : Expr) → f ≡ Infix l op r → form_alignments f ≡ form_alignments l.form ++ form_alignments r.form
infix_aligned f l op r is = ap form_alignments is ∙ infix_form l op r ∙ ap (λ t. t ++ (of_expr r ++ [])) (append-nil (of_expr l)) ∙ ap (λ t. of_expr l ++ t) (append-nil (of_expr r))

pub prefix_aligned : (f : ExprForm) (op : PrefixSign) (a : Expr) → f ≡ Prefix op a → form_alignments f ≡ form_alignments a.form
prefix_aligned f op a is = ap form_alignments is ∙ prefix_form op a ∙ append-nil (of_expr a)

pub named_aligned : (f : ExprForm) (name : List ℕ) (es : List Expr) → f ≡ Named name es → form_alignments f ≡ flat_map (λ e. form_alignments e.form) es
named_aligned f name es is = ap form_alignments is ∙ named_form name es

pub bracketed_aligned : (p : PrimForm) (a : Expr) → p ≡ Bracketed a → prim_alignments p ≡ form_alignments a.form
bracketed_aligned p a is = ap prim_alignments is ∙ bracketed_form a ∙ append-nil (of_expr a)

pub memory_aligned : (m : Memory) → memory_alignments m ≡ form_alignments (out-Memory m).address.form ++ listed (out-Memory m).aligned
unfolding ExprForms.hidden-the_row-Expr-0 Carrier.hidden out-Memory Carrier.out ExprForms.shown-the_row-Expr-0 Carrier.shown
memory_aligned (Memory' width _ (more_of-Expr token form end_of-Expr) aligned) = ap (λ t. t ++ listed aligned) (append-nil (form_alignments form))
