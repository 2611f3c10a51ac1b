-- The names in expressions that hold others, by their parts.
use Rattle.std.proofs.Common.{◌≡◌, ℕ, List, [], ◌++◌, refl, ap, ◌∙◌, append-nil}
use Rattle.std.specs.Prelude.{flat_map}
use denote.Hole.Carrier as Carrier
use Rattle.cmm_ast.specs.declared.expression.Expr.{Expr}
use Rattle.cmm_ast.specs.declared.expression.ExprForm.{Row_of-Expr, more_of-Expr, end_of-Expr, items-the_row-Expr, items_hidden-the_row-Expr-1}
use Rattle.cmm_ast.specs.declared.expression.ExprForm.TheBlock as ExprForms
use Rattle.cmm_ast.specs.declared.expression.ExprForm.TheVariants.{Infix, Prefix, Named}
use Rattle.cmm_ast.specs.declared.expression.Infix.{Infix as Sign}
use Rattle.cmm_ast.specs.declared.expression.Prefix.{Prefix as PrefixSign}
use Rattle.cmm_ast.specs.declared.expression.PrimForm.{PrimForm}
use Rattle.cmm_ast.specs.declared.expression.PrimForm.TheVariants.{Bracketed}
use Rattle.cmm_ast.specs.declared.expression.Memory.{Memory, Memory', out-Memory}
use Rattle.cmm_static_semantics.specs.Mentions.{Taken, expr_names, form_names, row_names, prim_names, memory_names}

infix_form : (take : Taken) (token : ℕ) (l : Expr) (op : Sign) (r : Expr) → form_names take token (Infix l op r) ≡ (expr_names take l ++ []) ++ (expr_names take r ++ [])
unfolding ExprForms.hidden-the_row-Expr-0 Carrier.hidden
infix_form take token l op r = refl

prefix_form : (take : Taken) (token : ℕ) (op : PrefixSign) (a : Expr) → form_names take token (Prefix op a) ≡ expr_names take a ++ []
unfolding ExprForms.hidden-the_row-Expr-0 Carrier.hidden
prefix_form take token op a = refl

bracketed_form : (take : Taken) (token : ℕ) (a : Expr) → prim_names take token (Bracketed a) ≡ expr_names take a ++ []
unfolding ExprForms.hidden-the_row-Expr-0 Carrier.hidden
bracketed_form take token a = refl

rows : (take : Taken) (n : _) (row : Row_of-Expr n) → row_names take row ≡ flat_map (expr_names take) (items-the_row-Expr n row)
rows take n end_of-Expr = refl
rows take n (more_of-Expr {n = m} token form rest) = ap (λ t. form_names take token form ++ t) (rows take m rest)

named_form : (take : Taken) (token : ℕ) (name : List ℕ) (es : List Expr) → form_names take token (Named name es) ≡ flat_map (expr_names take) es
unfolding ExprForms.hidden-the_row-Expr-1 Carrier.hidden
named_form take token name es = rows take _ (ExprForms.hidden-the_row-Expr-1 es) ∙ ap (flat_map (expr_names take)) (items_hidden-the_row-Expr-1 es)

pub infix_law : (take : Taken) (e l : Expr) (op : Sign) (r : Expr) → e.form ≡ Infix l op r → expr_names take e ≡ expr_names take l ++ expr_names take r
infix_law take e l op r is = ap (form_names take e.token) is ∙ infix_form take e.token l op r ∙ ap (λ t. t ++ (expr_names take r ++ [])) (append-nil (expr_names take l)) ∙ ap (λ t. expr_names take l ++ t) (append-nil (expr_names take r))

pub prefix_law : (take : Taken) (e : Expr) (op : PrefixSign) (a : Expr) → e.form ≡ Prefix op a → expr_names take e ≡ expr_names take a
prefix_law take e op a is = ap (form_names take e.token) is ∙ prefix_form take e.token op a ∙ append-nil (expr_names take a)

pub named_law : (take : Taken) (e : Expr) (name : List ℕ) (es : List Expr) → e.form ≡ Named name es → expr_names take e ≡ flat_map (expr_names take) es
named_law take e name es is = ap (form_names take e.token) is ∙ named_form take e.token name es

pub bracketed_law : (take : Taken) (token : ℕ) (p : PrimForm) (a : Expr) → p ≡ Bracketed a → prim_names take token p ≡ expr_names take a
bracketed_law take token p a is = ap (prim_names take token) is ∙ bracketed_form take token a ∙ append-nil (expr_names take a)

pub memory_law : (take : Taken) (m : Memory) → memory_names take m ≡ take.of_type (out-Memory m).width ++ expr_names take (out-Memory m).address
unfolding ExprForms.hidden-the_row-Expr-0 Carrier.hidden out-Memory Carrier.out ExprForms.shown-the_row-Expr-0 Carrier.shown
memory_law take (Memory' width _ (more_of-Expr token form end_of-Expr) aligned) = ap (λ t. take.of_type width ++ t) (append-nil (form_names take token form))
