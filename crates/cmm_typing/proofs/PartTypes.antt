-- Primary expressions in brackets and words in memory are judged as what they hold.
use Rattle.std.proofs.Common.{◌≡◌, ℕ, refl, ap, ◌∙◌}
use denote.Hole.Carrier as Carrier
use Rattle.cmm_ast.specs.declared.expression.Expr.{Expr}
use Rattle.cmm_ast.specs.declared.expression.ExprForm.{more_of-Expr, end_of-Expr}
use Rattle.cmm_ast.specs.declared.expression.ExprForm.TheBlock as ExprForms
use Rattle.cmm_ast.specs.declared.expression.PrimForm.{PrimForm}
use Rattle.cmm_ast.specs.declared.expression.PrimForm.TheVariants.{Bracketed}
use Rattle.cmm_ast.specs.declared.expression.Memory.{Memory, Memory', out-Memory}
use Rattle.cmm_static_semantics.specs.Senses.{Senses}
use Rattle.cmm_static_semantics.specs.Algebras.{knowns}
use Rattle.cmm_static_semantics.specs.Typing.{expr_type, prim_type, memory_type, type_width}
use Rattle.cmm_typing.specs.inside.Loads.{loaded_of}

bracketed_is : (names : Senses) (token : ℕ) (a : Expr) → prim_type knowns names token (Bracketed a) ≡ expr_type knowns names a
unfolding ExprForms.hidden-the_row-Expr-0 Carrier.hidden
bracketed_is names token a = refl

pub bracketed_type : (names : Senses) (token : ℕ) (p : PrimForm) (a : Expr) → p ≡ Bracketed a → prim_type knowns names token p ≡ expr_type knowns names a
bracketed_type names token p a is = ap (prim_type knowns names token) is ∙ bracketed_is names token a

pub memory_loaded : (names : Senses) (m : Memory) →
    memory_type knowns names m ≡ loaded_of (type_width names (out-Memory m).width) (out-Memory m).address.token (expr_type knowns names (out-Memory m).address)
unfolding ExprForms.hidden-the_row-Expr-0 Carrier.hidden out-Memory Carrier.out ExprForms.shown-the_row-Expr-0 Carrier.shown
memory_loaded names (Memory' width _ (more_of-Expr token form end_of-Expr) aligned) = refl
