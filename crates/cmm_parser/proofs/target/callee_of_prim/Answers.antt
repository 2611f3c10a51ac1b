use Rattle.std.proofs.Common.{◌≡◌, ◌∙◌, ap, sym, refl, Some, ℕ}
use Rattle.cmm_ast.specs.declared.expression.Expr.{Expr}
use Rattle.cmm_ast.specs.declared.expression.ExprForm.TheBlock as ExprForms
use Rattle.cmm_ast.specs.declared.expression.PrimForm.TheVariants.{Bracketed}
use Rattle.cmm_grammar.specs.TargetReading.{callee_of_prim}
use Rattle.cmm_ast.specs.declared.statement.CalleeForm.TheVariants as callees
use denote.Hole.Carrier as Carrier
use Rattle.cmm_parser.proofs.target.callee_of_prim.Goals as goal

bracketed : (token : ℕ) (e : Expr) → callee_of_prim token (Bracketed e) ≡ Some (callees.Bracketed e)
unfolding ExprForms.hidden-the_row-Expr-0 Carrier.hidden
bracketed token e = refl

pub returns-in-Bracketed : goal.returns-in-Bracketed
returns-in-Bracketed c =
    let is : c.args.form ≡ Bracketed c.in-Bracketed.inner = c.in-Bracketed.is in
    ap (λ e. Some (callees.Bracketed e)) c.into_inner.ensures ∙ sym (ap (λ form. callee_of_prim c.args.token form) is ∙ bracketed c.args.token c.in-Bracketed.inner)
