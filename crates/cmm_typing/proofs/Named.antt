-- Literals have no names that are values, and literals that stand alone with an operator before them.
use Rattle.std.proofs.Common.{◌≡◌, [], Option, Some, None, refl, ap, ◌∙◌}
use Rattle.std.specs.Prelude.{flat_map}
use denote.Hole.Carrier as Carrier
use Rattle.cmm_ast.specs.declared.expression.Expr.{Expr}
use Rattle.cmm_ast.specs.declared.expression.ExprForm.{ExprForm}
use Rattle.cmm_ast.specs.declared.expression.ExprForm.TheBlock as ExprForms
use Rattle.cmm_ast.specs.declared.expression.ExprForm.TheVariants.{Prefix}
use Rattle.cmm_ast.specs.declared.expression.Prefix.{Prefix as PrefixSign}
use Rattle.cmm_ast.specs.declared.expression.Prefix.TheVariants.{Negate, Complement}
use Rattle.cmm_ast.specs.declared.expression.TypeName.{TypeName}
use Rattle.cmm_static_semantics.specs.Constants.{alone}
use Rattle.cmm_static_semantics.specs.Mentions.{values_alone, listed}
use Rattle.cmm_typing.specs.inside.Prefixes.{prefix_alone}

pub no_values : (t : Option TypeName) → flat_map values_alone.of_type (listed t) ≡ []
no_values (Some t) = refl
no_values None = refl

prefix_is : (op : PrefixSign) (a : Expr) → alone (Prefix op a) ≡ prefix_alone op a
unfolding ExprForms.hidden-the_row-Expr-0 Carrier.hidden
prefix_is Negate a = refl
prefix_is Complement a = refl

pub prefix_alone_law : (form : ExprForm) (op : PrefixSign) (a : Expr) → form ≡ Prefix op a → alone form ≡ prefix_alone op a
prefix_alone_law form op a is = ap alone is ∙ prefix_is op a
