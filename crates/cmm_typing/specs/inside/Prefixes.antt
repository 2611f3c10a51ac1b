-- Literals that stand alone with an operator before them.
use Rattle.std.specs.Prelude.{Option, None}
use Rattle.cmm_ast.specs.declared.expression.Expr.{Expr}
use Rattle.cmm_ast.specs.declared.expression.Prefix.{Prefix}
use Rattle.cmm_ast.specs.declared.expression.Prefix.TheVariants.{Negate, Complement}
use Rattle.cmm_static_semantics.specs.Constants.{Alone, negative_alone, form_alone}

-- a literal that stands alone, by the operator and the operand
abbrev pub prefix_alone : Prefix → Expr → Option Alone
prefix_alone Negate a = negative_alone a.token (form_alone a.form)
prefix_alone Complement a = None
