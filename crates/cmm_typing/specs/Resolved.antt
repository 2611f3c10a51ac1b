-- Expressions with names resolved, as the code has them: an alignment is a number of 32 bits, the greatest where it is said to be more. In a program
-- none is more than 16.
use Rattle.std.specs.Prelude.{ℕ, ◌-◌, ◌<◌, ◌^◌, All, min}
use Rattle.cmm_ast.specs.declared.expression.Expr.{Expr}
use Rattle.cmm_program.specs.declared.expression.Expression.{Expression}
use Rattle.cmm_program.specs.declared.expression.Expression.TheVariants.{Load}
use Rattle.cmm_program.specs.declared.expression.Condition.{Condition}
use Rattle.cmm_static_semantics.specs.Algebras.{Algebra, expressions}
use Rattle.cmm_static_semantics.specs.Mentions.{form_alignments}

abbrev pub resolved : Algebra Expression Condition
resolved = record expressions { load = λ width aligned address. Load width (min aligned (2 ^ 32 - 1)) address }

-- each alignment in an expression is such a number, so that it stays as it is
abbrev pub AlignmentsFit : Expr → Type 0
AlignmentsFit e = All (λ k. k.value < 2 ^ 32) (form_alignments e.form)
