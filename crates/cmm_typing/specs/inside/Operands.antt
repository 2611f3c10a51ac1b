-- The operands of an operator: that they fit, and those of a list.
use Rattle.std.specs.Prelude.{List, [], ◌∷◌}
use Rattle.cmm_words.specs.declared.width.Width.{Width}
use Rattle.cmm_ast.specs.declared.expression.Expr.{Expr}
use Rattle.cmm_static_semantics.specs.declared.judged.Operands.{Operands}
use Rattle.cmm_static_semantics.specs.declared.judged.Operands.TheVariants as operands
use Rattle.cmm_static_semantics.specs.Senses.{Senses}
use Rattle.cmm_static_semantics.specs.Algebras.{Algebra}
use Rattle.cmm_static_semantics.specs.Judging.{Judged}
use Rattle.cmm_static_semantics.specs.Typing.{expr_type, operand_at, with_operand}
use Rattle.cmm_operators.specs.Fitting.{OperandFits}

abbrev pub OperandsFit : {E C : Type 0} → (Width → E → Type 0) → Operands E C → Type 0
OperandsFit fits operands.Zero = Unit {0}
OperandsFit fits (operands.One a) = OperandFits fits a
OperandsFit fits (operands.Two a b) = OperandFits fits a × OperandFits fits b
OperandsFit fits operands.More = Unit {0}

-- some operands, and those of a list after them
abbrev pub list_operands : {E C : Type 0} → Algebra E C → Senses → Judged (Operands E C) → List Expr → Judged (Operands E C)
list_operands algebra names before [] = before
list_operands algebra names before (e ∷ es) =
    list_operands algebra names (with_operand algebra before (operand_at algebra e.token (expr_type algebra names e))) es
