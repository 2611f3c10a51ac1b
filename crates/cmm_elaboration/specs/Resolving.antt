-- What stands for the expressions of a unit in its program, where each name means what a function says (C-- Language Specification 2.0,
-- expressions). Where a rule is broken this says something, which nobody asks for.
use Rattle.std.specs.Prelude.{List, map, unwrap_or, Option, Some, Ok, Err}
use Rattle.cmm_words.specs.declared.constant.Constant.{Constant}
use Rattle.cmm_words.specs.declared.constant.Constant.TheVariants.{Number}
use Rattle.cmm_words.specs.declared.width.Width.{Width}
use Rattle.cmm_words.specs.declared.width.Width.TheVariants.{W64}
use Rattle.cmm_words.specs.declared.operators.Cmp.TheVariants.{Eq}
use Rattle.cmm_ast.specs.declared.token.Ident.{Ident}
use Rattle.cmm_ast.specs.declared.expression.Expr.{Expr}
use Rattle.cmm_ast.specs.declared.expression.Memory.{Memory, Memory'}
use Rattle.cmm_ast.specs.declared.expression.TypeName.{TypeName}
use Rattle.cmm_ast.specs.declared.statement.Actual.{Actual}
use Rattle.cmm_ast.specs.declared.statement.Callee.{Callee}
use Rattle.cmm_ast.specs.declared.statement.CalleeForm.TheVariants as callees
use Rattle.cmm_ast.specs.declared.statement.Lvalue.{Lvalue as LvalueTree}
use Rattle.cmm_ast.specs.declared.statement.Lvalue.TheVariants as trees
use Rattle.cmm_program.specs.declared.expression.Expression.{Expression}
use Rattle.cmm_program.specs.declared.expression.Expression.TheVariants.{Known}
use Rattle.cmm_program.specs.declared.expression.Condition.{Condition}
use Rattle.cmm_program.specs.declared.expression.Condition.TheVariants.{Compare}
use Rattle.cmm_program.specs.declared.procedure.Target.{Target}
use Rattle.cmm_program.specs.declared.procedure.Target.TheVariants as targets
use Rattle.cmm_program.specs.declared.statement.Lvalue.{Lvalue}
use Rattle.cmm_program.specs.declared.statement.Lvalue.TheVariants as places
use Rattle.cmm_static_semantics.specs.declared.judged.Typed.{Typed}
use Rattle.cmm_static_semantics.specs.declared.judged.Typed.TheVariants as typed
use Rattle.cmm_static_semantics.specs.declared.judged.Operand.{Operand}
use Rattle.cmm_static_semantics.specs.declared.sense.Sense.{Sense}
use Rattle.cmm_static_semantics.specs.declared.sense.Sense.TheVariants.{Variable, Register}
use Rattle.cmm_static_semantics.specs.Senses.{Senses}
use Rattle.cmm_static_semantics.specs.Judging.{Judged, if_ok}
use Rattle.cmm_static_semantics.specs.Algebras.{expressions}
use Rattle.cmm_static_semantics.specs.Typing.{expr_type, name_type, operand, type_width, alignment, of_memory}
use Rattle.cmm_static_semantics.specs.Constants.{constant_of}

-- ---- values and conditions

abbrev pub Resolved : Type 0
Resolved = Judged (Typed Expression Condition)

abbrev pub no_value : Expression
no_value = Known (Number 0 W64)

abbrev pub value_in : Resolved → Expression
value_in (Ok (typed.Bits x)) = unwrap_or x.value no_value
value_in (Ok (typed.Test c)) = no_value
value_in (Err broken) = no_value

abbrev pub condition_in : Resolved → Condition
condition_in (Ok (typed.Test c)) = unwrap_or c (Compare Eq W64 no_value no_value)
condition_in (Ok (typed.Bits x)) = Compare Eq W64 no_value no_value
condition_in (Err broken) = Compare Eq W64 no_value no_value

abbrev pub value_of : Senses → Expr → Expression
value_of names e = value_in (expr_type expressions names e)

abbrev pub condition_of : Senses → Expr → Condition
condition_of names e = condition_in (expr_type expressions names e)

abbrev pub values_of : Senses → List Actual → List Expression
values_of names as_ = map (λ a. value_of names a.value) as_

abbrev pub callee_of : Senses → Callee → Expression
callee_of names c = elim c.form [
  | callees.Name i ↦ value_in (name_type expressions c.token (names i.name))
  | callees.Memory m ↦ value_of names (of_memory c.token m)
  | callees.Bracketed e ↦ value_of names e
]

-- ---- widths and link-time constants

abbrev pub width_at : Senses → TypeName → Width
width_at names t = unwrap_or (if_ok (type_width names t)) W64

abbrev pub or_zero : Width → Judged Constant → Constant
or_zero width c = unwrap_or (if_ok c) (Number 0 width)

abbrev pub constant_at : Senses → Expr → Constant
constant_at names e = or_zero W64 (constant_of names e)

-- ---- what is assigned to

abbrev pub target_in : Option Sense → Target
target_in (Some (Variable n width)) = targets.Variable n (unwrap_or width W64)
target_in (Some (Register n width)) = targets.Register n (unwrap_or width W64)
target_in _ = targets.Variable 0 W64

abbrev pub target_of : Senses → Ident → Target
target_of names i = target_in (names i.name)

abbrev pub operand_in : Judged (Operand Expression Condition) → Expression
operand_in (Ok o) = value_in (Ok o.typed)
operand_in (Err broken) = no_value

abbrev pub memory_place : Senses → Memory → Lvalue
memory_place names (Memory' t _ address aligned) = let width = width_at names t in
    places.Memory width (alignment width aligned) (operand_in (operand expressions names address))

abbrev pub place_of : Senses → LvalueTree → Lvalue
place_of names (trees.Name i) = places.Target (target_of names i)
place_of names (trees.Memory m) = memory_place names m
