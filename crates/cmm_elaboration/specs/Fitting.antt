-- When what names mean, and what an expression is judged to be, fits a program: each number names what is there, and it has the width.
use Rattle.std.specs.Prelude.{◌≡◌, ℕ, nat_lt, Bool, true, false, List, IsTrue, IfSome, length, Some, Option, Ok, Err}
use Rattle.std.specs.Option.{is_some}
use Rattle.cmm_program.specs.declared.expression.Expression.{Expression}
use Rattle.cmm_program.specs.declared.expression.Condition.{Condition}
use Rattle.cmm_program.specs.declared.procedure.Proc.{Proc}
use Rattle.cmm_program.specs.declared.program.Program.{Program}
use Rattle.cmm_program.specs.Layout.{stackdata_labels}
use Rattle.cmm_program.specs.Typing.{constant_width, has_variable, has_register, typed as width_of, is_condition}
use Rattle.cmm_static_semantics.specs.declared.judged.Typed.{Typed}
use Rattle.cmm_static_semantics.specs.declared.judged.Typed.TheVariants as typed
use Rattle.cmm_static_semantics.specs.declared.sense.Sense.{Sense}
use Rattle.cmm_static_semantics.specs.declared.sense.Sense.TheVariants.{Variable, Register, Value, Broken, Stackdata, Continuation, Typedef}
use Rattle.cmm_static_semantics.specs.Senses.{Senses}
use Rattle.cmm_static_semantics.specs.Judging.{Judged}

-- what a name means is there in a program and in a procedure of it, with its width. Of what is broken nothing is required.
abbrev pub sense_fits : Program → Proc → Option Sense → Bool
sense_fits p q (Some (Variable n (Some width))) = has_variable q n width
sense_fits p q (Some (Register n (Some width))) = has_register p n width
sense_fits p q (Some (Value c)) = is_some (constant_width p c)
sense_fits p q (Some (Stackdata n)) = nat_lt n (length (stackdata_labels q.stack))
sense_fits p q (Some (Continuation n)) = nat_lt n (length q.conts)
sense_fits p q _ = true

abbrev pub NamesFit : Program → Proc → Senses → Type 0
NamesFit p q names = (name : List ℕ) → IsTrue (sense_fits p q (names name))

-- what a name means is not broken: it has a width where it is to have one, and a constant has a value
abbrev pub is_whole : Option Sense → Bool
is_whole (Some (Variable n width)) = is_some width
is_whole (Some (Register n width)) = is_some width
is_whole (Some (Typedef width)) = is_some width
is_whole (Some (Broken width)) = false
is_whole _ = true

-- what stands for an expression has the width that the expression is judged to have, and what stands for a condition keeps the rules
abbrev pub JudgedFits : Program → Proc → Judged (Typed Expression Condition) → Type 0
JudgedFits p q (Ok (typed.Bits x)) = IfSome x.value (λ e. width_of p q e ≡ Some x.width)
JudgedFits p q (Ok (typed.Test c)) = IfSome c (λ t. IsTrue (is_condition p q t))
JudgedFits p q (Err broken) = Unit {0}
