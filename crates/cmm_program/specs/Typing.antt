-- Which expressions and conditions of a resolved program keep the rules on widths (C-- Language Specification 2.0,
-- expressions): what each names is there, and its operands have the widths that it asks for.
use Rattle.std.specs.Prelude.{ℕ, ◌^◌, ◌==◌, ◌&&◌, ◌||◌, nat_le, nat_lt, Bool, true, false, length, slice_get, Option, Some, None}
use Rattle.cmm_words.specs.declared.width.Width.{Width}
use Rattle.cmm_words.specs.declared.width.Width.TheVariants.{W64}
use Rattle.cmm_words.specs.declared.constant.Constant.{Constant}
use Rattle.cmm_words.specs.declared.constant.Constant.TheVariants.{Number, Code, Address}
use Rattle.cmm_words.specs.Widths.{bits}
use Rattle.cmm_program.specs.declared.expression.Expression.{Expression, Expression-F}
use Rattle.cmm_program.specs.declared.expression.Expression.TheOpen as e
use Rattle.cmm_program.specs.declared.expression.Condition.{Condition, Condition-F}
use Rattle.cmm_program.specs.declared.expression.Condition.TheOpen as c
use Rattle.cmm_program.specs.declared.procedure.Proc.{Proc}
use Rattle.cmm_program.specs.declared.procedure.Target.{Target}
use Rattle.cmm_program.specs.declared.procedure.Target.TheVariants.{Variable, Register}
use Rattle.cmm_program.specs.declared.program.Program.{Program}
use Rattle.cmm_program.specs.Errors.{with_some}
use Rattle.cmm_program.specs.Folds.{fold_expression, fold_condition}
use Rattle.cmm_program.specs.Layout.{stackdata_labels}

abbrev pub same_width : Width → Width → Bool
same_width a b = bits a == bits b

abbrev pub is_alignment : ℕ → Bool
is_alignment n = (n == 1) || (n == 2) || (n == 4) || (n == 8) || (n == 16)

-- the width of something, where it is there and has this width
abbrev pub if_holds : Bool → Width → Option Width
if_holds test width = elim test [ true ↦ Some width | false ↦ None ]

-- the width of a result, where the operand has its own
abbrev pub if_width : Option Width → Width → Width → Option Width
if_width a wanted result = with_some a (λ found. if_holds (same_width found wanted) result)

abbrev pub constant_width : Program → Constant → Option Width
constant_width p (Number n width) = if_holds (nat_lt n (2 ^ bits width)) width
constant_width p (Code proc plus) = if_holds (nat_lt proc (length p.procs)) W64
constant_width p (Address label plus) = if_holds (nat_lt label (length p.labels)) W64

abbrev pub has_variable : Proc → ℕ → Width → Bool
has_variable q n width = elim (slice_get q.vars n) [ Some v ↦ same_width v.width width | None ↦ false ]

abbrev pub has_register : Program → ℕ → Width → Bool
has_register p n width = elim (slice_get p.globals n) [ Some g ↦ same_width g.width width | None ↦ false ]

abbrev pub is_target : Program → Proc → Target → Bool
is_target p q (Variable n width) = has_variable q n width
is_target p q (Register n width) = has_register p n width

module _ (p : Program) (q : Proc) where
  abbrev pub width_step : Expression-F (Option Width) → Option Width
  width_step (e.Known known) = constant_width p known
  width_step (e.Variable n width) = if_holds (has_variable q n width) width
  width_step (e.Register n width) = if_holds (has_register p n width) width
  width_step (e.Stackdata n) = if_holds (nat_lt n (length (stackdata_labels q.stack))) W64
  width_step (e.Continuation n) = if_holds (nat_lt n (length q.conts)) W64
  width_step (e.Load width aligned address) = with_some (if_width address W64 width) (λ w. if_holds (is_alignment aligned) w)
  width_step (e.Unary op width a) = if_width a width width
  width_step (e.Binary op width a b) = with_some (if_width a width width) (λ w. if_width b w w)
  width_step (e.SignExtend from to a) = with_some (if_width a from to) (λ w. if_holds (nat_le (bits from) (bits to)) w)
  width_step (e.ZeroExtend from to a) = with_some (if_width a from to) (λ w. if_holds (nat_le (bits from) (bits to)) w)
  width_step (e.LowBits from to a) = with_some (if_width a from to) (λ w. if_holds (nat_le (bits to) (bits from)) w)

  -- the width of an expression, if no rule on widths is broken in it
  abbrev pub typed : Expression → Option Width
  typed e = fold_expression width_step e

  -- an expression of this width, and one of any
  abbrev pub has_width : Width → Expression → Bool
  has_width width e = elim (typed e) [ Some found ↦ same_width found width | None ↦ false ]

  abbrev pub is_typed : Expression → Bool
  is_typed e = elim (typed e) [ Some found ↦ true | None ↦ false ]

  abbrev pub test_step : Condition-F Bool → Bool
  test_step (c.Compare cmp width a b) = has_width width a && has_width width b
  test_step (c.Not a) = a
  test_step (c.Both a b) = a && b
  test_step (c.Either a b) = a && b

  abbrev pub is_condition : Condition → Bool
  is_condition c = fold_condition test_step c
