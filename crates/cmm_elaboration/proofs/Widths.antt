-- Expressions with names resolved have the widths that they are judged to have.
use Rattle.std.proofs.Common.{◌≡◌, ℕ, ◌^◌, refl, ap, ◌∙◌, Bool, true, false, Option, Some, None, Ok, Err, IsTrue, length}
use Rattle.std.proofs.lemmas.Bool.{and_from}
use Rattle.std.specs.Prelude.{nat_lt, nat_le, ◌&&◌, IfSome}
use Rattle.std.specs.Option.{is_some}
use Rattle.cmm_words.specs.declared.width.Width.{Width}
use Rattle.cmm_words.specs.declared.width.Width.TheVariants.{W8, W16, W32, W64}
use Rattle.cmm_words.specs.declared.constant.Constant.{Constant}
use Rattle.cmm_words.specs.declared.constant.Constant.TheVariants.{Number, Code, Address}
use Rattle.cmm_words.specs.declared.operators.Op1.{Op1}
use Rattle.cmm_words.specs.declared.operators.Op2.{Op2}
use Rattle.cmm_words.specs.declared.operators.Cmp.{Cmp}
use Rattle.cmm_words.specs.Widths.{bits}
use Rattle.cmm_program.specs.declared.expression.Expression.{Expression}
use Rattle.cmm_program.specs.declared.expression.Expression.TheVariants as x
use Rattle.cmm_program.specs.declared.expression.Condition.{Condition}
use Rattle.cmm_program.specs.declared.expression.Condition.TheVariants as c
use Rattle.cmm_program.specs.declared.procedure.Proc.{Proc}
use Rattle.cmm_program.specs.declared.program.Program.{Program}
use Rattle.cmm_program.specs.Errors.{with_some}
use Rattle.cmm_program.specs.Typing.{same_width, if_holds, if_width, constant_width, has_width, is_alignment, is_condition, typed as width_of}
use Rattle.cmm_program.proofs.Shared.{opened}
use Rattle.cmm_static_semantics.specs.declared.judged.Typed.{Typed}
use Rattle.cmm_static_semantics.specs.declared.judged.Typed.TheVariants as typed
use Rattle.cmm_static_semantics.specs.declared.sense.Sense.{Sense}
use Rattle.cmm_static_semantics.specs.declared.sense.Sense.TheVariants.{Variable, Register, Value, Broken, Stackdata, Continuation, Typedef, CodeLabel, Host}
use Rattle.cmm_static_semantics.specs.Senses.{constant_width as declared_width}
use Rattle.cmm_static_semantics.specs.Algebras.{expressions}
use Rattle.cmm_static_semantics.specs.Judging.{Judged}
use Rattle.cmm_static_semantics.specs.Typing.{expr_type}
use Rattle.cmm_elaboration.specs.Fitting.{sense_fits, JudgedFits}
use Rattle.cmm_elaboration.specs.Laws.{WidthsAreKept}
use Rattle.cmm_elaboration.proofs.Judged.{Holds, OnSome, IsKept, SenseFits, TypedFits, expression_fits}

if_own : (w r : Width) → if_width (Some w) w r ≡ Some r
if_own W8 r = refl
if_own W16 r = refl
if_own W32 r = refl
if_own W64 r = refl

pub own_width : (w : Width) → same_width w w ≡ true
own_width W8 = refl
own_width W16 = refl
own_width W32 = refl
own_width W64 = refl

either_is_some : (a : Bool) (w : Width) → is_some (if_holds a w) ≡ true → a ≡ true
either_is_some true w e = refl
either_is_some false w e = cc

module _ (p : Program) (q : Proc) where
  abbrev Fits : Width → Expression → Type 0
  Fits w e = width_of p q e ≡ Some w

  abbrev Is : Condition → Type 0
  Is t = is_condition p q t ≡ true

  -- ---- the width of an operator's value, from its operands

  load_is : (w : Width) (k : ℕ) (a : Expression) → width_of p q (x.Load w k a) ≡ with_some (if_width (width_of p q a) W64 w) (λ u. if_holds (is_alignment k) u)
  unfolding opened
  load_is w k a = refl

  unary_is : (op : Op1) (w : Width) (a : Expression) → width_of p q (x.Unary op w a) ≡ if_width (width_of p q a) w w
  unfolding opened
  unary_is op w a = refl

  binary_is : (op : Op2) (w : Width) (a b : Expression) → width_of p q (x.Binary op w a b) ≡ with_some (if_width (width_of p q a) w w) (λ u. if_width (width_of p q b) u u)
  unfolding opened
  binary_is op w a b = refl

  sign_is : (from to : Width) (a : Expression) →
      width_of p q (x.SignExtend from to a) ≡ with_some (if_width (width_of p q a) from to) (λ u. if_holds (nat_le (bits from) (bits to)) u)
  unfolding opened
  sign_is from to a = refl

  zero_is : (from to : Width) (a : Expression) →
      width_of p q (x.ZeroExtend from to a) ≡ with_some (if_width (width_of p q a) from to) (λ u. if_holds (nat_le (bits from) (bits to)) u)
  unfolding opened
  zero_is from to a = refl

  low_is : (from to : Width) (a : Expression) →
      width_of p q (x.LowBits from to a) ≡ with_some (if_width (width_of p q a) from to) (λ u. if_holds (nat_le (bits to) (bits from)) u)
  unfolding opened
  low_is from to a = refl

  compare_is : (cmp : Cmp) (w : Width) (a b : Expression) → is_condition p q (c.Compare cmp w a b) ≡ (has_width p q w a && has_width p q w b)
  unfolding opened
  compare_is cmp w a b = refl

  not_is : (a : Condition) → is_condition p q (c.Not a) ≡ is_condition p q a
  unfolding opened
  not_is a = refl

  both_is : (a b : Condition) → is_condition p q (c.Both a b) ≡ (is_condition p q a && is_condition p q b)
  unfolding opened
  both_is a b = refl

  either_is : (a b : Condition) → is_condition p q (c.Either a b) ≡ (is_condition p q a && is_condition p q b)
  unfolding opened
  either_is a b = refl

  pub has_own : (w : Width) (a : Expression) → Fits w a → has_width p q w a ≡ true
  has_own w a is = ap (λ t. elim t as (λ o. Bool) [ Some found ↦ same_width found w | None ↦ false ]) is ∙ own_width w

  converted : (test : Bool) (from to : Width) (o : Option Width) → test ≡ true → o ≡ Some from → with_some (if_width o from to) (λ u. if_holds test u) ≡ Some to
  converted test from to o holds is =
      ap (λ t. with_some (if_width t from to) (λ u. if_holds test u)) is
      ∙ ap (λ t. with_some t (λ u. if_holds test u)) (if_own from to) ∙ ap (λ b. if_holds b to) holds

  expressions_kept : IsKept expressions Fits Is
  expressions_kept = record {
    constant = λ value width is. ap (λ b. if_holds b width) is;
    load = λ w k a is fits. load_is w k a ∙ ap (λ t. with_some (if_width t W64 w) (λ u. if_holds (is_alignment k) u)) fits ∙ ap (λ b. if_holds b w) is;
    unary = λ op w a fits. unary_is op w a ∙ ap (λ t. if_width t w w) fits ∙ if_own w w;
    binary = λ op w a b fits fits'.
        binary_is op w a b ∙ ap (λ t. with_some (if_width t w w) (λ u. if_width (width_of p q b) u u)) fits
        ∙ ap (λ t. with_some t (λ u. if_width (width_of p q b) u u)) (if_own w w) ∙ ap (λ t. if_width t w w) fits' ∙ if_own w w;
    sign_extend = λ from to a is fits. sign_is from to a ∙ converted (nat_le (bits from) (bits to)) from to (width_of p q a) is fits;
    zero_extend = λ from to a is fits. zero_is from to a ∙ converted (nat_le (bits from) (bits to)) from to (width_of p q a) is fits;
    low_part = λ from to a is fits. low_is from to a ∙ converted (nat_le (bits to) (bits from)) from to (width_of p q a) is fits;
    compare = λ cmp w a b fits fits'. compare_is cmp w a b ∙ and_from (has_width p q w a) (has_width p q w b) (has_own w a fits) (has_own w b fits');
    negated = λ a is. not_is a ∙ is;
    conjoined = λ a b is is'. both_is a b ∙ and_from (is_condition p q a) (is_condition p q b) is is';
    disjoined = λ a b is is'. either_is a b ∙ and_from (is_condition p q a) (is_condition p q b) is is';
  }

  -- ---- names

  constant_fits : (k : Constant) → is_some (constant_width p k) ≡ true → constant_width p k ≡ Some (declared_width k)
  constant_fits (Number n w) is = ap (λ b. if_holds b w) (either_is_some (nat_lt n (2 ^ bits w)) w is)
  constant_fits (Code n plus) is = ap (λ b. if_holds b W64) (either_is_some (nat_lt n (length p.procs)) W64 is)
  constant_fits (Address n plus) is = ap (λ b. if_holds b W64) (either_is_some (nat_lt n (length p.labels)) W64 is)

  name_fits : (sense : Option Sense) → sense_fits p q sense ≡ true → SenseFits expressions Fits sense
  name_fits (Some (Variable n (Some w))) is = ap (λ b. if_holds b w) is
  name_fits (Some (Variable n None)) is = tt
  name_fits (Some (Register n (Some w))) is = ap (λ b. if_holds b w) is
  name_fits (Some (Register n None)) is = tt
  name_fits (Some (Value k)) is = constant_fits k is
  name_fits (Some (Broken w)) is = tt
  name_fits (Some (Stackdata n)) is = ap (λ b. if_holds b W64) is
  name_fits (Some (Continuation n)) is = ap (λ b. if_holds b W64) is
  name_fits (Some (Typedef w)) is = tt
  name_fits (Some CodeLabel) is = tt
  name_fits (Some (Host h)) is = tt
  name_fits None is = tt

  value_fits : (w : Width) (o : Option Expression) → OnSome (Fits w) o → IfSome o (λ e. width_of p q e ≡ Some w)
  value_fits w (Some e) h = h
  value_fits w None h = tt

  test_fits : (o : Option Condition) → OnSome Is o → IfSome o (λ t. IsTrue (is_condition p q t))
  test_fits (Some t) h = h
  test_fits None h = tt

  judged_fits : (j : Judged (Typed Expression Condition)) → Holds (TypedFits expressions Fits Is) j → JudgedFits p q j
  judged_fits (Ok (typed.Bits b)) h = value_fits b.width b.value h
  judged_fits (Ok (typed.Test t)) h = test_fits t h
  judged_fits (Err broken) h = tt

pub widths_are_kept : WidthsAreKept
widths_are_kept p q names fit e none =
    judged_fits p q (expr_type expressions names e)
    (expression_fits expressions (Fits p q) (Is p q) (expressions_kept p q) names (λ name. name_fits p q (names name) (fit name)) e none)
