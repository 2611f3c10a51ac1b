-- What may stand for the values of expressions and for conditions. A judgement is the same whatever stands for them: what is known of a value,
-- which the rules ask for, or the expression with names resolved, of which a program is made.
use Rattle.std.specs.Prelude.{ℕ, ◌+◌, ◌%◌, ◌^◌, pos, neg_ℤ, Option, Some, None}
use Rattle.cmm_words.specs.declared.width.Width.{Width}
use Rattle.cmm_words.specs.declared.constant.Constant.{Constant}
use Rattle.cmm_words.specs.declared.constant.Constant.TheVariants as constants
use Rattle.cmm_words.specs.declared.operators.Op1.{Op1}
use Rattle.cmm_words.specs.declared.operators.Op2.{Op2}
use Rattle.cmm_words.specs.declared.operators.Op2.TheVariants.{Add, Sub}
use Rattle.cmm_words.specs.declared.operators.Cmp.{Cmp}
use Rattle.cmm_words.specs.Integers.{wrapped}
use Rattle.cmm_words.specs.Words.{value1, value2, sign_extended, low_bits}
use Rattle.cmm_program.specs.declared.expression.Expression.{Expression}
use Rattle.cmm_program.specs.declared.expression.Expression.TheVariants as x
use Rattle.cmm_program.specs.declared.expression.Condition.{Condition}
use Rattle.cmm_program.specs.declared.expression.Condition.TheVariants as c
use Rattle.cmm_static_semantics.specs.declared.known.Known.{Known}
use Rattle.cmm_static_semantics.specs.declared.known.Known.TheVariants.{Number, Symbol, Sum, Nothing}

-- what stands for a value or a condition, from what stands for its parts
pub record Algebra (E C : Type 0) : Type 0 where
  pub constant : Constant → E
  pub variable : ℕ → Width → E
  pub register : ℕ → Width → E
  pub stackdata : ℕ → E
  pub continuation : ℕ → E
  pub load : Width → ℕ → E → E
  pub unary : Op1 → Width → E → E
  pub binary : Op2 → Width → E → E → E
  pub sign_extend : Width → Width → E → E
  pub zero_extend : Width → Width → E → E
  pub low_part : Width → Width → E → E
  pub compare : Cmp → Width → E → E → C
  pub negated : C → C
  pub conjoined : C → C → C
  pub disjoined : C → C → C

-- ---- expressions with names resolved

abbrev pub expressions : Algebra Expression Condition
expressions = record {
  constant = x.Known;
  variable = x.Variable;
  register = x.Register;
  stackdata = x.Stackdata;
  continuation = x.Continuation;
  load = x.Load;
  unary = x.Unary;
  binary = x.Binary;
  sign_extend = x.SignExtend;
  zero_extend = x.ZeroExtend;
  low_part = x.LowBits;
  compare = c.Compare;
  negated = c.Not;
  conjoined = c.Both;
  disjoined = c.Either;
}

-- ---- what is known before the program runs (C-- Language Specification 2.0, constant expressions): numbers, and addresses of procedures and
-- data labels, alone or with a number added to them or taken from them. Of a condition nothing is.

-- an address n bytes further on, modulo 2 to the 64
abbrev pub moved : Constant → ℕ → Constant
moved (constants.Code proc plus) more = constants.Code proc ((plus + more) % 2 ^ 64)
moved (constants.Address label plus) more = constants.Address label ((plus + more) % 2 ^ 64)
moved (constants.Number value width) more = constants.Number value width

abbrev pub known_constant : Constant → Known
known_constant (constants.Number value width) = Number value
known_constant (constants.Code proc plus) = Symbol (constants.Code proc plus)
known_constant (constants.Address label plus) = Symbol (constants.Address label plus)

abbrev pub known_value : Option ℕ → Known
known_value (Some value) = Number value
known_value None = Nothing

abbrev pub known_unary : Op1 → Width → Known → Known
known_unary op width (Number a) = Number (value1 op width a)
known_unary op width _ = Nothing

-- a number is added to an address or taken from it
abbrev pub known_sum : Op2 → Constant → ℕ → Known
known_sum Add c b = Sum (moved c b)
known_sum Sub c b = Sum (moved c (wrapped 64 (neg_ℤ (pos b))))
known_sum _ c b = Nothing

-- a division by 0 is no constant
abbrev pub known_binary : Op2 → Width → Known → Known → Known
known_binary op width (Number a) (Number b) = known_value (value2 op width a b)
known_binary op width (Symbol c) (Number b) = known_sum op c b
known_binary op width _ _ = Nothing

abbrev pub known_converted : (ℕ → ℕ) → Known → Known
known_converted f (Number a) = Number (f a)
known_converted f _ = Nothing

abbrev pub knowns : Algebra Known (Unit {0})
knowns = record {
  constant = known_constant;
  variable = λ n width. Nothing;
  register = λ n width. Nothing;
  stackdata = λ n. Nothing;
  continuation = λ n. Nothing;
  load = λ width aligned a. Nothing;
  unary = known_unary;
  binary = known_binary;
  sign_extend = λ from to a. known_converted (sign_extended from to) a;
  zero_extend = λ from to a. known_converted (λ n. n) a;
  low_part = λ from to a. known_converted (low_bits to) a;
  compare = λ cmp width a b. tt;
  negated = λ p. tt;
  conjoined = λ p q. tt;
  disjoined = λ p q. tt;
}
