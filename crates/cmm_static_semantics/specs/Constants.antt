-- Where constants are wanted (C-- Language Specification 2.0, constant expressions).
use Rattle.std.specs.Prelude.{ℕ, Option, Some, None, Ok, Err}
use Rattle.cmm_words.specs.declared.width.Width.{Width}
use Rattle.cmm_words.specs.declared.width.Width.TheVariants.{W64}
use Rattle.cmm_words.specs.declared.constant.Constant.{Constant}
use Rattle.cmm_words.specs.declared.constant.Constant.TheVariants as constants
use Rattle.cmm_ast.specs.declared.expression.Expr.{Expr}
use Rattle.cmm_ast.specs.declared.expression.ExprForm.{ExprForm, more_of-Expr}
use Rattle.cmm_ast.specs.declared.expression.ExprForm.TheVariants.{Prefix', Prim}
use Rattle.cmm_ast.specs.declared.expression.Number.TheVariants.{Int}
use Rattle.cmm_ast.specs.declared.expression.Prefix.TheVariants.{Negate}
use Rattle.cmm_ast.specs.declared.expression.PrimForm.{PrimForm}
use Rattle.cmm_ast.specs.declared.expression.PrimForm.TheVariants.{Literal}
use Rattle.cmm_rules.specs.declared.rule.Rule.TheVariants.{NotAConstant}
use Rattle.cmm_static_semantics.specs.declared.judged.Bits.{Bits}
use Rattle.cmm_static_semantics.specs.declared.judged.Typed.{Typed}
use Rattle.cmm_static_semantics.specs.declared.known.Known.{Known}
use Rattle.cmm_static_semantics.specs.declared.known.Known.TheVariants.{Number, Symbol, Sum, Nothing}
use Rattle.cmm_static_semantics.specs.Senses.{Senses}
use Rattle.cmm_static_semantics.specs.Operators.{prefix_operator}
use Rattle.cmm_static_semantics.specs.Algebras.{Algebra, knowns}
use Rattle.cmm_static_semantics.specs.Judging.{Judged, faulty, with_ok, as_wanted}
use Rattle.cmm_static_semantics.specs.Typing.{operand_at, applied_to_one, literal, wanted}

-- what the rules ask for of an expression
abbrev pub Judgement : Type 0
Judgement = Judged (Typed Known (Unit {0}))

-- ---- what is wanted constant. What depends on a constant that is broken elsewhere breaks no rule itself.

-- 27: a compile-time constant is wanted
abbrev pub number_known : ℕ → Known → Judged ℕ
number_known token (Number value) = Ok value
number_known token _ = faulty NotAConstant token

-- 27: a link-time constant is wanted
abbrev pub constant_known : ℕ → Width → Known → Judged Constant
constant_known token width (Number value) = Ok (constants.Number value width)
constant_known token width (Symbol c) = Ok c
constant_known token width (Sum c) = Ok c
constant_known token width Nothing = faulty NotAConstant token

abbrev pub as_number : ℕ → Bits Known → Judged ℕ
as_number token x = elim x.value [ Some value ↦ number_known token value | None ↦ Err None ]

abbrev pub as_constant : ℕ → Bits Known → Judged Constant
as_constant token x = elim x.value [ Some value ↦ constant_known token x.width value | None ↦ Err None ]

-- ---- literals that stand alone

-- a literal without a type stands alone, or with a minus before it
pub data Alone : Type 0 where
  Plain : ℕ → Alone
  -- by the number of its own token
  Negative : ℕ → ℕ → Alone

abbrev pub prim_alone : PrimForm → Option ℕ
prim_alone (Literal (Int value) None) = Some value
prim_alone _ = None

abbrev pub form_alone : ExprForm → Option ℕ
form_alone (Prim prim) = prim_alone prim
form_alone _ = None

abbrev pub negative_alone : ℕ → Option ℕ → Option Alone
negative_alone token (Some value) = Some (Negative token value)
negative_alone token None = None

abbrev pub alone : ExprForm → Option Alone
alone (Prim prim) = elim (prim_alone prim) [ Some value ↦ Some (Plain value) | None ↦ None ]
alone (Prefix' Negate _ (more_of-Expr token form rest)) = negative_alone token (form_alone form)
alone _ = None

module _ {E C : Type 0} (algebra : Algebra E C) where
  -- 25: it takes the width that is wanted; with a minus the number itself has to fit
  abbrev pub alone_type : ℕ → Width → Alone → Judged (Typed E C)
  alone_type token width (Plain value) = literal algebra token value width
  alone_type token width (Negative own value) =
      with_ok (operand_at algebra own (literal algebra own value width)) (applied_to_one algebra (prefix_operator Negate) token)

  abbrev pub alone_or : Senses → Width → Expr → Option Alone → Judged (Bits E)
  alone_or names width e (Some a) = with_ok (alone_type e.token width a) (as_wanted (Some width) e.token)
  alone_or names width e None = wanted algebra names (Some width) e

  -- bits of this width are wanted where a literal that stands alone takes it
  abbrev pub wanted_alone : Senses → Option Width → Expr → Judged (Bits E)
  wanted_alone names None e = wanted algebra names None e
  wanted_alone names (Some width) e = alone_or names width e (alone e.form)

-- ---- the two kinds of constants, where a literal takes a width and where it doesn't

abbrev pub number_alone : Senses → Option Width → Expr → Judged ℕ
number_alone names width e = with_ok (wanted_alone knowns names width e) (as_number e.token)

abbrev pub constant_alone : Senses → Option Width → Expr → Judged Constant
constant_alone names width e = with_ok (wanted_alone knowns names width e) (as_constant e.token)

-- a compile-time constant of 64 bits
abbrev pub number_of : Senses → Expr → Judged ℕ
number_of names e = with_ok (wanted knowns names (Some W64) e) (as_number e.token)

-- a link-time constant of any width
abbrev pub constant_of : Senses → Expr → Judged Constant
constant_of names e = with_ok (wanted knowns names None e) (as_constant e.token)
