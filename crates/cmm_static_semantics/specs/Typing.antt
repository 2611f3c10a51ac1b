-- The types of expressions, where each name means what a function says, with what stands for their values (C-- Language Specification 2.0,
-- expressions).
use mathlib.Core.Former.{one_more}
use Rattle.std.specs.Prelude.{ℕ, ◌^◌, nat_lt, nat_le, Bool, true, false, option_map, Option, Some, None, Ok, Err}
use Rattle.cmm_words.specs.declared.width.Width.{Width}
use Rattle.cmm_words.specs.declared.width.Width.TheVariants.{W8, W64}
use Rattle.cmm_words.specs.declared.constant.Constant.TheVariants.{Number as NumberOf}
use Rattle.cmm_words.specs.declared.operators.Op1.{Op1}
use Rattle.cmm_words.specs.declared.operators.Op2.{Op2}
use Rattle.cmm_words.specs.declared.operators.Cmp.{Cmp}
use Rattle.cmm_words.specs.Widths.{bits, bytes}
use Rattle.cmm_ast.specs.declared.token.Int.{Int as IntTree}
use Rattle.cmm_ast.specs.declared.expression.Expr.{Expr}
use Rattle.cmm_ast.specs.declared.expression.ExprForm.{ExprForm, Row_of-Expr, end_of-Expr, more_of-Expr}
use Rattle.cmm_ast.specs.declared.expression.ExprForm.TheVariants.{Infix', Prefix', Prim, Memory as InMemory, Named'}
use Rattle.cmm_ast.specs.declared.expression.Number.{Number}
use Rattle.cmm_ast.specs.declared.expression.Number.TheVariants as number
use Rattle.cmm_ast.specs.declared.expression.PrimForm.{PrimForm}
use Rattle.cmm_ast.specs.declared.expression.PrimForm.TheVariants.{Literal, Name as NameOf, Bracketed'}
use Rattle.cmm_ast.specs.declared.expression.Primary.{Primary}
use Rattle.cmm_ast.specs.declared.expression.Memory.{Memory, Memory'}
use Rattle.cmm_ast.specs.declared.expression.TypeName.{TypeName}
use Rattle.cmm_ast.specs.declared.expression.TypeForm.TheVariants.{Bits as OfBits, Named as OfName}
use Rattle.cmm_rules.specs.declared.rule.Rule.TheVariants.{Undeclared, WidthsDiffer, LiteralDoesNotFit, UnknownOperator}
use Rattle.cmm_static_semantics.specs.declared.operator.Operator.{Operator}
use Rattle.cmm_static_semantics.specs.declared.operator.Operator.TheVariants.{Unary, Binary, Compare, Not, Conjoin, Disjoin, SignExtend, ZeroExtend, LowBits}
use Rattle.cmm_static_semantics.specs.declared.sense.Sense.{Sense}
use Rattle.cmm_static_semantics.specs.declared.sense.Sense.TheVariants.{Variable, Register, Value, Broken, Stackdata, Continuation, Typedef, CodeLabel, Host}
use Rattle.cmm_static_semantics.specs.Senses.{Senses, constant_width}
use Rattle.cmm_static_semantics.specs.Operators.{operator_named, infix_operator, prefix_operator}
use Rattle.cmm_static_semantics.specs.declared.judged.Bits.{Bits}
use Rattle.cmm_static_semantics.specs.declared.judged.Typed.{Typed}
use Rattle.cmm_static_semantics.specs.declared.judged.Typed.TheVariants as typed
use Rattle.cmm_static_semantics.specs.declared.judged.Operand.{Operand}
use Rattle.cmm_static_semantics.specs.declared.judged.Operands.{Operands}
use Rattle.cmm_static_semantics.specs.declared.judged.Operands.TheVariants as operands
use Rattle.cmm_static_semantics.specs.Algebras.{Algebra}
use Rattle.cmm_static_semantics.specs.Judging.{Judged, faulty, with_ok, with_both, as_wanted, of_width, bits_of, test_of}

abbrev pub with_values : {A B D : Type 0} → Option A → Option B → (A → B → D) → Option D
with_values (Some a) (Some b) made = Some (made a b)
with_values _ _ made = None

-- ---- types

-- 21: what stands as a type is no typedef
abbrev pub typedef_width : ℕ → Option Sense → Judged Width
typedef_width token (Some (Typedef (Some width))) = Ok width
typedef_width token (Some (Typedef None)) = Err None
typedef_width token _ = faulty Undeclared token

abbrev pub type_width : Senses → TypeName → Judged Width
type_width names t = elim t.form [ OfBits width ↦ Ok width | OfName name ↦ typedef_width t.token (names name) ]

-- ---- literals

abbrev pub number_value : Number → ℕ
number_value (number.Int value) = value
number_value (number.Char byte) = byte

-- the width of a literal without a type
abbrev pub number_width : Number → Width
number_width (number.Int value) = W64
number_width (number.Char byte) = W8

abbrev pub literal_width : Senses → Number → Option TypeName → Judged Width
literal_width names n None = Ok (number_width n)
literal_width names n (Some t) = type_width names t

-- a word in memory is aligned to its width, where it doesn't say to what
abbrev pub alignment : Width → Option IntTree → ℕ
alignment width None = bytes width
alignment width (Some k) = k.value

module _ {E C : Type 0} (algebra : Algebra E C) where
  -- ---- names

  abbrev pub word : Width → E → Judged (Typed E C)
  word width value = Ok (typed.Bits record { width = width; value = Some value })

  -- a variable or register whose width is broken is named where it is declared
  abbrev pub of_target : Option Width → (Width → E) → Judged (Typed E C)
  of_target (Some width) value = word width (value width)
  of_target None value = Err None

  abbrev pub of_broken : Option Width → Judged (Typed E C)
  of_broken (Some width) = Ok (typed.Bits record { width = width; value = None })
  of_broken None = Err None

  -- 21: no such name stands in an expression. A procedure of the host is bits64 and breaks a rule of its own; it is no constant.
  abbrev pub name_type : ℕ → Option Sense → Judged (Typed E C)
  name_type token (Some (Variable n width)) = of_target width (algebra.variable n)
  name_type token (Some (Register n width)) = of_target width (algebra.register n)
  name_type token (Some (Value known)) = word (constant_width known) (algebra.constant known)
  name_type token (Some (Broken width)) = of_broken width
  name_type token (Some (Stackdata n)) = word W64 (algebra.stackdata n)
  name_type token (Some (Continuation n)) = word W64 (algebra.continuation n)
  name_type token (Some (Host h)) = word W64 (algebra.continuation 0)
  name_type token (Some (Typedef width)) = faulty Undeclared token
  name_type token (Some CodeLabel) = faulty Undeclared token
  name_type token None = faulty Undeclared token

  -- 25: a literal fits its width
  abbrev pub literal : ℕ → ℕ → Width → Judged (Typed E C)
  literal token value width = elim (nat_lt value (2 ^ bits width)) [
    | true ↦ word width (algebra.constant (NumberOf value width))
    | false ↦ faulty LiteralDoesNotFit token
  ]

  abbrev pub literal_type : Senses → ℕ → Number → Option TypeName → Judged (Typed E C)
  literal_type names token n t = with_ok (literal_width names n t) (literal token (number_value n))

  -- ---- operators

  -- 24, 23: two operands of bits and of one width
  abbrev pub alike : Operand E C → Operand E C → (Bits E → Bits E → Judged (Typed E C)) → Judged (Typed E C)
  alike a b next = with_both (bits_of a) (bits_of b) (λ v w. with_ok (of_width v.width b.token w) (next v))

  abbrev pub unary : Op1 → Bits E → Typed E C
  unary op w = typed.Bits record { width = w.width; value = option_map (algebra.unary op w.width) w.value }

  abbrev pub binary : Op2 → Bits E → Bits E → Typed E C
  binary op v w = typed.Bits record { width = v.width; value = with_values v.value w.value (algebra.binary op v.width) }

  abbrev pub compared : Cmp → Bits E → Bits E → Typed E C
  compared cmp v w = typed.Test (with_values v.value w.value (algebra.compare cmp v.width))

  -- 23: to a width that the operand's allows
  abbrev pub converted : Bool → ℕ → Width → (Width → Width → E → E) → Bits E → Judged (Typed E C)
  converted allowed token to made w = elim allowed [
    | true ↦ Ok (typed.Bits record { width = to; value = option_map (made w.width to) w.value })
    | false ↦ faulty WidthsDiffer token
  ]

  abbrev pub extended : ℕ → Width → (Width → Width → E → E) → Bits E → Judged (Typed E C)
  extended token to made w = converted (nat_le (bits w.width) (bits to)) token to made w

  abbrev pub shortened : ℕ → Width → Bits E → Judged (Typed E C)
  shortened token to w = converted (nat_le (bits to) (bits w.width)) token to algebra.low_part w

  abbrev pub applied_to_one : Operator → ℕ → Operand E C → Judged (Typed E C)
  applied_to_one (Unary op) token a = with_ok (bits_of a) (λ w. Ok (unary op w))
  applied_to_one Not token a = with_ok (test_of a) (λ p. Ok (typed.Test (option_map algebra.negated p)))
  applied_to_one (SignExtend to) token a = with_ok (bits_of a) (extended a.token to algebra.sign_extend)
  applied_to_one (ZeroExtend to) token a = with_ok (bits_of a) (extended a.token to algebra.zero_extend)
  applied_to_one (LowBits to) token a = with_ok (bits_of a) (shortened a.token to)
  applied_to_one (Binary op) token a = faulty UnknownOperator token
  applied_to_one (Compare cmp) token a = faulty UnknownOperator token
  applied_to_one Conjoin token a = faulty UnknownOperator token
  applied_to_one Disjoin token a = faulty UnknownOperator token

  -- 24: two conditions
  abbrev pub both : (C → C → C) → Operand E C → Operand E C → Judged (Typed E C)
  both made a b = with_both (test_of a) (test_of b) (λ p q. Ok (typed.Test (with_values p q made)))

  abbrev pub applied_to_two : Operator → ℕ → Operand E C → Operand E C → Judged (Typed E C)
  applied_to_two (Binary op) token a b = alike a b (λ v w. Ok (binary op v w))
  applied_to_two (Compare cmp) token a b = alike a b (λ v w. Ok (compared cmp v w))
  applied_to_two Conjoin token a b = both algebra.conjoined a b
  applied_to_two Disjoin token a b = both algebra.disjoined a b
  applied_to_two (Unary op) token a b = faulty UnknownOperator token
  applied_to_two Not token a b = faulty UnknownOperator token
  applied_to_two (SignExtend to) token a b = faulty UnknownOperator token
  applied_to_two (ZeroExtend to) token a b = faulty UnknownOperator token
  applied_to_two (LowBits to) token a b = faulty UnknownOperator token

  -- 26: an operator has another number of operands, or is none
  abbrev pub applied : ℕ → Option Operator → Operands E C → Judged (Typed E C)
  applied token (Some operator) (operands.One a) = applied_to_one operator token a
  applied token (Some operator) (operands.Two a b) = applied_to_two operator token a b
  applied token (Some operator) operands.Zero = faulty UnknownOperator token
  applied token (Some operator) operands.More = faulty UnknownOperator token
  applied token None given = faulty UnknownOperator token

  abbrev pub given_with : Operands E C → Operand E C → Operands E C
  given_with operands.Zero o = operands.One o
  given_with (operands.One a) o = operands.Two a o
  given_with (operands.Two a b) o = operands.More
  given_with operands.More o = operands.More

  abbrev pub with_operand : Judged (Operands E C) → Judged (Operand E C) → Judged (Operands E C)
  with_operand given o = with_both given o (λ os a. Ok (given_with os a))

  -- ---- expressions

  -- 23: an address is bits64
  abbrev pub load : Option IntTree → Width → Operand E C → Judged (Typed E C)
  load aligned width address = with_ok (as_wanted (Some W64) address.token address.typed)
      (λ a. Ok (typed.Bits record { width = width; value = option_map (algebra.load width (alignment width aligned)) a.value }))

  abbrev pub operand_at : ℕ → Judged (Typed E C) → Judged (Operand E C)
  operand_at token judged = with_ok judged (λ t. Ok record { token = token; typed = t })

  module _ (names : Senses) where
    abbrev mutual
      pub form_type : ℕ → ExprForm → Judged (Typed E C)
      form_type token (Infix' _ left operator _ right) = with_both (operand left) (operand right) (applied_to_two (infix_operator operator) token)
      form_type token (Prefix' operator _ a) = with_ok (operand a) (applied_to_one (prefix_operator operator) token)
      form_type token (Prim prim) = prim_type token prim
      form_type token (InMemory m) = memory_type m
      form_type token (Named' operator _ given) = with_ok (given_operands (Ok operands.Zero) given) (applied token (operator_named operator))

      pub operand : {n : _} → Row_of-Expr (one_more n) → Judged (Operand E C)
      operand (more_of-Expr token form rest) = operand_at token (form_type token form)

      -- some operands, and those of a row after them
      pub given_operands : {n : _} → Judged (Operands E C) → Row_of-Expr n → Judged (Operands E C)
      given_operands before end_of-Expr = before
      given_operands before (more_of-Expr token form rest) = given_operands (with_operand before (operand_at token (form_type token form))) rest

      pub prim_type : ℕ → PrimForm → Judged (Typed E C)
      prim_type token (Literal n t) = literal_type names token n t
      prim_type token (NameOf name) = name_type token (names name)
      prim_type token (Bracketed' _ (more_of-Expr first form rest)) = form_type first form

      pub memory_type : Memory → Judged (Typed E C)
      memory_type (Memory' width _ address aligned) = with_both (type_width names width) (operand address) (load aligned)

    abbrev pub expr_type : Expr → Judged (Typed E C)
    expr_type e = form_type e.token e.form

    -- bits are wanted of an expression, of this width where there is one
    abbrev pub wanted : Option Width → Expr → Judged (Bits E)
    wanted width e = with_ok (expr_type e) (as_wanted width e.token)

-- a word in memory and a primary expression, as expressions
abbrev pub of_memory : ℕ → Memory → Expr
of_memory token m = record { token = token; form = InMemory m }

abbrev pub of_primary : Primary → Expr
of_primary p = record { token = p.token; form = Prim p.form }
