-- Where each name that is declared has its width and each constant its value, nothing in an expression is broken elsewhere.
use mathlib.Core.Former.{one_more}
use Rattle.std.proofs.Common.{ℕ, Bool, true, false, List, Option, Some, None}
use Rattle.std.specs.Prelude.{◌==◌, ◌^◌, nat_lt, nat_le, option_map, Ok, Err}
use Rattle.cmm_words.specs.declared.width.Width.{Width}
use Rattle.cmm_words.specs.declared.width.Width.TheVariants.{W64}
use Rattle.cmm_words.specs.declared.constant.Constant.TheVariants.{Number as NumberOf}
use Rattle.cmm_words.specs.Widths.{bits}
use Rattle.cmm_ast.specs.declared.token.Int.{Int}
use Rattle.cmm_ast.specs.declared.expression.Expr.{Expr}
use Rattle.cmm_ast.specs.declared.expression.ExprForm.{ExprForm, Row_of-Expr, end_of-Expr, more_of-Expr}
use Rattle.cmm_ast.specs.declared.expression.ExprForm.TheVariants.{Infix', Prefix', Prim, Memory as InMemory, Named'}
use Rattle.cmm_ast.specs.declared.expression.Number.{Number}
use Rattle.cmm_ast.specs.declared.expression.PrimForm.{PrimForm}
use Rattle.cmm_ast.specs.declared.expression.PrimForm.TheVariants.{Literal, Name as NameOf, Bracketed'}
use Rattle.cmm_ast.specs.declared.expression.Memory.{Memory, Memory'}
use Rattle.cmm_ast.specs.declared.expression.TypeName.{TypeName}
use Rattle.cmm_ast.specs.declared.expression.TypeForm.{TypeForm}
use Rattle.cmm_ast.specs.declared.expression.TypeForm.TheVariants.{Bits as OfBits, Named as OfName}
use Rattle.cmm_rules.specs.declared.rule.Rule.TheVariants.{WidthsDiffer, LiteralDoesNotFit}
use Rattle.cmm_static_semantics.specs.declared.judged.Bits.{Bits}
use Rattle.cmm_static_semantics.specs.declared.judged.Typed.{Typed}
use Rattle.cmm_static_semantics.specs.declared.judged.Typed.TheVariants as typed
use Rattle.cmm_static_semantics.specs.declared.judged.Operand.{Operand}
use Rattle.cmm_static_semantics.specs.declared.judged.Operands.{Operands}
use Rattle.cmm_static_semantics.specs.declared.judged.Operands.TheVariants as operands
use Rattle.cmm_static_semantics.specs.declared.operator.Operator.{Operator}
use Rattle.cmm_static_semantics.specs.declared.operator.Operator.TheVariants.{Unary, Binary, Compare, Not, Conjoin, Disjoin, SignExtend, ZeroExtend, LowBits}
use Rattle.cmm_static_semantics.specs.declared.sense.Sense.{Sense}
use Rattle.cmm_static_semantics.specs.declared.sense.Sense.TheVariants.{Variable, Register, Value, Broken, Stackdata, Continuation, Typedef, CodeLabel, Host}
use Rattle.cmm_static_semantics.specs.declared.spot.Spot.{Spot}
use Rattle.cmm_static_semantics.specs.Spots.{comes_before, sooner}
use Rattle.cmm_static_semantics.specs.Senses.{Senses}
use Rattle.cmm_static_semantics.specs.Operators.{infix_operator, prefix_operator, operator_named}
use Rattle.cmm_static_semantics.specs.Algebras.{Algebra}
use Rattle.cmm_static_semantics.specs.Judging.{Judged, faulty, with_ok, with_both, as_bits, as_test, of_width, as_wanted, bits_of, test_of}
use Rattle.cmm_static_semantics.specs.Typing as typing

-- ---- judgements in which nothing is broken elsewhere

abbrev pub Whole : {A : Type 0} → (A → Type 0) → Judged A → Type 0
Whole good (Ok a) = good a
Whole good (Err (Some s)) = Unit {0}
Whole good (Err None) = ⊥

abbrev pub Always : {A : Type 0} → A → Type 0
Always a = Unit {0}

abbrev pub HasValue : {A : Type 0} → Option A → Type 0
HasValue (Some a) = Unit {0}
HasValue None = ⊥

same_fault : {A B : Type 0} (p : A → Type 0) (q : B → Type 0) (broken : Option Spot) → Whole p (Err broken) → Whole q (Err broken)
same_fault p q (Some s) w = tt
same_fault p q None w = absurd w

pub whole_ok : {A B : Type 0} (p : A → Type 0) (q : B → Type 0) (j : Judged A) (next : A → Judged B) →
    Whole p j → ((a : A) → p a → Whole q (next a)) → Whole q (with_ok j next)
whole_ok p q (Ok a) next w goes_on = goes_on a w
whole_ok p q (Err broken) next w goes_on = same_fault p q broken w

sooner_whole : {A : Type 0} (q : A → Type 0) (a b : Option Spot) → Whole q (Err a) → Whole q (Err b) → Whole q (Err (sooner a b))
sooner_whole q (Some a) (Some b) w v =
    elim (comes_before b a) as (λ t. Whole q (Err (elim t as (λ _. Option Spot) [ true ↦ Some b | false ↦ Some a ]))) [ true ↦ tt | false ↦ tt ]
sooner_whole q (Some a) None w v = absurd v
sooner_whole q None b w v = absurd w

pub whole_both : {A B D : Type 0} (p : A → Type 0) (q : B → Type 0) (r : D → Type 0) (j : Judged A) (k : Judged B) (next : A → B → Judged D) →
    Whole p j → Whole q k → ((a : A) (b : B) → p a → q b → Whole r (next a b)) → Whole r (with_both j k next)
whole_both p q r (Ok a) (Ok b) next w v goes_on = goes_on a b w v
whole_both p q r (Ok a) (Err b) next w v goes_on = same_fault q r b v
whole_both p q r (Err a) (Ok b) next w v goes_on = same_fault p r a w
whole_both p q r (Err a) (Err b) next w v goes_on = sooner_whole r a b (same_fault p r a w) (same_fault q r b v)

mapped : {A B : Type 0} (f : A → B) (o : Option A) → HasValue o → HasValue (option_map f o)
mapped f (Some a) w = tt
mapped f None w = absurd w

joined : {A B D : Type 0} (a : Option A) (b : Option B) (made : A → B → D) → HasValue a → HasValue b → HasValue (typing.with_values a b made)
joined (Some a) (Some b) made w v = tt
joined (Some a) None made w v = absurd v
joined None b made w v = absurd w

-- ---- names

abbrev pub WholeSense : Option Sense → Type 0
WholeSense (Some (Variable n width)) = HasValue width
WholeSense (Some (Register n width)) = HasValue width
WholeSense (Some (Broken width)) = ⊥
WholeSense (Some (Typedef width)) = HasValue width
WholeSense _ = Unit {0}

abbrev pub AreWhole : Senses → Type 0
AreWhole names = (name : List ℕ) → WholeSense (names name)

typedef_whole : (token : ℕ) (o : Option Sense) → WholeSense o → Whole Always (typing.typedef_width token o)
typedef_whole token (Some (Typedef (Some width))) w = tt
typedef_whole token (Some (Typedef None)) w = absurd w
typedef_whole token (Some (Variable n width)) w = tt
typedef_whole token (Some (Register n width)) w = tt
typedef_whole token (Some (Value c)) w = tt
typedef_whole token (Some (Broken width)) w = tt
typedef_whole token (Some (Stackdata n)) w = tt
typedef_whole token (Some (Continuation n)) w = tt
typedef_whole token (Some CodeLabel) w = tt
typedef_whole token (Some (Host h)) w = tt
typedef_whole token None w = tt

form_width : (names : Senses) (token : ℕ) (f : TypeForm) → AreWhole names →
    Whole Always (elim f as (λ _. Judged Width) [ OfBits width ↦ Ok width | OfName name ↦ typing.typedef_width token (names name) ])
form_width names token (OfBits width) w = tt
form_width names token (OfName name) w = typedef_whole token (names name) (w name)

width_whole : (names : Senses) (t : TypeName) → AreWhole names → Whole Always (typing.type_width names t)
width_whole names t w = form_width names t.token t.form w

literal_width_whole : (names : Senses) (n : Number) (t : Option TypeName) → AreWhole names → Whole Always (typing.literal_width names n t)
literal_width_whole names n None w = tt
literal_width_whole names n (Some t) w = width_whole names t w

-- ---- operators

abbrev pub WholeBits : {E : Type 0} → Bits E → Type 0
WholeBits x = HasValue x.value

abbrev pub WholeTyped : {E C : Type 0} → Typed E C → Type 0
WholeTyped (typed.Bits x) = HasValue x.value
WholeTyped (typed.Test c) = Unit {0}

abbrev pub WholeOperand : {E C : Type 0} → Operand E C → Type 0
WholeOperand o = WholeTyped o.typed

abbrev pub WholeOperands : {E C : Type 0} → Operands E C → Type 0
WholeOperands operands.Zero = Unit {0}
WholeOperands (operands.One a) = WholeOperand a
WholeOperands (operands.Two a b) = WholeOperand a × WholeOperand b
WholeOperands operands.More = Unit {0}

bits_whole : {E C : Type 0} (token : ℕ) (t : Typed E C) → WholeTyped t → Whole WholeBits (as_bits token t)
bits_whole token (typed.Bits x) w = w
bits_whole token (typed.Test c) w = tt

test_whole : {E C : Type 0} (token : ℕ) (t : Typed E C) → Whole Always (as_test token t)
test_whole token (typed.Bits x) = tt
test_whole token (typed.Test c) = tt

of_width_whole : {E : Type 0} (wanted : Width) (token : ℕ) (x : Bits E) → WholeBits x → Whole WholeBits (of_width wanted token x)
of_width_whole {E = E} wanted token x w =
    elim (bits x.width == bits wanted) as (λ t. Whole WholeBits (elim t as (λ _. Judged (Bits E)) [ true ↦ Ok x | false ↦ faulty WidthsDiffer token ])) [ true ↦ w | false ↦ tt ]

pub wanted_whole : {E C : Type 0} (wanted : Option Width) (token : ℕ) (t : Typed E C) → WholeTyped t → Whole WholeBits (as_wanted wanted token t)
wanted_whole None token t w = bits_whole token t w
wanted_whole (Some wanted) token t w = whole_ok WholeBits WholeBits (as_bits token t) (of_width wanted token) (bits_whole token t w) (of_width_whole wanted token)

module _ {E C : Type 0} (algebra : Algebra E C) where
  alike_whole : (a b : Operand E C) (next : Bits E → Bits E → Judged (Typed E C)) → WholeOperand a → WholeOperand b →
      ((v w : Bits E) → WholeBits v → WholeBits w → Whole WholeTyped (next v w)) → Whole WholeTyped (typing.alike algebra a b next)
  alike_whole a b next wa wb goes_on =
      whole_both WholeBits WholeBits WholeTyped (bits_of a) (bits_of b) (λ v w. with_ok (of_width v.width b.token w) (next v))
      (bits_whole a.token a.typed wa) (bits_whole b.token b.typed wb)
      (λ v w wv ww. whole_ok WholeBits WholeTyped (of_width v.width b.token w) (next v) (of_width_whole v.width b.token w ww) (λ x wx. goes_on v x wv wx))

  converted_whole : (allowed : Bool) (token : ℕ) (to : Width) (made : Width → Width → E → E) (w : Bits E) → WholeBits w →
      Whole WholeTyped (typing.converted algebra allowed token to made w)
  converted_whole true token to made w good = mapped (made w.width to) w.value good
  converted_whole false token to made w good = tt

  on_bits : (a : Operand E C) (next : Bits E → Judged (Typed E C)) → WholeOperand a → ((w : Bits E) → WholeBits w → Whole WholeTyped (next w)) →
      Whole WholeTyped (with_ok (bits_of a) next)
  on_bits a next wa goes_on = whole_ok WholeBits WholeTyped (bits_of a) next (bits_whole a.token a.typed wa) goes_on

  one_whole : (operator : Operator) (token : ℕ) (a : Operand E C) → WholeOperand a → Whole WholeTyped (typing.applied_to_one algebra operator token a)
  one_whole (Unary op) token a w = on_bits a (λ v. Ok (typing.unary algebra op v)) w (λ v wv. mapped (algebra.unary op v.width) v.value wv)
  one_whole Not token a w = whole_ok Always WholeTyped (test_of a) (λ p. Ok (typed.Test (option_map algebra.negated p))) (test_whole a.token a.typed) (λ p wp. tt)
  one_whole (SignExtend to) token a w = on_bits a (typing.extended algebra a.token to algebra.sign_extend) w
      (λ v wv. converted_whole (nat_le (bits v.width) (bits to)) a.token to algebra.sign_extend v wv)
  one_whole (ZeroExtend to) token a w = on_bits a (typing.extended algebra a.token to algebra.zero_extend) w
      (λ v wv. converted_whole (nat_le (bits v.width) (bits to)) a.token to algebra.zero_extend v wv)
  one_whole (LowBits to) token a w = on_bits a (typing.shortened algebra a.token to) w
      (λ v wv. converted_whole (nat_le (bits to) (bits v.width)) a.token to algebra.low_part v wv)
  one_whole (Binary op) token a w = tt
  one_whole (Compare cmp) token a w = tt
  one_whole Conjoin token a w = tt
  one_whole Disjoin token a w = tt

  both_whole : (made : C → C → C) (a b : Operand E C) → Whole WholeTyped (typing.both algebra made a b)
  both_whole made a b = whole_both Always Always WholeTyped (test_of a) (test_of b) (λ p q. Ok (typed.Test (typing.with_values p q made)))
      (test_whole a.token a.typed) (test_whole b.token b.typed) (λ p q wp wq. tt)

  two_whole : (operator : Operator) (token : ℕ) (a b : Operand E C) → WholeOperand a → WholeOperand b →
      Whole WholeTyped (typing.applied_to_two algebra operator token a b)
  two_whole (Binary op) token a b wa wb = alike_whole a b (λ v w. Ok (typing.binary algebra op v w)) wa wb (λ v w wv ww. joined v.value w.value (algebra.binary op v.width) wv ww)
  two_whole (Compare cmp) token a b wa wb = alike_whole a b (λ v w. Ok (typing.compared algebra cmp v w)) wa wb (λ v w wv ww. tt)
  two_whole Conjoin token a b wa wb = both_whole algebra.conjoined a b
  two_whole Disjoin token a b wa wb = both_whole algebra.disjoined a b
  two_whole (Unary op) token a b wa wb = tt
  two_whole Not token a b wa wb = tt
  two_whole (SignExtend to) token a b wa wb = tt
  two_whole (ZeroExtend to) token a b wa wb = tt
  two_whole (LowBits to) token a b wa wb = tt

  applied_whole : (token : ℕ) (o : Option Operator) (given : Operands E C) → WholeOperands given → Whole WholeTyped (typing.applied algebra token o given)
  applied_whole token (Some operator) (operands.One a) w = one_whole operator token a w
  applied_whole token (Some operator) (operands.Two a b) w = two_whole operator token a b w.0 w.1
  applied_whole token (Some operator) operands.Zero w = tt
  applied_whole token (Some operator) operands.More w = tt
  applied_whole token None given w = tt

  given_whole : (given : Operands E C) (o : Operand E C) → WholeOperands given → WholeOperand o → WholeOperands (typing.given_with algebra given o)
  given_whole operands.Zero o w wo = wo
  given_whole (operands.One a) o w wo = (w, wo)
  given_whole (operands.Two a b) o w wo = tt
  given_whole operands.More o w wo = tt

  with_operand_whole : (given : Judged (Operands E C)) (o : Judged (Operand E C)) → Whole WholeOperands given → Whole WholeOperand o →
      Whole WholeOperands (typing.with_operand algebra given o)
  with_operand_whole given o w wo =
      whole_both WholeOperands WholeOperand WholeOperands given o (λ os a. Ok (typing.given_with algebra os a)) w wo (λ os a wos wa. given_whole os a wos wa)

  at_whole : (token : ℕ) (j : Judged (Typed E C)) → Whole WholeTyped j → Whole WholeOperand (typing.operand_at algebra token j)
  at_whole token j w = whole_ok WholeTyped WholeOperand j (λ t. Ok record { token = token; typed = t }) w (λ t wt. wt)

  load_whole : (aligned : Option Int) (width : Width) (a : Operand E C) → WholeOperand a → Whole WholeTyped (typing.load algebra aligned width a)
  load_whole aligned width a w = whole_ok WholeBits WholeTyped (as_wanted (Some W64) a.token a.typed)
      (λ x. Ok (typed.Bits record { width = width; value = option_map (algebra.load width (typing.alignment width aligned)) x.value }))
      (wanted_whole (Some W64) a.token a.typed w) (λ x wx. mapped (algebra.load width (typing.alignment width aligned)) x.value wx)

  -- ---- names and literals

  target_whole : (width : Option Width) (value : Width → E) → HasValue width → Whole WholeTyped (typing.of_target algebra width value)
  target_whole (Some width) value w = tt
  target_whole None value w = absurd w

  name_whole : (token : ℕ) (o : Option Sense) → WholeSense o → Whole WholeTyped (typing.name_type algebra token o)
  name_whole token (Some (Variable n width)) w = target_whole width (algebra.variable n) w
  name_whole token (Some (Register n width)) w = target_whole width (algebra.register n) w
  name_whole token (Some (Value c)) w = tt
  name_whole token (Some (Broken width)) w = absurd w
  name_whole token (Some (Stackdata n)) w = tt
  name_whole token (Some (Continuation n)) w = tt
  name_whole token (Some (Host h)) w = tt
  name_whole token (Some (Typedef width)) w = tt
  name_whole token (Some CodeLabel) w = tt
  name_whole token None w = tt

  fits_whole : (token value : ℕ) (width : Width) (fits : Bool) →
      Whole WholeTyped (elim fits as (λ _. Judged (Typed E C)) [
        | true ↦ typing.word algebra width (algebra.constant (NumberOf value width))
        | false ↦ faulty LiteralDoesNotFit token
      ])
  fits_whole token value width true = tt
  fits_whole token value width false = tt

  literal_whole : (names : Senses) (token : ℕ) (n : Number) (t : Option TypeName) → AreWhole names → Whole WholeTyped (typing.literal_type algebra names token n t)
  literal_whole names token n t w = whole_ok Always WholeTyped (typing.literal_width names n t) (typing.literal algebra token (typing.number_value n))
      (literal_width_whole names n t w) (λ width ww. fits_whole token (typing.number_value n) width (nat_lt (typing.number_value n) (2 ^ bits width)))

  -- ---- expressions

  mutual
    form_whole : (names : Senses) → AreWhole names → (token : ℕ) (form : ExprForm) → Whole WholeTyped (typing.form_type algebra names token form)
    form_whole names w token (Infix' _ left operator _ right) =
        whole_both WholeOperand WholeOperand WholeTyped (typing.operand algebra names left) (typing.operand algebra names right) (typing.applied_to_two algebra (infix_operator operator) token)
        (operand_whole names w left) (operand_whole names w right) (two_whole (infix_operator operator) token)
    form_whole names w token (Prefix' operator _ a) =
        whole_ok WholeOperand WholeTyped (typing.operand algebra names a) (typing.applied_to_one algebra (prefix_operator operator) token)
        (operand_whole names w a) (one_whole (prefix_operator operator) token)
    form_whole names w token (Prim prim) = prim_whole names w token prim
    form_whole names w token (InMemory m) = memory_whole names w m
    form_whole names w token (Named' operator _ given) =
        whole_ok WholeOperands WholeTyped (typing.given_operands algebra names (Ok operands.Zero) given) (typing.applied algebra token (operator_named operator))
        (given_operands_whole names w (Ok operands.Zero) given tt) (applied_whole token (operator_named operator))

    operand_whole : {n : _} (names : Senses) → AreWhole names → (row : Row_of-Expr (one_more n)) → Whole WholeOperand (typing.operand algebra names row)
    operand_whole names w (more_of-Expr token form rest) = at_whole token (typing.form_type algebra names token form) (form_whole names w token form)

    given_operands_whole : {n : _} (names : Senses) → AreWhole names → (before : Judged (Operands E C)) (row : Row_of-Expr n) → Whole WholeOperands before →
        Whole WholeOperands (typing.given_operands algebra names before row)
    given_operands_whole names w before end_of-Expr good = good
    given_operands_whole names w before (more_of-Expr token form rest) good =
        given_operands_whole names w (typing.with_operand algebra before (typing.operand_at algebra token (typing.form_type algebra names token form))) rest
        (with_operand_whole before (typing.operand_at algebra token (typing.form_type algebra names token form)) good
        (at_whole token (typing.form_type algebra names token form) (form_whole names w token form)))

    prim_whole : (names : Senses) → AreWhole names → (token : ℕ) (prim : PrimForm) → Whole WholeTyped (typing.prim_type algebra names token prim)
    prim_whole names w token (Literal n t) = literal_whole names token n t w
    prim_whole names w token (NameOf name) = name_whole token (names name) (w name)
    prim_whole names w token (Bracketed' _ (more_of-Expr first form rest)) = form_whole names w first form

    memory_whole : (names : Senses) → AreWhole names → (m : Memory) → Whole WholeTyped (typing.memory_type algebra names m)
    memory_whole names w (Memory' width _ address aligned) =
        whole_both Always WholeOperand WholeTyped (typing.type_width names width) (typing.operand algebra names address) (typing.load algebra aligned)
        (width_whole names width w) (operand_whole names w address) (λ x a wx wa. load_whole aligned x a wa)

  pub expr_whole : (names : Senses) → AreWhole names → (e : Expr) → Whole WholeTyped (typing.expr_type algebra names e)
  expr_whole names w e = form_whole names w e.token e.form
