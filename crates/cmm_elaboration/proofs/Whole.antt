-- Where no name is broken, an expression is not either: it breaks a rule at a place, or something stands for its value.
use mathlib.Core.Former.{one_more}
use Rattle.std.proofs.Common.{ℕ, ◌^◌, List, Bool, true, false, Option, Some, None, Ok, Err}
use Rattle.std.specs.Prelude.{option_map, nat_lt, nat_le, ◌==◌}
use Rattle.cmm_words.specs.declared.width.Width.{Width}
use Rattle.cmm_words.specs.declared.width.Width.TheVariants.{W64}
use Rattle.cmm_words.specs.declared.constant.Constant.TheVariants.{Number as NumberOf}
use Rattle.cmm_words.specs.Widths.{bits}
use Rattle.cmm_ast.specs.declared.token.Ident.{Ident}
use Rattle.cmm_ast.specs.declared.expression.Expr.{Expr}
use Rattle.cmm_ast.specs.declared.expression.ExprForm.{ExprForm, Row_of-Expr, end_of-Expr, more_of-Expr}
use Rattle.cmm_ast.specs.declared.expression.ExprForm.TheVariants.{Infix', Prefix', Prim, Memory as InMemory, Named'}
use Rattle.cmm_ast.specs.declared.expression.Number.{Number}
use Rattle.cmm_ast.specs.declared.expression.PrimForm.{PrimForm}
use Rattle.cmm_ast.specs.declared.expression.PrimForm.TheVariants.{Literal, Name as NameOf, Bracketed'}
use Rattle.cmm_ast.specs.declared.expression.Memory.{Memory, Memory'}
use Rattle.cmm_ast.specs.declared.expression.TypeName.{TypeName}
use Rattle.cmm_ast.specs.declared.expression.TypeForm.{TypeForm}
use Rattle.cmm_ast.specs.declared.expression.TypeForm.TheVariants.{Bits as OfBits, Named as OfName}
use Rattle.cmm_rules.specs.declared.rule.Rule.TheVariants.{WidthsDiffer, LiteralDoesNotFit}
use Rattle.cmm_static_semantics.specs.declared.spot.Spot.{Spot}
use Rattle.cmm_static_semantics.specs.declared.operator.Operator.{Operator}
use Rattle.cmm_static_semantics.specs.declared.operator.Operator.TheVariants.{Unary, Binary, Compare, Not, Conjoin, Disjoin, SignExtend, ZeroExtend, LowBits}
use Rattle.cmm_static_semantics.specs.declared.sense.Sense.{Sense}
use Rattle.cmm_static_semantics.specs.declared.sense.Sense.TheVariants as meanings
use Rattle.cmm_static_semantics.specs.declared.judged.Bits.{Bits}
use Rattle.cmm_static_semantics.specs.declared.judged.Typed.{Typed}
use Rattle.cmm_static_semantics.specs.declared.judged.Typed.TheVariants as typed
use Rattle.cmm_static_semantics.specs.declared.judged.Operand.{Operand}
use Rattle.cmm_static_semantics.specs.declared.judged.Operands.{Operands}
use Rattle.cmm_static_semantics.specs.declared.judged.Operands.TheVariants as operands
use Rattle.cmm_static_semantics.specs.Spots.{comes_before}
use Rattle.cmm_static_semantics.specs.Senses.{Senses}
use Rattle.cmm_static_semantics.specs.Operators.{operator_named, infix_operator, prefix_operator}
use Rattle.cmm_static_semantics.specs.Algebras.{Algebra}
use Rattle.cmm_static_semantics.specs.Judging.{Judged, faulty, with_ok, with_both, as_bits, as_test, as_wanted, of_width, bits_of, test_of}
use Rattle.cmm_static_semantics.specs.Mentions.{values_alone, form_names, row_names, prim_names, memory_names, expr_names}
use Rattle.cmm_static_semantics.specs.Typing.{with_values, typedef_width, type_width, number_value, literal_width, alignment, name_type, literal, alike, unary, binary, compared, converted, extended, shortened, applied_to_one, applied_to_two, both, applied, given_with, with_operand, load, operand_at, form_type, operand, given_operands, prim_type, memory_type, expr_type, wanted}
use Rattle.cmm_static_semantics.specs.Constants.{Alone, Plain, Negative, alone, alone_type, alone_or, wanted_alone}
use Rattle.cmm_ast.specs.declared.expression.Prefix.TheVariants.{Negate}
use Rattle.cmm_elaboration.proofs.Wide.{IsWide}
use Rattle.cmm_elaboration.proofs.Mentioned.{EachName, each_left, each_right}

-- ---- a judgement that is no breach named elsewhere

abbrev pub Whole : {A : Type 0} → (A → Type 0) → Judged A → Type 0
Whole P (Ok a) = P a
Whole P (Err (Some s)) = Unit {0}
Whole P (Err None) = ⊥

abbrev pub Present : {A : Type 0} → Option A → Type 0
Present (Some a) = Unit {0}
Present None = ⊥

-- what a name means is no broken constant
abbrev pub IsUnbroken : Option Sense → Type 0
IsUnbroken (Some (meanings.Broken w)) = ⊥
IsUnbroken (Some (meanings.Variable n w)) = Unit {0}
IsUnbroken (Some (meanings.Register n w)) = Unit {0}
IsUnbroken (Some (meanings.Typedef w)) = Unit {0}
IsUnbroken (Some (meanings.Value c)) = Unit {0}
IsUnbroken (Some (meanings.Stackdata n)) = Unit {0}
IsUnbroken (Some (meanings.Continuation n)) = Unit {0}
IsUnbroken (Some meanings.CodeLabel) = Unit {0}
IsUnbroken (Some (meanings.Host h)) = Unit {0}
IsUnbroken None = Unit {0}

pub whole_with : {A B : Type 0} (P : A → Type 0) (Q : B → Type 0) (j : Judged A) (next : A → Judged B) → Whole P j → ((a : A) → P a → Whole Q (next a)) → Whole Q (with_ok j next)
whole_with P Q (Ok a) next h each = each a h
whole_with P Q (Err (Some s)) next h each = tt
whole_with P Q (Err None) next h each = h

one_of : {A : Type 0} (P : A → Type 0) (b : Bool) (s t : Spot) → Whole P (Err (elim b as (λ x. Option Spot) [ true ↦ Some s | false ↦ Some t ]))
one_of P true s t = tt
one_of P false s t = tt

pub whole_both : {A B C : Type 0} (P : A → Type 0) (Q : B → Type 0) (R : C → Type 0) (i : Judged A) (j : Judged B) (next : A → B → Judged C) →
    Whole P i → Whole Q j → ((a : A) (b : B) → P a → Q b → Whole R (next a b)) → Whole R (with_both i j next)
whole_both P Q R (Ok a) (Ok b) next h k each = each a b h k
whole_both P Q R (Ok a) (Err (Some s)) next h k each = tt
whole_both P Q R (Ok a) (Err None) next h k each = k
whole_both P Q R (Err (Some s)) (Ok b) next h k each = tt
whole_both P Q R (Err None) (Ok b) next h k each = h
whole_both P Q R (Err (Some s)) (Err (Some t)) next h k each = one_of R (comes_before t s) t s
whole_both P Q R (Err (Some s)) (Err None) next h k each = absurd k
whole_both P Q R (Err None) (Err y) next h k each = absurd h

present_map : {A B : Type 0} (f : A → B) (o : Option A) → Present o → Present (option_map f o)
present_map f (Some a) h = tt
present_map f None h = h

present_both : {A B C : Type 0} (o : Option A) (p : Option B) (made : A → B → C) → Present o → Present p → Present (with_values o p made)
present_both (Some a) (Some b) made h k = tt
present_both (Some a) None made h k = k
present_both None p made h k = absurd h

-- ---- types

typedef_whole : (token : ℕ) (sense : Option Sense) → IsWide sense → Whole (λ w. Unit {0}) (typedef_width token sense)
typedef_whole token (Some (meanings.Typedef (Some w))) h = tt
typedef_whole token (Some (meanings.Typedef None)) h = h
typedef_whole token (Some (meanings.Variable n w)) h = tt
typedef_whole token (Some (meanings.Register n w)) h = tt
typedef_whole token (Some (meanings.Value c)) h = tt
typedef_whole token (Some (meanings.Broken w)) h = tt
typedef_whole token (Some (meanings.Stackdata n)) h = tt
typedef_whole token (Some (meanings.Continuation n)) h = tt
typedef_whole token (Some meanings.CodeLabel) h = tt
typedef_whole token (Some (meanings.Host x)) h = tt
typedef_whole token None h = tt

type_by : (names : Senses) → ((name : List ℕ) → IsWide (names name)) → (form : TypeForm) (token : ℕ) → Whole (λ w. Unit {0}) (type_width names record { token = token; form = form })
type_by names wide (OfBits w) token = tt
type_by names wide (OfName n) token = typedef_whole token (names n) (wide n)

pub type_whole : (names : Senses) → ((name : List ℕ) → IsWide (names name)) → (t : TypeName) → Whole (λ w. Unit {0}) (type_width names t)
type_whole names wide t = type_by names wide t.form t.token

literal_type_whole : (names : Senses) → ((name : List ℕ) → IsWide (names name)) → (n : Number) (t : Option TypeName) → Whole (λ w. Unit {0}) (literal_width names n t)
literal_type_whole names wide n None = tt
literal_type_whole names wide n (Some t) = type_whole names wide t

-- ---- the judgement

module _ {E C : Type 0} (algebra : Algebra E C) where
  abbrev pub BitsWhole : Bits E → Type 0
  BitsWhole x = Present x.value

  abbrev pub TypedWhole : Typed E C → Type 0
  TypedWhole (typed.Bits x) = BitsWhole x
  TypedWhole (typed.Test c) = Present c

  abbrev pub OperandWhole : Operand E C → Type 0
  OperandWhole o = TypedWhole o.typed

  abbrev OperandsWhole : Operands E C → Type 0
  OperandsWhole operands.Zero = Unit {0}
  OperandsWhole (operands.One a) = OperandWhole a
  OperandsWhole (operands.Two a b) = OperandWhole a × OperandWhole b
  OperandsWhole operands.More = Unit {0}

  pub bits_whole : (token : ℕ) (t : Typed E C) → TypedWhole t → Whole BitsWhole (as_bits token t)
  bits_whole token (typed.Bits x) h = h
  bits_whole token (typed.Test c) h = tt

  pub test_whole : (token : ℕ) (t : Typed E C) → TypedWhole t → Whole Present (as_test token t)
  test_whole token (typed.Bits x) h = tt
  test_whole token (typed.Test c) h = h

  by_width : (token : ℕ) (x : Bits E) (b : Bool) → BitsWhole x → Whole BitsWhole (elim b as (λ y. Judged (Bits E)) [ true ↦ Ok x | false ↦ faulty WidthsDiffer token ])
  by_width token x true h = h
  by_width token x false h = tt

  width_whole : (wanted : Width) (token : ℕ) (x : Bits E) → BitsWhole x → Whole BitsWhole (of_width wanted token x)
  width_whole wanted token x h = by_width token x (bits x.width == bits wanted) h

  pub wanted_whole : (wanted : Option Width) (token : ℕ) (t : Typed E C) → TypedWhole t → Whole BitsWhole (as_wanted wanted token t)
  wanted_whole None token t h = bits_whole token t h
  wanted_whole (Some w) token t h = whole_with BitsWhole BitsWhole (as_bits token t) (of_width w token) (bits_whole token t h) (width_whole w token)

  -- ---- operators

  alike_whole : (a b : Operand E C) (next : Bits E → Bits E → Judged (Typed E C)) → OperandWhole a → OperandWhole b →
      ((v w : Bits E) → BitsWhole v → BitsWhole w → Whole TypedWhole (next v w)) → Whole TypedWhole (alike algebra a b next)
  alike_whole a b next h k each =
      whole_both BitsWhole BitsWhole TypedWhole (bits_of a) (bits_of b) (λ v w. with_ok (of_width v.width b.token w) (next v))
      (bits_whole a.token a.typed h) (bits_whole b.token b.typed k)
      (λ v w x y. whole_with BitsWhole TypedWhole (of_width v.width b.token w) (next v) (width_whole v.width b.token w y) (λ u z. each v u x z))

  converted_whole : (allowed : Bool) (token : ℕ) (to : Width) (made : Width → Width → E → E) (w : Bits E) → BitsWhole w → Whole TypedWhole (converted algebra allowed token to made w)
  converted_whole true token to made w h = present_map (made w.width to) w.value h
  converted_whole false token to made w h = tt

  one_whole : (o : Operator) (token : ℕ) (a : Operand E C) → OperandWhole a → Whole TypedWhole (applied_to_one algebra o token a)
  one_whole (Unary op) token a h = whole_with BitsWhole TypedWhole (bits_of a) (λ w. Ok (unary algebra op w)) (bits_whole a.token a.typed h) (λ w x. present_map (algebra.unary op w.width) w.value x)
  one_whole Not token a h = whole_with Present TypedWhole (test_of a) (λ p. Ok (typed.Test (option_map algebra.negated p))) (test_whole a.token a.typed h) (λ p x. present_map algebra.negated p x)
  one_whole (SignExtend to) token a h = whole_with BitsWhole TypedWhole (bits_of a) (extended algebra a.token to algebra.sign_extend) (bits_whole a.token a.typed h)
      (λ w x. converted_whole (nat_le (bits w.width) (bits to)) a.token to algebra.sign_extend w x)
  one_whole (ZeroExtend to) token a h = whole_with BitsWhole TypedWhole (bits_of a) (extended algebra a.token to algebra.zero_extend) (bits_whole a.token a.typed h)
      (λ w x. converted_whole (nat_le (bits w.width) (bits to)) a.token to algebra.zero_extend w x)
  one_whole (LowBits to) token a h = whole_with BitsWhole TypedWhole (bits_of a) (shortened algebra a.token to) (bits_whole a.token a.typed h)
      (λ w x. converted_whole (nat_le (bits to) (bits w.width)) a.token to algebra.low_part w x)
  one_whole (Binary op) token a h = tt
  one_whole (Compare cmp) token a h = tt
  one_whole Conjoin token a h = tt
  one_whole Disjoin token a h = tt

  both_whole : (made : C → C → C) (a b : Operand E C) → OperandWhole a → OperandWhole b → Whole TypedWhole (both algebra made a b)
  both_whole made a b h k =
      whole_both Present Present TypedWhole (test_of a) (test_of b) (λ p q. Ok (typed.Test (with_values p q made))) (test_whole a.token a.typed h) (test_whole b.token b.typed k)
      (λ p q x y. present_both p q made x y)

  two_whole : (o : Operator) (token : ℕ) (a b : Operand E C) → OperandWhole a → OperandWhole b → Whole TypedWhole (applied_to_two algebra o token a b)
  two_whole (Binary op) token a b h k = alike_whole a b (λ v w. Ok (binary algebra op v w)) h k (λ v w x y. present_both v.value w.value (algebra.binary op v.width) x y)
  two_whole (Compare cmp) token a b h k = alike_whole a b (λ v w. Ok (compared algebra cmp v w)) h k (λ v w x y. present_both v.value w.value (algebra.compare cmp v.width) x y)
  two_whole Conjoin token a b h k = both_whole algebra.conjoined a b h k
  two_whole Disjoin token a b h k = both_whole algebra.disjoined a b h k
  two_whole (Unary op) token a b h k = tt
  two_whole Not token a b h k = tt
  two_whole (SignExtend to) token a b h k = tt
  two_whole (ZeroExtend to) token a b h k = tt
  two_whole (LowBits to) token a b h k = tt

  pub applied_whole : (token : ℕ) (o : Option Operator) (given : Operands E C) → OperandsWhole given → Whole TypedWhole (applied algebra token o given)
  applied_whole token (Some o) (operands.One a) h = one_whole o token a h
  applied_whole token (Some o) (operands.Two a b) h = two_whole o token a b h.0 h.1
  applied_whole token (Some o) operands.Zero h = tt
  applied_whole token (Some o) operands.More h = tt
  applied_whole token None given h = tt

  given_whole : (given : Operands E C) (o : Operand E C) → OperandsWhole given → OperandWhole o → OperandsWhole (given_with algebra given o)
  given_whole operands.Zero o h k = k
  given_whole (operands.One a) o h k = (h, k)
  given_whole (operands.Two a b) o h k = tt
  given_whole operands.More o h k = tt

  with_operand_whole : (given : Judged (Operands E C)) (o : Judged (Operand E C)) → Whole OperandsWhole given → Whole OperandWhole o → Whole OperandsWhole (with_operand algebra given o)
  with_operand_whole given o h k = whole_both OperandsWhole OperandWhole OperandsWhole given o (λ os a. Ok (given_with algebra os a)) h k given_whole

  pub operand_at_whole : (token : ℕ) (j : Judged (Typed E C)) → Whole TypedWhole j → Whole OperandWhole (operand_at algebra token j)
  operand_at_whole token j h = whole_with TypedWhole OperandWhole j (λ t. Ok record { token = token; typed = t }) h (λ t x. x)

  -- ---- leaves

  by_fitting : (token value : ℕ) (width : Width) (b : Bool) →
      Whole TypedWhole (elim b as (λ x. Judged (Typed E C)) [ true ↦ Ok (typed.Bits record { width = width; value = Some (algebra.constant (NumberOf value width)) }) | false ↦ faulty LiteralDoesNotFit token ])
  by_fitting token value width true = tt
  by_fitting token value width false = tt

  pub literal_whole : (token value : ℕ) (width : Width) → Whole TypedWhole (literal algebra token value width)
  literal_whole token value width = by_fitting token value width (nat_lt value (2 ^ bits width))

  pub name_whole : (token : ℕ) (sense : Option Sense) → IsWide sense → IsUnbroken sense → Whole TypedWhole (name_type algebra token sense)
  name_whole token (Some (meanings.Variable n (Some w))) h k = tt
  name_whole token (Some (meanings.Variable n None)) h k = h
  name_whole token (Some (meanings.Register n (Some w))) h k = tt
  name_whole token (Some (meanings.Register n None)) h k = h
  name_whole token (Some (meanings.Value c)) h k = tt
  name_whole token (Some (meanings.Broken w)) h k = absurd k
  name_whole token (Some (meanings.Stackdata n)) h k = tt
  name_whole token (Some (meanings.Continuation n)) h k = tt
  name_whole token (Some (meanings.Typedef w)) h k = tt
  name_whole token (Some meanings.CodeLabel) h k = tt
  name_whole token (Some (meanings.Host x)) h k = tt
  name_whole token None h k = tt

  alone_whole : (token : ℕ) (width : Width) (a : Alone) → Whole TypedWhole (alone_type algebra token width a)
  alone_whole token width (Plain value) = literal_whole token value width
  alone_whole token width (Negative own value) =
      whole_with OperandWhole TypedWhole (operand_at algebra own (literal algebra own value width)) (applied_to_one algebra (prefix_operator Negate) token)
      (operand_at_whole own (literal algebra own value width) (literal_whole own value width)) (one_whole (prefix_operator Negate) token)

  -- ---- expressions

  module _ (names : Senses) (wide : (name : List ℕ) → IsWide (names name)) where
    abbrev pub IsGood : Ident → Type 0
    IsGood i = IsUnbroken (names i.name)

    mutual
      form_whole : (token : ℕ) (f : ExprForm) → EachName IsGood (form_names values_alone token f) → Whole TypedWhole (form_type algebra names token f)
      form_whole token (Infix' _ left o _ right) h =
          whole_both OperandWhole OperandWhole TypedWhole (operand algebra names left) (operand algebra names right) (applied_to_two algebra (infix_operator o) token)
          (row_whole left (each_left IsGood (row_names values_alone left) (row_names values_alone right) h))
          (row_whole right (each_right IsGood (row_names values_alone left) (row_names values_alone right) h)) (two_whole (infix_operator o) token)
      form_whole token (Prefix' o _ a) h =
          whole_with OperandWhole TypedWhole (operand algebra names a) (applied_to_one algebra (prefix_operator o) token) (row_whole a h) (one_whole (prefix_operator o) token)
      form_whole token (Prim prim) h = prim_whole token prim h
      form_whole token (InMemory m) h = memory_whole m h
      form_whole token (Named' o _ given) h =
          whole_with OperandsWhole TypedWhole (given_operands algebra names (Ok operands.Zero) given) (applied algebra token (operator_named o))
          (rest_whole (Ok operands.Zero) given tt h) (applied_whole token (operator_named o))

      row_whole : {n : _} (row : Row_of-Expr (one_more n)) → EachName IsGood (row_names values_alone row) → Whole OperandWhole (operand algebra names row)
      row_whole (more_of-Expr token form rest) h =
          operand_at_whole token (form_type algebra names token form) (form_whole token form (each_left IsGood (form_names values_alone token form) (row_names values_alone rest) h))

      rest_whole : {n : _} (before : Judged (Operands E C)) (row : Row_of-Expr n) → Whole OperandsWhole before → EachName IsGood (row_names values_alone row) →
          Whole OperandsWhole (given_operands algebra names before row)
      rest_whole before end_of-Expr h k = h
      rest_whole before (more_of-Expr token form rest) h k =
          rest_whole (with_operand algebra before (operand_at algebra token (form_type algebra names token form))) rest
          (with_operand_whole before (operand_at algebra token (form_type algebra names token form)) h
          (operand_at_whole token (form_type algebra names token form) (form_whole token form (each_left IsGood (form_names values_alone token form) (row_names values_alone rest) k))))
          (each_right IsGood (form_names values_alone token form) (row_names values_alone rest) k)

      prim_whole : (token : ℕ) (prim : PrimForm) → EachName IsGood (prim_names values_alone token prim) → Whole TypedWhole (prim_type algebra names token prim)
      prim_whole token (Literal n t) h =
          whole_with (λ w. Unit {0}) TypedWhole (literal_width names n t) (literal algebra token (number_value n)) (literal_type_whole names wide n t) (λ w x. literal_whole token (number_value n) w)
      prim_whole token (NameOf name) h = name_whole token (names name) (wide name) h.0
      prim_whole token (Bracketed' _ (more_of-Expr first form rest)) h = form_whole first form (each_left IsGood (form_names values_alone first form) (row_names values_alone rest) h)

      memory_whole : (m : Memory) → EachName IsGood (memory_names values_alone m) → Whole TypedWhole (memory_type algebra names m)
      memory_whole (Memory' width _ address aligned) h =
          whole_both (λ w. Unit {0}) OperandWhole TypedWhole (type_width names width) (operand algebra names address) (load algebra aligned) (type_whole names wide width) (row_whole address h)
          (λ w o x y. whole_with BitsWhole TypedWhole (as_wanted (Some W64) o.token o.typed)
          (λ a. Ok (typed.Bits record { width = w; value = option_map (algebra.load w (alignment w aligned)) a.value }))
          (wanted_whole (Some W64) o.token o.typed y) (λ a z. present_map (algebra.load w (alignment w aligned)) a.value z))

    pub expression_whole : (e : Expr) → EachName IsGood (expr_names values_alone e) → Whole TypedWhole (expr_type algebra names e)
    expression_whole e h = form_whole e.token e.form h

    -- and so what is wanted of it, whether a literal takes the width or not
    pub bits_wanted_whole : (width : Option Width) (e : Expr) → EachName IsGood (expr_names values_alone e) → Whole BitsWhole (wanted algebra names width e)
    bits_wanted_whole width e h = whole_with TypedWhole BitsWhole (expr_type algebra names e) (as_wanted width e.token) (expression_whole e h) (wanted_whole width e.token)

    alone_or_whole : (width : Width) (e : Expr) (o : Option Alone) → EachName IsGood (expr_names values_alone e) → Whole BitsWhole (alone_or algebra names width e o)
    alone_or_whole width e (Some a) h = whole_with TypedWhole BitsWhole (alone_type algebra e.token width a) (as_wanted (Some width) e.token) (alone_whole e.token width a) (wanted_whole (Some width) e.token)
    alone_or_whole width e None h = bits_wanted_whole (Some width) e h

    pub wanted_alone_whole : (width : Option Width) (e : Expr) → EachName IsGood (expr_names values_alone e) → Whole BitsWhole (wanted_alone algebra names width e)
    wanted_alone_whole None e h = bits_wanted_whole None e h
    wanted_alone_whole (Some width) e h = alone_or_whole width e (alone e.form) h
