-- What is judged of an expression that mentions a broken constant: it breaks a rule, or nothing stands for its value.
use mathlib.Core.Former.{one_more, none_left}
use Rattle.std.proofs.Common.{ℕ, List, [], ◌∷◌, ◌++◌, Bool, true, false, Option, Some, None, Ok, Err, ◌⊎◌, inl, inr, option_map}
use Rattle.std.specs.Prelude.{nat_le, ◌==◌}
use Rattle.cmm_words.specs.declared.width.Width.{Width}
use Rattle.cmm_words.specs.declared.width.Width.TheVariants.{W64}
use Rattle.cmm_words.specs.Widths.{bits}
use Rattle.cmm_rules.specs.declared.rule.Rule.TheVariants.{WidthsDiffer}
use Rattle.cmm_ast.specs.declared.token.Ident.{Ident}
use Rattle.cmm_ast.specs.declared.expression.Expr.{Expr}
use Rattle.cmm_ast.specs.declared.expression.ExprForm.{ExprForm, Row_of-Expr, end_of-Expr, more_of-Expr}
use Rattle.cmm_ast.specs.declared.expression.ExprForm.TheVariants.{Infix', Prefix', Prim, Memory as InMemory, Named'}
use Rattle.cmm_ast.specs.declared.expression.Number.{Number}
use Rattle.cmm_ast.specs.declared.token.Int.{Int}
use Rattle.cmm_ast.specs.declared.expression.PrimForm.{PrimForm}
use Rattle.cmm_ast.specs.declared.expression.PrimForm.TheVariants.{Literal, Name as NameOf, Bracketed'}
use Rattle.cmm_ast.specs.declared.expression.Memory.{Memory, Memory'}
use Rattle.cmm_static_semantics.specs.declared.operator.Operator.{Operator}
use Rattle.cmm_static_semantics.specs.declared.operator.Operator.TheVariants.{Unary, Binary, Compare, Not, Conjoin, Disjoin, SignExtend, ZeroExtend, LowBits}
use Rattle.cmm_static_semantics.specs.declared.sense.Sense.{Sense}
use Rattle.cmm_static_semantics.specs.declared.sense.Sense.TheVariants as meanings
use Rattle.cmm_static_semantics.specs.declared.judged.Bits.{Bits}
use Rattle.cmm_static_semantics.specs.declared.judged.Typed.{Typed}
use Rattle.cmm_static_semantics.specs.declared.judged.Typed.TheVariants as typed
use Rattle.cmm_static_semantics.specs.declared.judged.Operand.{Operand}
use Rattle.cmm_static_semantics.specs.declared.judged.Operands.{Operands}
use Rattle.cmm_static_semantics.specs.declared.judged.Operands.TheVariants as operands
use Rattle.cmm_static_semantics.specs.Senses.{Senses}
use Rattle.cmm_static_semantics.specs.Operators.{operator_named, infix_operator, prefix_operator}
use Rattle.cmm_static_semantics.specs.Algebras.{Algebra}
use Rattle.cmm_static_semantics.specs.Judging.{Judged, faulty, with_ok, as_bits, as_test, as_wanted, of_width, bits_of, test_of}
use Rattle.cmm_static_semantics.specs.Mentions.{values_alone, form_names, row_names, prim_names, memory_names, expr_names}
use Rattle.cmm_static_semantics.specs.Typing.{with_values, type_width, alignment, name_type, alike, unary, binary, compared, converted, extended, shortened, applied_to_one, applied_to_two, both, applied, given_with, with_operand, load, operand_at, form_type, operand, given_operands, prim_type, memory_type, expr_type, wanted}
use Rattle.cmm_ast.specs.declared.expression.TypeName.{TypeName}
use Rattle.cmm_elaboration.proofs.Shared.{Holds, holds_with, holds_both}

-- ---- some name of an expression

abbrev pub SomeName : (Ident → Type 0) → List Ident → Type 0
SomeName P [] = ⊥
SomeName P (i ∷ is) = P i ⊎ SomeName P is

pub some_parts : (P : Ident → Type 0) (is js : List Ident) → SomeName P (is ++ js) → SomeName P is ⊎ SomeName P js
some_parts P [] js h = inr h
some_parts P (i ∷ is) js (inl h) = inl (inl h)
some_parts P (i ∷ is) js (inr h) = elim (some_parts P is js h) [ inl left ↦ inl (inr left) | inr right ↦ inr right ]

either : {A B D : Type 0} → (A → D) → (B → D) → A ⊎ B → D
either f g (inl a) = f a
either f g (inr b) = g b

-- no row is behind the only expression
pub no_rest : (P : Ident → Type 0) (rest : Row_of-Expr none_left) → SomeName P (row_names values_alone rest) → ⊥
no_rest P end_of-Expr h = h

pub no_type : (P : Ident → Type 0) (token : ℕ) (n : Number) (t : Option TypeName) → SomeName P (prim_names values_alone token (Literal n t)) → ⊥
no_type P token n None h = h
no_type P token n (Some t) h = h

-- ---- what is lacking: a rule is broken, or nothing stands for the value. Where the broken constant has no width either, a rule is broken.

abbrev pub Soft : Bool → Type 0
Soft true = ⊥
Soft false = Unit {0}

-- a broken constant: without a width where that is asked for, else any
abbrev pub IsGone : Bool → Option Sense → Type 0
IsGone hard (Some (meanings.Broken None)) = Unit {0}
IsGone hard (Some (meanings.Broken (Some w))) = Soft hard
IsGone hard (Some (meanings.Variable n w)) = ⊥
IsGone hard (Some (meanings.Register n w)) = ⊥
IsGone hard (Some (meanings.Typedef w)) = ⊥
IsGone hard (Some (meanings.Value c)) = ⊥
IsGone hard (Some (meanings.Stackdata n)) = ⊥
IsGone hard (Some (meanings.Continuation n)) = ⊥
IsGone hard (Some meanings.CodeLabel) = ⊥
IsGone hard (Some (meanings.Host h)) = ⊥
IsGone hard None = ⊥

anything : {A : Type 0} (j : Judged A) → Holds (λ a. Unit {0}) j
anything (Ok a) = tt
anything (Err broken) = tt

module _ (hard : Bool) where
  abbrev pub Absent : {A : Type 0} → Option A → Type 0
  Absent (Some a) = ⊥
  Absent None = Soft hard

  absent_map : {A B : Type 0} (f : A → B) (o : Option A) → Absent o → Absent (option_map f o)
  absent_map f (Some a) h = absurd h
  absent_map f None h = h

  absent_left : {A B D : Type 0} (a : Option A) (b : Option B) (made : A → B → D) → Absent a → Absent (with_values a b made)
  absent_left (Some a) b made h = absurd h
  absent_left None b made h = h

  absent_right : {A B D : Type 0} (a : Option A) (b : Option B) (made : A → B → D) → Absent b → Absent (with_values a b made)
  absent_right a (Some b) made h = absurd h
  absent_right (Some a) None made h = h
  absent_right None None made h = h

  absent_either : {A B D : Type 0} (a : Option A) (b : Option B) (made : A → B → D) → Absent a ⊎ Absent b → Absent (with_values a b made)
  absent_either a b made (inl h) = absent_left a b made h
  absent_either a b made (inr h) = absent_right a b made h

  module _ {E C : Type 0} (algebra : Algebra E C) where
    abbrev pub BitsLack : Bits E → Type 0
    BitsLack x = Absent x.value

    abbrev pub TypedLacks : Typed E C → Type 0
    TypedLacks (typed.Bits x) = BitsLack x
    TypedLacks (typed.Test c) = Absent c

    abbrev OperandLacks : Operand E C → Type 0
    OperandLacks o = TypedLacks o.typed

    abbrev OperandsLack : Operands E C → Type 0
    OperandsLack operands.Zero = ⊥
    OperandsLack (operands.One a) = OperandLacks a
    OperandsLack (operands.Two a b) = OperandLacks a ⊎ OperandLacks b
    OperandsLack operands.More = Unit {0}

    bits_lack : (token : ℕ) (t : Typed E C) → TypedLacks t → Holds BitsLack (as_bits token t)
    bits_lack token (typed.Bits x) h = h
    bits_lack token (typed.Test c) h = tt

    test_lacks : (token : ℕ) (t : Typed E C) → TypedLacks t → Holds Absent (as_test token t)
    test_lacks token (typed.Bits x) h = tt
    test_lacks token (typed.Test c) h = h

    by_width : (token : ℕ) (x : Bits E) (b : Bool) → BitsLack x → Holds BitsLack (elim b as (λ y. Judged (Bits E)) [ true ↦ Ok x | false ↦ faulty WidthsDiffer token ])
    by_width token x true h = h
    by_width token x false h = tt

    width_lacks : (wanted : Width) (token : ℕ) (x : Bits E) → BitsLack x → Holds BitsLack (of_width wanted token x)
    width_lacks wanted token x h = by_width token x (bits x.width == bits wanted) h

    pub wanted_lacks : (wanted : Option Width) (token : ℕ) (t : Typed E C) → TypedLacks t → Holds BitsLack (as_wanted wanted token t)
    wanted_lacks None token t h = bits_lack token t h
    wanted_lacks (Some w) token t h = holds_with BitsLack BitsLack (as_bits token t) (of_width w token) (bits_lack token t h) (width_lacks w token)

    -- ---- operators

    alike_lacks : (a b : Operand E C) (next : Bits E → Bits E → Judged (Typed E C)) → ((v w : Bits E) → BitsLack v ⊎ BitsLack w → Holds TypedLacks (next v w)) →
        OperandLacks a ⊎ OperandLacks b → Holds TypedLacks (alike algebra a b next)
    alike_lacks a b next each (inl h) =
        holds_both BitsLack (λ w. Unit {0}) TypedLacks (bits_of a) (bits_of b) (λ v w. with_ok (of_width v.width b.token w) (next v)) (bits_lack a.token a.typed h) (anything (bits_of b))
        (λ v w x y. holds_with (λ u. Unit {0}) TypedLacks (of_width v.width b.token w) (next v) (anything (of_width v.width b.token w)) (λ u z. each v u (inl x)))
    alike_lacks a b next each (inr h) =
        holds_both (λ v. Unit {0}) BitsLack TypedLacks (bits_of a) (bits_of b) (λ v w. with_ok (of_width v.width b.token w) (next v)) (anything (bits_of a)) (bits_lack b.token b.typed h)
        (λ v w x y. holds_with BitsLack TypedLacks (of_width v.width b.token w) (next v) (width_lacks v.width b.token w y) (λ u z. each v u (inr z)))

    converted_lacks : (allowed : Bool) (token : ℕ) (to : Width) (made : Width → Width → E → E) (w : Bits E) → BitsLack w → Holds TypedLacks (converted algebra allowed token to made w)
    converted_lacks true token to made w h = absent_map (made w.width to) w.value h
    converted_lacks false token to made w h = tt

    one_lacks : (o : Operator) (token : ℕ) (a : Operand E C) → OperandLacks a → Holds TypedLacks (applied_to_one algebra o token a)
    one_lacks (Unary op) token a h = holds_with BitsLack TypedLacks (bits_of a) (λ w. Ok (unary algebra op w)) (bits_lack a.token a.typed h) (λ w x. absent_map (algebra.unary op w.width) w.value x)
    one_lacks Not token a h = holds_with Absent TypedLacks (test_of a) (λ p. Ok (typed.Test (option_map algebra.negated p))) (test_lacks a.token a.typed h) (λ p x. absent_map algebra.negated p x)
    one_lacks (SignExtend to) token a h = holds_with BitsLack TypedLacks (bits_of a) (extended algebra a.token to algebra.sign_extend) (bits_lack a.token a.typed h)
        (λ w x. converted_lacks (nat_le (bits w.width) (bits to)) a.token to algebra.sign_extend w x)
    one_lacks (ZeroExtend to) token a h = holds_with BitsLack TypedLacks (bits_of a) (extended algebra a.token to algebra.zero_extend) (bits_lack a.token a.typed h)
        (λ w x. converted_lacks (nat_le (bits w.width) (bits to)) a.token to algebra.zero_extend w x)
    one_lacks (LowBits to) token a h = holds_with BitsLack TypedLacks (bits_of a) (shortened algebra a.token to) (bits_lack a.token a.typed h)
        (λ w x. converted_lacks (nat_le (bits to) (bits w.width)) a.token to algebra.low_part w x)
    one_lacks (Binary op) token a h = tt
    one_lacks (Compare cmp) token a h = tt
    one_lacks Conjoin token a h = tt
    one_lacks Disjoin token a h = tt

    both_lack : (made : C → C → C) (a b : Operand E C) → OperandLacks a ⊎ OperandLacks b → Holds TypedLacks (both algebra made a b)
    both_lack made a b (inl h) =
        holds_both Absent (λ q. Unit {0}) TypedLacks (test_of a) (test_of b) (λ p q. Ok (typed.Test (with_values p q made))) (test_lacks a.token a.typed h) (anything (test_of b))
        (λ p q x y. absent_left p q made x)
    both_lack made a b (inr h) =
        holds_both (λ p. Unit {0}) Absent TypedLacks (test_of a) (test_of b) (λ p q. Ok (typed.Test (with_values p q made))) (anything (test_of a)) (test_lacks b.token b.typed h)
        (λ p q x y. absent_right p q made y)

    two_lack : (o : Operator) (token : ℕ) (a b : Operand E C) → OperandLacks a ⊎ OperandLacks b → Holds TypedLacks (applied_to_two algebra o token a b)
    two_lack (Binary op) token a b h = alike_lacks a b (λ v w. Ok (binary algebra op v w)) (λ v w x. absent_either v.value w.value (algebra.binary op v.width) x) h
    two_lack (Compare cmp) token a b h = alike_lacks a b (λ v w. Ok (compared algebra cmp v w)) (λ v w x. absent_either v.value w.value (algebra.compare cmp v.width) x) h
    two_lack Conjoin token a b h = both_lack algebra.conjoined a b h
    two_lack Disjoin token a b h = both_lack algebra.disjoined a b h
    two_lack (Unary op) token a b h = tt
    two_lack Not token a b h = tt
    two_lack (SignExtend to) token a b h = tt
    two_lack (ZeroExtend to) token a b h = tt
    two_lack (LowBits to) token a b h = tt

    applied_lacks : (token : ℕ) (o : Option Operator) (given : Operands E C) → OperandsLack given → Holds TypedLacks (applied algebra token o given)
    applied_lacks token (Some o) (operands.One a) h = one_lacks o token a h
    applied_lacks token (Some o) (operands.Two a b) h = two_lack o token a b h
    applied_lacks token (Some o) operands.Zero h = tt
    applied_lacks token (Some o) operands.More h = tt
    applied_lacks token None given h = tt

    given_before : (given : Operands E C) (o : Operand E C) → OperandsLack given → OperandsLack (given_with algebra given o)
    given_before operands.Zero o h = absurd h
    given_before (operands.One a) o h = inl h
    given_before (operands.Two a b) o h = tt
    given_before operands.More o h = tt

    given_last : (given : Operands E C) (o : Operand E C) → OperandLacks o → OperandsLack (given_with algebra given o)
    given_last operands.Zero o h = h
    given_last (operands.One a) o h = inr h
    given_last (operands.Two a b) o h = tt
    given_last operands.More o h = tt

    with_before : (given : Judged (Operands E C)) (o : Judged (Operand E C)) → Holds OperandsLack given → Holds OperandsLack (with_operand algebra given o)
    with_before given o h = holds_both OperandsLack (λ a. Unit {0}) OperandsLack given o (λ os a. Ok (given_with algebra os a)) h (anything o) (λ os a x y. given_before os a x)

    with_last : (given : Judged (Operands E C)) (o : Judged (Operand E C)) → Holds OperandLacks o → Holds OperandsLack (with_operand algebra given o)
    with_last given o h = holds_both (λ os. Unit {0}) OperandLacks OperandsLack given o (λ os a. Ok (given_with algebra os a)) (anything given) h (λ os a x y. given_last os a y)

    operand_at_lacks : (token : ℕ) (j : Judged (Typed E C)) → Holds TypedLacks j → Holds OperandLacks (operand_at algebra token j)
    operand_at_lacks token j h = holds_with TypedLacks OperandLacks j (λ t. Ok record { token = token; typed = t }) h (λ t x. x)

    -- ---- expressions

    name_lacks : (token : ℕ) (sense : Option Sense) → IsGone hard sense → Holds TypedLacks (name_type algebra token sense)
    name_lacks token (Some (meanings.Broken None)) h = tt
    name_lacks token (Some (meanings.Broken (Some w))) h = h
    name_lacks token (Some (meanings.Variable n w)) h = absurd h
    name_lacks token (Some (meanings.Register n w)) h = absurd h
    name_lacks token (Some (meanings.Typedef w)) h = absurd h
    name_lacks token (Some (meanings.Value c)) h = absurd h
    name_lacks token (Some (meanings.Stackdata n)) h = absurd h
    name_lacks token (Some (meanings.Continuation n)) h = absurd h
    name_lacks token (Some meanings.CodeLabel) h = absurd h
    name_lacks token (Some (meanings.Host x)) h = absurd h
    name_lacks token None h = absurd h

    load_lacks : (aligned : Option Int) (w : Width) (o : Operand E C) → OperandLacks o → Holds TypedLacks (load algebra aligned w o)
    load_lacks aligned w o h =
        holds_with BitsLack TypedLacks (as_wanted (Some W64) o.token o.typed) (λ a. Ok (typed.Bits record { width = w; value = option_map (algebra.load w (alignment w aligned)) a.value }))
        (wanted_lacks (Some W64) o.token o.typed h) (λ a x. absent_map (algebra.load w (alignment w aligned)) a.value x)

    module _ (names : Senses) where
      abbrev pub GoneAt : Ident → Type 0
      GoneAt i = IsGone hard (names i.name)

      mutual
        form_lacks : (token : ℕ) (f : ExprForm) → SomeName GoneAt (form_names values_alone token f) → Holds TypedLacks (form_type algebra names token f)
        form_lacks token (Infix' _ left o _ right) h =
            either
            (λ x. holds_both OperandLacks (λ b. Unit {0}) TypedLacks (operand algebra names left) (operand algebra names right) (applied_to_two algebra (infix_operator o) token)
            (operand_lacks left x) (anything (operand algebra names right)) (λ a b y z. two_lack (infix_operator o) token a b (inl y)))
            (λ x. holds_both (λ a. Unit {0}) OperandLacks TypedLacks (operand algebra names left) (operand algebra names right) (applied_to_two algebra (infix_operator o) token)
            (anything (operand algebra names left)) (operand_lacks right x) (λ a b y z. two_lack (infix_operator o) token a b (inr z)))
            (some_parts GoneAt (row_names values_alone left) (row_names values_alone right) h)
        form_lacks token (Prefix' o _ a) h =
            holds_with OperandLacks TypedLacks (operand algebra names a) (applied_to_one algebra (prefix_operator o) token) (operand_lacks a h) (one_lacks (prefix_operator o) token)
        form_lacks token (Prim prim) h = prim_lacks token prim h
        form_lacks token (InMemory m) h = memory_lacks m h
        form_lacks token (Named' o _ given) h =
            holds_with OperandsLack TypedLacks (given_operands algebra names (Ok operands.Zero) given) (applied algebra token (operator_named o)) (given_lacks (Ok operands.Zero) given (inr h))
            (applied_lacks token (operator_named o))

        operand_lacks : (row : Row_of-Expr (one_more none_left)) → SomeName GoneAt (row_names values_alone row) → Holds OperandLacks (operand algebra names row)
        operand_lacks (more_of-Expr token form rest) h =
            operand_at_lacks token (form_type algebra names token form)
            (either (λ x. form_lacks token form x) (λ y. absurd (no_rest GoneAt rest y)) (some_parts GoneAt (form_names values_alone token form) (row_names values_alone rest) h))

        given_lacks : {n : _} (before : Judged (Operands E C)) (row : Row_of-Expr n) → Holds OperandsLack before ⊎ SomeName GoneAt (row_names values_alone row) →
            Holds OperandsLack (given_operands algebra names before row)
        given_lacks before end_of-Expr (inl h) = h
        given_lacks before end_of-Expr (inr h) = absurd h
        given_lacks before (more_of-Expr token form rest) (inl h) =
            given_lacks (with_operand algebra before (operand_at algebra token (form_type algebra names token form))) rest
            (inl (with_before before (operand_at algebra token (form_type algebra names token form)) h))
        given_lacks before (more_of-Expr token form rest) (inr h) =
            given_lacks (with_operand algebra before (operand_at algebra token (form_type algebra names token form))) rest
            (either
            (λ x. inl (with_last before (operand_at algebra token (form_type algebra names token form)) (operand_at_lacks token (form_type algebra names token form) (form_lacks token form x))))
            (λ y. inr y) (some_parts GoneAt (form_names values_alone token form) (row_names values_alone rest) h))

        prim_lacks : (token : ℕ) (prim : PrimForm) → SomeName GoneAt (prim_names values_alone token prim) → Holds TypedLacks (prim_type algebra names token prim)
        prim_lacks token (Literal n t) h = absurd (no_type GoneAt token n t h)
        prim_lacks token (NameOf name) (inl h) = name_lacks token (names name) h
        prim_lacks token (NameOf name) (inr h) = absurd h
        prim_lacks token (Bracketed' _ (more_of-Expr first form rest)) h =
            either (λ x. form_lacks first form x) (λ y. absurd (no_rest GoneAt rest y)) (some_parts GoneAt (form_names values_alone first form) (row_names values_alone rest) h)

        memory_lacks : (m : Memory) → SomeName GoneAt (memory_names values_alone m) → Holds TypedLacks (memory_type algebra names m)
        memory_lacks (Memory' width _ address aligned) h =
            holds_both (λ w. Unit {0}) OperandLacks TypedLacks (type_width names width) (operand algebra names address) (load algebra aligned) (anything (type_width names width)) (operand_lacks address h)
            (λ w o x y. load_lacks aligned w o y)

      pub judged_lacks : (e : Expr) → SomeName GoneAt (expr_names values_alone e) → Holds TypedLacks (expr_type algebra names e)
      judged_lacks e h = form_lacks e.token e.form h

      pub wanted_is_lacking : (width : Option Width) (e : Expr) → SomeName GoneAt (expr_names values_alone e) → Holds BitsLack (wanted algebra names width e)
      wanted_is_lacking width e h = holds_with TypedLacks BitsLack (expr_type algebra names e) (as_wanted width e.token) (judged_lacks e h) (wanted_lacks width e.token)
