-- Whatever stands for values, expressions are judged alike: an algebra of nothing but presence is the image of each.
use mathlib.Core.Former.{one_more}
use Rattle.std.proofs.Common.{◌≡◌, ℕ, ◌^◌, Bool, true, false, refl, ap, sym, ◌∙◌, List, Option, Some, None, option_map}
use Rattle.std.specs.Prelude.{nat_lt, nat_le, ◌==◌, Result, Ok, Err}
use Rattle.cmm_words.specs.declared.width.Width.{Width}
use Rattle.cmm_words.specs.declared.width.Width.TheVariants.{W64}
use Rattle.cmm_words.specs.declared.operators.Op1.{Op1}
use Rattle.cmm_words.specs.declared.operators.Op2.{Op2}
use Rattle.cmm_words.specs.declared.operators.Cmp.{Cmp}
use Rattle.cmm_words.specs.Widths.{bits}
use Rattle.cmm_ast.specs.declared.token.Int.{Int as IntTree}
use Rattle.cmm_ast.specs.declared.expression.Expr.{Expr}
use Rattle.cmm_ast.specs.declared.expression.ExprForm.{ExprForm, Row_of-Expr, end_of-Expr, more_of-Expr}
use Rattle.cmm_ast.specs.declared.expression.ExprForm.TheVariants.{Infix', Prefix', Prim, Memory as InMemory, Named'}
use Rattle.cmm_ast.specs.declared.expression.Number.{Number}
use Rattle.cmm_ast.specs.declared.expression.PrimForm.{PrimForm}
use Rattle.cmm_ast.specs.declared.expression.PrimForm.TheVariants.{Literal, Name as NameOf, Bracketed'}
use Rattle.cmm_ast.specs.declared.expression.Memory.{Memory, Memory'}
use Rattle.cmm_ast.specs.declared.expression.TypeName.{TypeName}
use Rattle.cmm_words.specs.declared.constant.Constant.TheVariants.{Number as NumberOf}
use Rattle.cmm_rules.specs.declared.rule.Rule.TheVariants.{LiteralDoesNotFit}
use Rattle.cmm_static_semantics.specs.declared.spot.Spot.{Spot}
use Rattle.cmm_static_semantics.specs.declared.operator.Operator.{Operator}
use Rattle.cmm_static_semantics.specs.declared.operator.Operator.TheVariants.{Unary, Binary, Compare, Not, Conjoin, Disjoin, SignExtend, ZeroExtend, LowBits}
use Rattle.cmm_static_semantics.specs.declared.sense.Sense.{Sense}
use Rattle.cmm_static_semantics.specs.declared.sense.Sense.TheVariants.{Variable, Register, Value, Broken, Stackdata, Continuation, Typedef, CodeLabel, Host}
use Rattle.cmm_static_semantics.specs.declared.judged.Bits.{Bits}
use Rattle.cmm_static_semantics.specs.declared.judged.Typed.{Typed}
use Rattle.cmm_static_semantics.specs.declared.judged.Typed.TheVariants as typed
use Rattle.cmm_static_semantics.specs.declared.judged.Operand.{Operand}
use Rattle.cmm_static_semantics.specs.declared.judged.Operands.{Operands}
use Rattle.cmm_static_semantics.specs.declared.judged.Operands.TheVariants as operands
use Rattle.cmm_static_semantics.specs.Senses.{Senses}
use Rattle.cmm_static_semantics.specs.Operators.{operator_named, infix_operator, prefix_operator}
use Rattle.cmm_static_semantics.specs.Algebras.{Algebra, knowns, expressions}
use Rattle.cmm_static_semantics.specs.Judging.{Judged, faulty, with_ok, with_both, as_wanted, of_width, bits_of, test_of}
use Rattle.cmm_static_semantics.specs.Typing.{word, with_values, type_width, literal_width, number_value, alignment, of_target, of_broken, name_type, literal, literal_type, alike, unary, binary, compared, converted, applied_to_one, applied_to_two, applied, given_with, with_operand, load, operand_at, form_type, operand, given_operands, prim_type, memory_type, expr_type, both, extended, shortened}
use Rattle.cmm_static_semantics.specs.Laws.{JudgedAlike, presence, bits_presence, typed_presence, judged_map}

abbrev plain : Algebra (Unit {0}) (Unit {0})
plain = record {
  constant = λ c. tt;
  variable = λ n width. tt;
  register = λ n width. tt;
  stackdata = λ n. tt;
  continuation = λ n. tt;
  load = λ width aligned a. tt;
  unary = λ op width a. tt;
  binary = λ op width a b. tt;
  sign_extend = λ from to a. tt;
  zero_extend = λ from to a. tt;
  low_part = λ from to a. tt;
  compare = λ cmp width a b. tt;
  negated = λ p. tt;
  conjoined = λ p q. tt;
  disjoined = λ p q. tt;
}

ok_then : {A B C D : Type 0} (f : A → B) (g : C → D) (j : Judged A) (next : A → Judged C) (after : B → Judged D) → ((a : A) → judged_map g (next a) ≡ after (f a)) →
    judged_map g (with_ok j next) ≡ with_ok (judged_map f j) after
ok_then f g (Ok a) next after same = same a
ok_then f g (Err s) next after same = refl

both_then : {A B A' B' C D : Type 0} (f : A → A') (h : B → B') (g : C → D) (j : Judged A) (k : Judged B) (next : A → B → Judged C) (after : A' → B' → Judged D) →
    ((a : A) (b : B) → judged_map g (next a b) ≡ after (f a) (h b)) → judged_map g (with_both j k next) ≡ with_both (judged_map f j) (judged_map h k) after
both_then f h g (Ok a) (Ok b) next after same = same a b
both_then f h g (Ok a) (Err t) next after same = refl
both_then f h g (Err s) (Ok b) next after same = refl
both_then f h g (Err s) (Err t) next after same = refl

same_ok : {A : Type 0} (j : Judged A) → judged_map (λ a. a) j ≡ j
same_ok (Ok a) = refl
same_ok (Err s) = refl

module _ {E C : Type 0} (algebra : Algebra E C) where
  abbrev seen_operand : Operand E C → Operand (Unit {0}) (Unit {0})
  seen_operand o = record { token = o.token; typed = typed_presence o.typed }

  abbrev seen_operands : Operands E C → Operands (Unit {0}) (Unit {0})
  seen_operands operands.Zero = operands.Zero
  seen_operands (operands.One a) = operands.One (seen_operand a)
  seen_operands (operands.Two a b) = operands.Two (seen_operand a) (seen_operand b)
  seen_operands operands.More = operands.More

  option_seen : {A B : Type 0} (f : A → B) (o : Option A) → presence (option_map f o) ≡ presence (presence o)
  option_seen f None = refl
  option_seen f (Some a) = refl

  values_seen : {A B D : Type 0} (a : Option A) (b : Option B) (made : A → B → D) →
      presence (with_values a b made) ≡ with_values (presence a) (presence b) (λ x y. tt)
  values_seen None b made = refl
  values_seen (Some a) None made = refl
  values_seen (Some a) (Some b) made = refl

  of_bits : (token : ℕ) (t : Typed E C) → judged_map bits_presence (bits_of record { token = token; typed = t }) ≡ bits_of record { token = token; typed = typed_presence t }
  of_bits token (typed.Bits x) = refl
  of_bits token (typed.Test c) = refl

  of_test : (token : ℕ) (t : Typed E C) → judged_map presence (test_of record { token = token; typed = t }) ≡ test_of record { token = token; typed = typed_presence t }
  of_test token (typed.Bits x) = refl
  of_test token (typed.Test c) = refl

  chosen_ok : {A B : Type 0} (g : A → B) (b : Bool) (j k : Judged A) (j' k' : Judged B) → judged_map g j ≡ j' → judged_map g k ≡ k' →
      judged_map g (elim b as (λ _. Judged A) [ true ↦ j | false ↦ k ]) ≡ elim b as (λ _. Judged B) [ true ↦ j' | false ↦ k' ]
  chosen_ok g true j k j' k' e f = e
  chosen_ok g false j k j' k' e f = f

  width_seen : (wanted : Width) (token : ℕ) (x : Bits E) → judged_map bits_presence (of_width wanted token x) ≡ of_width wanted token (bits_presence x)
  width_seen wanted token x = chosen_ok bits_presence (bits x.width == bits wanted) _ _ _ _ refl refl

  -- ---- operators

  unary_seen : (op : Op1) (w : Bits E) → typed_presence (unary algebra op w) ≡ unary plain op (bits_presence w)
  unary_seen op w = ap (λ v. typed.Bits record { width = w.width; value = v }) (option_seen (algebra.unary op w.width) w.value)

  binary_seen : (op : Op2) (v w : Bits E) → typed_presence (binary algebra op v w) ≡ binary plain op (bits_presence v) (bits_presence w)
  binary_seen op v w = ap (λ x. typed.Bits record { width = v.width; value = x }) (values_seen v.value w.value (algebra.binary op v.width))

  compared_seen : (cmp : Cmp) (v w : Bits E) → typed_presence (compared algebra cmp v w) ≡ compared plain cmp (bits_presence v) (bits_presence w)
  compared_seen cmp v w = ap typed.Test (values_seen v.value w.value (algebra.compare cmp v.width))

  with_bits : (o : Operand E C) (next : Bits E → Judged (Typed E C)) (after : Bits (Unit {0}) → Judged (Typed (Unit {0}) (Unit {0}))) →
      ((w : Bits E) → judged_map typed_presence (next w) ≡ after (bits_presence w)) → judged_map typed_presence (with_ok (bits_of o) next) ≡ with_ok (bits_of (seen_operand o)) after
  with_bits o next after same = ok_then bits_presence typed_presence (bits_of o) next after same ∙ ap (λ j. with_ok j after) (of_bits o.token o.typed)

  with_test : (o : Operand E C) (next : Option C → Judged (Typed E C)) (after : Option (Unit {0}) → Judged (Typed (Unit {0}) (Unit {0}))) →
      ((p : Option C) → judged_map typed_presence (next p) ≡ after (presence p)) → judged_map typed_presence (with_ok (test_of o) next) ≡ with_ok (test_of (seen_operand o)) after
  with_test o next after same = ok_then presence typed_presence (test_of o) next after same ∙ ap (λ j. with_ok j after) (of_test o.token o.typed)

  converted_seen : (allowed : Bool) (token : ℕ) (to : Width) (made : Width → Width → E → E) (made' : Width → Width → Unit {0} → Unit {0}) (w : Bits E) →
      judged_map typed_presence (converted algebra allowed token to made w) ≡ converted plain allowed token to made' (bits_presence w)
  converted_seen true token to made made' w = ap (λ v. Ok (typed.Bits record { width = to; value = v })) (option_seen (made w.width to) w.value)
  converted_seen false token to made made' w = refl

  alike_seen : (a b : Operand E C) (next : Bits E → Bits E → Judged (Typed E C)) (after : Bits (Unit {0}) → Bits (Unit {0}) → Judged (Typed (Unit {0}) (Unit {0}))) →
      ((v w : Bits E) → judged_map typed_presence (next v w) ≡ after (bits_presence v) (bits_presence w)) →
      judged_map typed_presence (alike algebra a b next) ≡ alike plain (seen_operand a) (seen_operand b) after
  alike_seen a b next after same =
      both_then bits_presence bits_presence typed_presence (bits_of a) (bits_of b) (λ v w. with_ok (of_width v.width b.token w) (next v)) (λ v w. with_ok (of_width v.width b.token w) (after v))
      (λ v w. ok_then bits_presence typed_presence (of_width v.width b.token w) (next v) (after (bits_presence v)) (same v)
      ∙ ap (λ j. with_ok j (after (bits_presence v))) (width_seen v.width b.token w))
      ∙ ap (λ j. with_both j (judged_map bits_presence (bits_of b)) (λ v w. with_ok (of_width v.width b.token w) (after v))) (of_bits a.token a.typed)
      ∙ ap (λ k. with_both (bits_of (seen_operand a)) k (λ v w. with_ok (of_width v.width b.token w) (after v))) (of_bits b.token b.typed)

  tests_seen : (made : C → C → C) (made' : Unit {0} → Unit {0} → Unit {0}) (a b : Operand E C) →
      judged_map typed_presence (both algebra made a b) ≡ both plain made' (seen_operand a) (seen_operand b)
  tests_seen made made' a b =
      both_then presence presence typed_presence (test_of a) (test_of b) (λ p q. Ok (typed.Test (with_values p q made))) (λ p q. Ok (typed.Test (with_values p q made')))
      (λ p q. ap (λ v. Ok (typed.Test v)) (values_seen p q made))
      ∙ ap (λ j. with_both j (judged_map presence (test_of b)) (λ p q. Ok (typed.Test (with_values p q made')))) (of_test a.token a.typed)
      ∙ ap (λ k. with_both (test_of (seen_operand a)) k (λ p q. Ok (typed.Test (with_values p q made')))) (of_test b.token b.typed)

  one_seen : (op : Operator) (token : ℕ) (a : Operand E C) → judged_map typed_presence (applied_to_one algebra op token a) ≡ applied_to_one plain op token (seen_operand a)
  one_seen (Unary op) token a = with_bits a (λ w. Ok (unary algebra op w)) (λ w. Ok (unary plain op w)) (λ w. ap Ok (unary_seen op w))
  one_seen Not token a = with_test a (λ p. Ok (typed.Test (option_map algebra.negated p))) (λ p. Ok (typed.Test (option_map plain.negated p))) (λ p. ap (λ v. Ok (typed.Test v)) (option_seen algebra.negated p))
  one_seen (SignExtend to) token a = with_bits a (extended algebra a.token to algebra.sign_extend) (extended plain a.token to plain.sign_extend)
      (λ w. converted_seen (nat_le (bits w.width) (bits to)) a.token to algebra.sign_extend plain.sign_extend w)
  one_seen (ZeroExtend to) token a = with_bits a (extended algebra a.token to algebra.zero_extend) (extended plain a.token to plain.zero_extend)
      (λ w. converted_seen (nat_le (bits w.width) (bits to)) a.token to algebra.zero_extend plain.zero_extend w)
  one_seen (LowBits to) token a = with_bits a (shortened algebra a.token to) (shortened plain a.token to)
      (λ w. converted_seen (nat_le (bits to) (bits w.width)) a.token to algebra.low_part plain.low_part w)
  one_seen (Binary op) token a = refl
  one_seen (Compare cmp) token a = refl
  one_seen Conjoin token a = refl
  one_seen Disjoin token a = refl

  two_seen : (op : Operator) (token : ℕ) (a b : Operand E C) → judged_map typed_presence (applied_to_two algebra op token a b) ≡ applied_to_two plain op token (seen_operand a) (seen_operand b)
  two_seen (Binary op) token a b = alike_seen a b (λ v w. Ok (binary algebra op v w)) (λ v w. Ok (binary plain op v w)) (λ v w. ap Ok (binary_seen op v w))
  two_seen (Compare cmp) token a b = alike_seen a b (λ v w. Ok (compared algebra cmp v w)) (λ v w. Ok (compared plain cmp v w)) (λ v w. ap Ok (compared_seen cmp v w))
  two_seen Conjoin token a b = tests_seen algebra.conjoined plain.conjoined a b
  two_seen Disjoin token a b = tests_seen algebra.disjoined plain.disjoined a b
  two_seen (Unary op) token a b = refl
  two_seen Not token a b = refl
  two_seen (SignExtend to) token a b = refl
  two_seen (ZeroExtend to) token a b = refl
  two_seen (LowBits to) token a b = refl

  applied_seen : (token : ℕ) (op : Option Operator) (given : Operands E C) → judged_map typed_presence (applied algebra token op given) ≡ applied plain token op (seen_operands given)
  applied_seen token (Some op) operands.Zero = refl
  applied_seen token (Some op) (operands.One a) = one_seen op token a
  applied_seen token (Some op) (operands.Two a b) = two_seen op token a b
  applied_seen token (Some op) operands.More = refl
  applied_seen token None given = refl

  given_seen : (given : Operands E C) (o : Operand E C) → seen_operands (given_with algebra given o) ≡ given_with plain (seen_operands given) (seen_operand o)
  given_seen operands.Zero o = refl
  given_seen (operands.One a) o = refl
  given_seen (operands.Two a b) o = refl
  given_seen operands.More o = refl

  -- ---- expressions

  target_seen : (width : Option Width) (value : Width → E) → judged_map typed_presence (of_target algebra width value) ≡ of_target plain width (λ w. tt)
  target_seen (Some width) value = refl
  target_seen None value = refl

  broken_seen : (width : Option Width) → judged_map typed_presence (of_broken algebra width) ≡ of_broken plain width
  broken_seen (Some width) = refl
  broken_seen None = refl

  name_seen : (token : ℕ) (s : Option Sense) → judged_map typed_presence (name_type algebra token s) ≡ name_type plain token s
  name_seen token (Some (Variable n width)) = target_seen width (algebra.variable n)
  name_seen token (Some (Register n width)) = target_seen width (algebra.register n)
  name_seen token (Some (Value known)) = refl
  name_seen token (Some (Broken width)) = broken_seen width
  name_seen token (Some (Stackdata n)) = refl
  name_seen token (Some (Continuation n)) = refl
  name_seen token (Some (Host h)) = refl
  name_seen token (Some (Typedef width)) = refl
  name_seen token (Some CodeLabel) = refl
  name_seen token None = refl

  literal_seen : (token value : ℕ) (width : Width) → judged_map typed_presence (literal algebra token value width) ≡ literal plain token value width
  literal_seen token value width = chosen_ok typed_presence (nat_lt value (2 ^ bits width)) (word algebra width (algebra.constant (NumberOf value width))) (faulty LiteralDoesNotFit token)
      (word plain width tt) (faulty LiteralDoesNotFit token) refl refl

  literal_type_seen : (names : Senses) (token : ℕ) (n : Number) (t : Option TypeName) → judged_map typed_presence (literal_type algebra names token n t) ≡ literal_type plain names token n t
  literal_type_seen names token n t =
      ok_then (λ w. w) typed_presence (literal_width names n t) (literal algebra token (number_value n)) (literal plain token (number_value n)) (literal_seen token (number_value n))
      ∙ ap (λ j. with_ok j (literal plain token (number_value n))) (same_ok (literal_width names n t))

  address_seen : (wanted : Width) (token : ℕ) (t : Typed E C) → judged_map bits_presence (as_wanted (Some wanted) token t) ≡ as_wanted (Some wanted) token (typed_presence t)
  address_seen wanted token (typed.Bits x) = width_seen wanted token x
  address_seen wanted token (typed.Test c) = refl

  load_seen : (aligned : Option IntTree) (width : Width) (o : Operand E C) → judged_map typed_presence (load algebra aligned width o) ≡ load plain aligned width (seen_operand o)
  load_seen aligned width o =
      ok_then bits_presence typed_presence (as_wanted (Some W64) o.token o.typed) (λ a. Ok (typed.Bits record { width = width; value = option_map (algebra.load width (alignment width aligned)) a.value }))
      (λ a. Ok (typed.Bits record { width = width; value = option_map (plain.load width (alignment width aligned)) a.value }))
      (λ a. ap (λ v. Ok (typed.Bits record { width = width; value = v })) (option_seen (algebra.load width (alignment width aligned)) a.value))
      ∙ ap (λ j. with_ok j (λ a. Ok (typed.Bits record { width = width; value = option_map (plain.load width (alignment width aligned)) a.value }))) (address_seen W64 o.token o.typed)

  operand_at_seen : (token : ℕ) (j : Judged (Typed E C)) → judged_map seen_operand (operand_at algebra token j) ≡ operand_at plain token (judged_map typed_presence j)
  operand_at_seen token (Ok t) = refl
  operand_at_seen token (Err s) = refl

  with_operand_seen : (given : Judged (Operands E C)) (o : Judged (Operand E C)) →
      judged_map seen_operands (with_operand algebra given o) ≡ with_operand plain (judged_map seen_operands given) (judged_map seen_operand o)
  with_operand_seen given o = both_then seen_operands seen_operand seen_operands given o (λ os a. Ok (given_with algebra os a)) (λ os a. Ok (given_with plain os a)) (λ os a. ap Ok (given_seen os a))

  module _ (names : Senses) where
    mutual
      form_seen : (token : ℕ) (form : ExprForm) → judged_map typed_presence (form_type algebra names token form) ≡ form_type plain names token form
      form_seen token (Infix' _ left operator _ right) =
          both_then seen_operand seen_operand typed_presence (operand algebra names left) (operand algebra names right)
          (applied_to_two algebra (infix_operator operator) token) (applied_to_two plain (infix_operator operator) token) (two_seen (infix_operator operator) token)
          ∙ ap (λ j. with_both j (judged_map seen_operand (operand algebra names right)) (applied_to_two plain (infix_operator operator) token)) (operand_seen left)
          ∙ ap (λ k. with_both (operand plain names left) k (applied_to_two plain (infix_operator operator) token)) (operand_seen right)
      form_seen token (Prefix' operator _ a) =
          ok_then seen_operand typed_presence (operand algebra names a) (applied_to_one algebra (prefix_operator operator) token) (applied_to_one plain (prefix_operator operator) token) (one_seen (prefix_operator operator) token)
          ∙ ap (λ j. with_ok j (applied_to_one plain (prefix_operator operator) token)) (operand_seen a)
      form_seen token (Prim prim) = prim_seen token prim
      form_seen token (InMemory m) = memory_seen m
      form_seen token (Named' operator _ given) =
          ok_then seen_operands typed_presence (given_operands algebra names (Ok operands.Zero) given) (applied algebra token (operator_named operator)) (applied plain token (operator_named operator)) (applied_seen token (operator_named operator))
          ∙ ap (λ j. with_ok j (applied plain token (operator_named operator))) (row_seen (Ok operands.Zero) (Ok operands.Zero) refl given)

      operand_seen : {n : _} (row : Row_of-Expr (one_more n)) → judged_map seen_operand (operand algebra names row) ≡ operand plain names row
      operand_seen (more_of-Expr token form rest) = operand_at_seen token (form_type algebra names token form) ∙ ap (operand_at plain token) (form_seen token form)

      row_seen : {n : _} (before : Judged (Operands E C)) (after : Judged (Operands (Unit {0}) (Unit {0}))) → judged_map seen_operands before ≡ after → (row : Row_of-Expr n) →
          judged_map seen_operands (given_operands algebra names before row) ≡ given_operands plain names after row
      row_seen before after same end_of-Expr = same
      row_seen before after same (more_of-Expr token form rest) =
          row_seen (with_operand algebra before (operand_at algebra token (form_type algebra names token form))) (with_operand plain after (operand_at plain token (form_type plain names token form)))
          (with_operand_seen before (operand_at algebra token (form_type algebra names token form))
          ∙ ap (λ j. with_operand plain j (judged_map seen_operand (operand_at algebra token (form_type algebra names token form)))) same
          ∙ ap (with_operand plain after) (operand_at_seen token (form_type algebra names token form) ∙ ap (operand_at plain token) (form_seen token form)))
          rest

      prim_seen : (token : ℕ) (prim : PrimForm) → judged_map typed_presence (prim_type algebra names token prim) ≡ prim_type plain names token prim
      prim_seen token (Literal n t) = literal_type_seen names token n t
      prim_seen token (NameOf name) = name_seen token (names name)
      prim_seen token (Bracketed' _ (more_of-Expr first form rest)) = form_seen first form

      memory_seen : (m : Memory) → judged_map typed_presence (memory_type algebra names m) ≡ memory_type plain names m
      memory_seen (Memory' width _ address aligned) =
          both_then (λ w. w) seen_operand typed_presence (type_width names width) (operand algebra names address) (load algebra aligned) (load plain aligned) (load_seen aligned)
          ∙ ap (λ j. with_both j (judged_map seen_operand (operand algebra names address)) (load plain aligned)) (same_ok (type_width names width))
          ∙ ap (λ k. with_both (type_width names width) k (load plain aligned)) (operand_seen address)

pub judged_alike : JudgedAlike
judged_alike names e = form_seen knowns names e.token e.form ∙ sym (form_seen expressions names e.token e.form)
