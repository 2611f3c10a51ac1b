-- An expression that takes some tokens counts at least those of its shortest text, whatever place it is asked for in: where each name means what is one
-- token.
use mathlib.Core.Former.{one_more}
use Rattle.std.proofs.Common.{◌≡◌, ℕ, zero, suc, ◌+◌, ◌≤◌, min, refl, sym, ap, ◌∙◌, subst, Bool, true, false, List, Option, Some, None, Ok, Err, arith}
use Rattle.std.specs.Prelude.{nat_le, nat_lt, ◌==◌, ◌^◌, option_map, max, unwrap_or}
use Rattle.std.proofs.lemmas.Bool.{le-leb, leb-true}
use Rattle.cmm_lexer.specs.declared.piece.Lexeme.{Lexeme}
use Rattle.cmm_lexer.specs.declared.symbol.Symbol.{Symbol}
use Rattle.cmm_lexer.specs.declared.symbol.Symbol.TheVariants as sign
use Rattle.cmm_lexer.specs.declared.keyword.Keyword.TheVariants.{Align, Aligned}
use Rattle.cmm_words.specs.declared.width.Width.{Width}
use Rattle.cmm_words.specs.declared.width.Width.TheVariants.{W8, W16, W32, W64}
use Rattle.cmm_words.specs.declared.constant.Constant.{Constant}
use Rattle.cmm_words.specs.declared.constant.Constant.TheVariants.{Number, Code, Address}
use Rattle.cmm_words.specs.declared.operators.Op1.{Op1}
use Rattle.cmm_words.specs.declared.operators.Op1.TheVariants.{Neg, Com}
use Rattle.cmm_words.specs.declared.operators.Op2.{Op2}
use Rattle.cmm_words.specs.declared.operators.Op2.TheVariants as op
use Rattle.cmm_words.specs.declared.operators.Cmp.{Cmp}
use Rattle.cmm_words.specs.declared.operators.Cmp.TheVariants as cmp
use Rattle.cmm_words.specs.Widths.{bits, bytes}
use Rattle.cmm_ast.specs.declared.token.Int.{Int}
use Rattle.cmm_ast.specs.declared.expression.Expr.{Expr}
use Rattle.cmm_ast.specs.declared.expression.ExprForm.{ExprForm, Row_of-Expr, end_of-Expr, more_of-Expr}
use Rattle.cmm_ast.specs.declared.expression.ExprForm.TheVariants.{Infix', Prefix', Prim, Memory as InMemory, Named'}
use Rattle.cmm_ast.specs.declared.expression.Infix.{Infix}
use Rattle.cmm_ast.specs.declared.expression.Infix.TheVariants as between
use Rattle.cmm_ast.specs.declared.expression.Prefix.{Prefix}
use Rattle.cmm_ast.specs.declared.expression.Prefix.TheVariants.{Negate, Complement}
use Rattle.cmm_ast.specs.declared.expression.Memory.{Memory, Memory'}
use Rattle.cmm_ast.specs.declared.expression.Number.{Number as NumberTree}
use Rattle.cmm_ast.specs.declared.expression.Number.TheVariants as number
use Rattle.cmm_ast.specs.declared.expression.Primary.{Primary}
use Rattle.cmm_ast.specs.declared.expression.PrimForm.{PrimForm}
use Rattle.cmm_ast.specs.declared.expression.PrimForm.TheVariants.{Literal, Name as NameOf, Bracketed'}
use Rattle.cmm_ast.specs.declared.expression.TypeForm.{TypeForm}
use Rattle.cmm_ast.specs.declared.expression.TypeForm.TheVariants.{Bits as OfBits, Named as OfName}
use Rattle.cmm_ast.specs.declared.expression.TypeName.{TypeName}
use Rattle.cmm_grammar.specs.Taking.{Reading, Takes, ◌⨾◌, token, token as token_, is_name, is_operator, is_int, is_char, is_word, is_sign, keyword, symbol, here, first_over, opening, operator, in_brackets, round, square, optional, may_comma}
use Rattle.cmm_grammar.specs.ExpressionGrammar.{width_word, infix_symbol, prefix_symbol, unary_level, left_level, right_level, int, type_form, type_name, number_of, aligned_by, level_of, binds, expr_form, operand as operand_of, operand_list, more_operands, prim_form, memory, whole, whole_prim, whole_memory}
use Rattle.cmm_program.specs.declared.expression.Expression.{Expression}
use Rattle.cmm_program.specs.declared.expression.Expression.TheVariants.{Known, Variable, Register, Stackdata, Continuation, Load', Unary', Binary', SignExtend', ZeroExtend', LowBits'}
use Rattle.cmm_program.specs.declared.expression.Expression.TheVariants as x
use Rattle.cmm_program.specs.declared.expression.Condition.{Condition}
use Rattle.cmm_program.specs.declared.expression.Condition.TheVariants as c
use Rattle.cmm_program.specs.Folds.{fold_operand}
use Rattle.cmm_program.specs.ExpressionTokens.{Shortest, alone, at_level, binary, two, sign_level, known_tokens, memory_tokens, token_step, expression_tokens, compare_tokens, condition_tokens}
use Rattle.cmm_program.specs.Tokens.{lvalue_tokens}
use Rattle.cmm_program.proofs.Shared.{opened}
use Rattle.cmm_rules.specs.declared.rule.Rule.TheVariants.{LiteralDoesNotFit}
use Rattle.cmm_static_semantics.specs.declared.operator.Operator.{Operator}
use Rattle.cmm_static_semantics.specs.declared.operator.Operator.TheVariants.{Unary, Binary, Compare, Not, Conjoin, Disjoin, SignExtend, ZeroExtend, LowBits}
use Rattle.cmm_static_semantics.specs.declared.sense.Sense.{Sense}
use Rattle.cmm_static_semantics.specs.declared.sense.Sense.TheVariants as meanings
use Rattle.cmm_static_semantics.specs.declared.judged.Bits.{Bits}
use Rattle.cmm_static_semantics.specs.declared.judged.Typed.{Typed}
use Rattle.cmm_static_semantics.specs.declared.judged.Typed.TheVariants as typed
use Rattle.cmm_static_semantics.specs.declared.judged.Operand.{Operand}
use Rattle.cmm_static_semantics.specs.declared.judged.Operands.{Operands}
use Rattle.cmm_static_semantics.specs.declared.judged.Operands.TheVariants as operands
use Rattle.cmm_static_semantics.specs.Senses.{Senses}
use Rattle.cmm_static_semantics.specs.Operators.{operator_named, infix_operator, prefix_operator}
use Rattle.cmm_static_semantics.specs.Algebras.{expressions}
use Rattle.cmm_static_semantics.specs.Judging.{Judged, faulty, with_ok, as_wanted, of_width, bits_of, test_of}
use Rattle.cmm_static_semantics.specs.Typing.{with_values, type_width, number_value, literal_width, alignment, name_type, literal, alike, unary, binary as binary_of, compared, converted, extended, shortened, applied_to_one, applied_to_two, both, applied, given_with, with_operand, load, operand_at, form_type, operand, given_operands, prim_type, memory_type, expr_type}
use Rattle.cmm_elaboration.specs.Resolving.{no_value, value_of, value_in, condition_in, operand_in, width_at, memory_place}
use Rattle.cmm_elaboration.proofs.Derived.{middle}
use Rattle.cmm_elaboration.proofs.Steady.{next_token, here_is, steady_type, steady_comma, steady_optional, steady_symbol, steady_then, steady_operand, steady_operands, steady_aligned}
use Rattle.cmm_elaboration.proofs.Weighing.{taken_of}
use Rattle.cmm_elaboration.proofs.Judged.{Holds, holds_with, holds_both, OnSome, some_map, some_both, TypedFits, bits_fit, test_fits, WantedFit, width_fits, wanted_fits}

-- ---- brackets only add tokens, two at most

level_grows : (level tokens a b : ℕ) → a ≤ b → at_level level tokens a ≤ at_level level tokens b
level_grows level tokens a b h = by (nat_le a level) (nat_le b level) refl refl where
  by : (x y : Bool) → nat_le a level ≡ x → nat_le b level ≡ y → elim x as (λ z. ℕ) [ true ↦ tokens | false ↦ 2 + tokens ] ≤ elim y as (λ z. ℕ) [ true ↦ tokens | false ↦ 2 + tokens ]
  by true true is is' = omega arith
  by true false is is' = omega arith
  by false false is is' = omega arith
  by false true is is' = let k : b ≤ level = leb-true b level is' in let l : a ≤ level = omega arith in
      let t : nat_le a level ≡ true = le-leb a level l in let bad : true ≡ false = sym t ∙ is in cc

level_bound : (level tokens a : ℕ) → at_level level tokens a ≤ 2 + tokens
level_bound level tokens a = by (nat_le a level) where
  by : (y : Bool) → elim y as (λ z. ℕ) [ true ↦ tokens | false ↦ 2 + tokens ] ≤ 2 + tokens
  by true = omega arith
  by false = omega arith

level_own : (level tokens a : ℕ) → a ≤ level → at_level level tokens a ≡ tokens
level_own level tokens a h = ap (λ y. elim y as (λ z. ℕ) [ true ↦ tokens | false ↦ 2 + tokens ]) (le-leb a level h)

known_grows : (k : Constant) (a b : ℕ) → a ≤ b → known_tokens k a ≤ known_tokens k b
known_grows (Number n width) a b h = omega arith
known_grows (Code proc zero) a b h = omega arith
known_grows (Code proc (suc plus)) a b h = level_grows 5 3 a b h
known_grows (Address label zero) a b h = omega arith
known_grows (Address label (suc plus)) a b h = level_grows 5 3 a b h

known_bound : (k : Constant) (a : ℕ) → known_tokens k a ≤ 2 + known_tokens k 0
known_bound (Number n width) a = omega arith
known_bound (Code proc zero) a = omega arith
known_bound (Code proc (suc plus)) a = level_bound 5 3 a
known_bound (Address label zero) a = omega arith
known_bound (Address label (suc plus)) a = level_bound 5 3 a

binary_grows : (o : Option ℕ) (f g : Shortest) (a b : ℕ) → a ≤ b → binary o f g a ≤ binary o f g b
binary_grows None f g a b h = level_grows 7 (3 + two f g) a b h
binary_grows (Some level) f g a b h = omega (arith, level_grows 7 (3 + two f g) a b h, level_grows level (f level + 1 + g (suc level)) a b h)

binary_bound : (o : Option ℕ) (f g : Shortest) (a : ℕ) → binary o f g a ≤ 2 + binary o f g 0
binary_bound None f g a = level_bound 7 (3 + two f g) a
binary_bound (Some level) f g a =
    omega (arith, level_bound 7 (3 + two f g) a, level_bound level (f level + 1 + g (suc level)) a, level_own level (f level + 1 + g (suc level)) 0 (omega arith), level_own 7 (3 + two f g) 0 (omega arith))

pub grows : (e : Expression) (a b : ℕ) → a ≤ b → expression_tokens a e ≤ expression_tokens b e
grows (Known k) a b h = known_grows k a b h
grows (Variable n width) a b h = omega arith
grows (Register n width) a b h = omega arith
grows (Stackdata n) a b h = omega arith
grows (Continuation n) a b h = omega arith
grows (Load' width aligned _ address) a b h = omega arith
grows (Unary' op width _ p) a b h = level_grows 7 (min (1 + fold_operand token_step p 7) (3 + fold_operand token_step p alone)) a b h
grows (Binary' op width _ p _ q) a b h = binary_grows (sign_level op) (fold_operand token_step p) (fold_operand token_step q) a b h
grows (SignExtend' from to _ p) a b h = level_grows 7 (3 + fold_operand token_step p alone) a b h
grows (ZeroExtend' from to _ p) a b h = level_grows 7 (3 + fold_operand token_step p alone) a b h
grows (LowBits' from to _ p) a b h = level_grows 7 (3 + fold_operand token_step p alone) a b h

pub bound : (e : Expression) (a : ℕ) → expression_tokens a e ≤ 2 + expression_tokens 0 e
bound (Known k) a = known_bound k a
bound (Variable n width) a = omega arith
bound (Register n width) a = omega arith
bound (Stackdata n) a = omega arith
bound (Continuation n) a = omega arith
bound (Load' width aligned _ address) a = omega arith
bound (Unary' op width _ p) a = level_bound 7 (min (1 + fold_operand token_step p 7) (3 + fold_operand token_step p alone)) a
bound (Binary' op width _ p _ q) a = binary_bound (sign_level op) (fold_operand token_step p) (fold_operand token_step q) a
bound (SignExtend' from to _ p) a = level_bound 7 (3 + fold_operand token_step p alone) a
bound (ZeroExtend' from to _ p) a = level_bound 7 (3 + fold_operand token_step p alone) a
bound (LowBits' from to _ p) a = level_bound 7 (3 + fold_operand token_step p alone) a

-- ---- what operators count

load_is : (w : Width) (k asked : ℕ) (a : Expression) → expression_tokens asked (x.Load w k a) ≡ memory_tokens w k (expression_tokens alone a)
unfolding opened
load_is w k asked a = refl

unary_is : (op : Op1) (w : Width) (asked : ℕ) (a : Expression) → expression_tokens asked (x.Unary op w a) ≡ at_level 7 (min (1 + expression_tokens 7 a) (3 + expression_tokens alone a)) asked
unfolding opened
unary_is op w asked a = refl

binary_is : (op : Op2) (w : Width) (asked : ℕ) (a b : Expression) → expression_tokens asked (x.Binary op w a b) ≡ binary (sign_level op) (λ n. expression_tokens n a) (λ n. expression_tokens n b) asked
unfolding opened
binary_is op w asked a b = refl

sign_is : (from to : Width) (asked : ℕ) (a : Expression) → expression_tokens asked (x.SignExtend from to a) ≡ at_level 7 (3 + expression_tokens alone a) asked
unfolding opened
sign_is from to asked a = refl

zero_is : (from to : Width) (asked : ℕ) (a : Expression) → expression_tokens asked (x.ZeroExtend from to a) ≡ at_level 7 (3 + expression_tokens alone a) asked
unfolding opened
zero_is from to asked a = refl

low_is : (from to : Width) (asked : ℕ) (a : Expression) → expression_tokens asked (x.LowBits from to a) ≡ at_level 7 (3 + expression_tokens alone a) asked
unfolding opened
low_is from to asked a = refl

compare_is : (cmp : Cmp) (w : Width) (a b : Expression) → condition_tokens (c.Compare cmp w a b) ≡ compare_tokens cmp a b
unfolding opened
compare_is cmp w a b = refl

not_is : (a : Condition) → condition_tokens (c.Not a) ≡ 3 + condition_tokens a
unfolding opened
not_is a = refl

both_is : (a b : Condition) → condition_tokens (c.Both a b) ≡ 3 + (condition_tokens a + 1 + condition_tokens b)
unfolding opened
both_is a b = refl

either_is : (a b : Condition) → condition_tokens (c.Either a b) ≡ 3 + (condition_tokens a + 1 + condition_tokens b)
unfolding opened
either_is a b = refl

-- ---- what is judged counts at least so much

abbrev pub Costs : ℕ → ℕ → ℕ → Expression → Type 0
Costs level low high e = low + expression_tokens level e ≤ high

abbrev pub TestCosts : ℕ → ℕ → Condition → Type 0
TestCosts low high t = low + condition_tokens t ≤ high

abbrev pub TypedCosts : ℕ → ℕ → ℕ → Typed Expression Condition → Type 0
TypedCosts level low high t = TypedFits expressions (λ w. Costs level low high) (TestCosts low high) t

some_weaker : {A : Type 0} (P Q : A → Type 0) (o : Option A) → ((a : A) → P a → Q a) → OnSome P o → OnSome Q o
some_weaker P Q (Some a) each h = each a h
some_weaker P Q None each h = tt

-- from one level and room to another
typed_weaker : (k l a b m n : ℕ) (t : Typed Expression Condition) → ((e : Expression) → Costs k a b e → Costs l m n e) → ((u : Condition) → TestCosts a b u → TestCosts m n u) → TypedCosts k a b t → TypedCosts l m n t
typed_weaker k l a b m n (typed.Bits v) each test h = some_weaker (Costs k a b) (Costs l m n) v.value each h
typed_weaker k l a b m n (typed.Test u) each test h = some_weaker (TestCosts a b) (TestCosts m n) u test h

holds_weaker : {A : Type 0} (P Q : A → Type 0) (j : Judged A) → ((a : A) → P a → Q a) → Holds P j → Holds Q j
holds_weaker P Q (Ok a) each h = each a h
holds_weaker P Q (Err broken) each h = tt

-- ---- operators, from what holds of their operands

module _ (P Q R : Expression → Type 0) (C D S : Condition → Type 0) where
  abbrev First : Typed Expression Condition → Type 0
  First t = TypedFits expressions (λ w. P) C t

  abbrev Second : Typed Expression Condition → Type 0
  Second t = TypedFits expressions (λ w. Q) D t

  abbrev Made : Typed Expression Condition → Type 0
  Made t = TypedFits expressions (λ w. R) S t

  abbrev TwoMake : Operator → Type 0
  TwoMake (Binary op) = (w : Width) (e f : Expression) → P e → Q f → R (x.Binary op w e f)
  TwoMake (Compare cmp) = (w : Width) (e f : Expression) → P e → Q f → S (c.Compare cmp w e f)
  TwoMake Conjoin = (t u : Condition) → C t → D u → S (c.Both t u)
  TwoMake Disjoin = (t u : Condition) → C t → D u → S (c.Either t u)
  TwoMake _ = Unit {0}

  abbrev OneMakes : Operator → Type 0
  OneMakes (Unary op) = (w : Width) (e : Expression) → P e → R (x.Unary op w e)
  OneMakes Not = (t : Condition) → C t → S (c.Not t)
  OneMakes (SignExtend to) = (w : Width) (e : Expression) → P e → R (x.SignExtend w to e)
  OneMakes (ZeroExtend to) = (w : Width) (e : Expression) → P e → R (x.ZeroExtend w to e)
  OneMakes (LowBits to) = (w : Width) (e : Expression) → P e → R (x.LowBits w to e)
  OneMakes _ = Unit {0}

  alike_makes : (a b : Operand Expression Condition) (next : Bits Expression → Bits Expression → Judged (Typed Expression Condition)) → First a.typed → Second b.typed →
      ((v w : Bits Expression) → OnSome P v.value → OnSome Q w.value → Holds Made (next v w)) → Holds Made (alike expressions a b next)
  alike_makes a b next h k each =
      holds_both (λ v. OnSome P v.value) (λ v. OnSome Q v.value) Made (bits_of a) (bits_of b) (λ v w. with_ok (of_width v.width b.token w) (next v))
      (bits_fit expressions (λ w. P) C a.token a.typed h) (bits_fit expressions (λ w. Q) D b.token b.typed k)
      (λ v w h' k'. holds_with (WantedFit expressions (λ u. Q) D v.width) Made (of_width v.width b.token w) (next v) (width_fits expressions (λ u. Q) D v.width b.token w k') (λ z is. each v z h' is.0))

  both_make : (made : Condition → Condition → Condition) (a b : Operand Expression Condition) → ((t u : Condition) → C t → D u → S (made t u)) → First a.typed → Second b.typed → Holds Made (both expressions made a b)
  both_make made a b each h k =
      holds_both (OnSome C) (OnSome D) Made (test_of a) (test_of b) (λ p q. Ok (typed.Test (with_values p q made))) (test_fits expressions (λ w. P) C a.token a.typed h) (test_fits expressions (λ w. Q) D b.token b.typed k)
      (λ p q h' k'. some_both C D S made p q each h' k')

  two_make : (o : Operator) (token : ℕ) (a b : Operand Expression Condition) → TwoMake o → First a.typed → Second b.typed → Holds Made (applied_to_two expressions o token a b)
  two_make (Binary op) token a b each h k = alike_makes a b (λ v w. Ok (binary_of expressions op v w)) h k (λ v w h' k'. some_both P Q R (x.Binary op v.width) v.value w.value (each v.width) h' k')
  two_make (Compare cmp) token a b each h k = alike_makes a b (λ v w. Ok (compared expressions cmp v w)) h k (λ v w h' k'. some_both P Q S (c.Compare cmp v.width) v.value w.value (each v.width) h' k')
  two_make Conjoin token a b each h k = both_make c.Both a b each h k
  two_make Disjoin token a b each h k = both_make c.Either a b each h k
  two_make (Unary op) token a b each h k = tt
  two_make Not token a b each h k = tt
  two_make (SignExtend to) token a b each h k = tt
  two_make (ZeroExtend to) token a b each h k = tt
  two_make (LowBits to) token a b each h k = tt

  converted_makes : (allowed : Bool) (token : ℕ) (to : Width) (made : Width → Width → Expression → Expression) (w : Bits Expression) → ((e : Expression) → P e → R (made w.width to e)) → OnSome P w.value →
      Holds Made (converted expressions allowed token to made w)
  converted_makes true token to made w each h = some_map P R (made w.width to) w.value each h
  converted_makes false token to made w each h = tt

  one_makes : (o : Operator) (token : ℕ) (a : Operand Expression Condition) → OneMakes o → First a.typed → Holds Made (applied_to_one expressions o token a)
  one_makes (Unary op) token a each h = holds_with (λ v. OnSome P v.value) Made (bits_of a) (λ w. Ok (unary expressions op w)) (bits_fit expressions (λ w. P) C a.token a.typed h) (λ w h'. some_map P R (x.Unary op w.width) w.value (each w.width) h')
  one_makes Not token a each h = holds_with (OnSome C) Made (test_of a) (λ p. Ok (typed.Test (option_map c.Not p))) (test_fits expressions (λ w. P) C a.token a.typed h) (λ p h'. some_map C S c.Not p each h')
  one_makes (SignExtend to) token a each h = holds_with (λ v. OnSome P v.value) Made (bits_of a) (extended expressions a.token to x.SignExtend) (bits_fit expressions (λ w. P) C a.token a.typed h)
      (λ w h'. converted_makes (nat_le (bits w.width) (bits to)) a.token to x.SignExtend w (each w.width) h')
  one_makes (ZeroExtend to) token a each h = holds_with (λ v. OnSome P v.value) Made (bits_of a) (extended expressions a.token to x.ZeroExtend) (bits_fit expressions (λ w. P) C a.token a.typed h)
      (λ w h'. converted_makes (nat_le (bits w.width) (bits to)) a.token to x.ZeroExtend w (each w.width) h')
  one_makes (LowBits to) token a each h = holds_with (λ v. OnSome P v.value) Made (bits_of a) (shortened expressions a.token to) (bits_fit expressions (λ w. P) C a.token a.typed h)
      (λ w h'. converted_makes (nat_le (bits to) (bits w.width)) a.token to x.LowBits w (each w.width) h')
  one_makes (Binary op) token a each h = tt
  one_makes (Compare cmp) token a each h = tt
  one_makes Conjoin token a each h = tt
  one_makes Disjoin token a each h = tt

-- ---- operators with a sign

signed : (o : Op2) (level : ℕ) → sign_level o ≡ Some level → (low mid high : ℕ) (w : Width) (e f : Expression) → Costs level low mid e → Costs (suc level) (suc mid) high f → Costs level low high (x.Binary o w e f)
signed o level is low mid high w e f h k =
    let a : expression_tokens level (x.Binary o w e f) ≡ binary (Some level) (λ n. expression_tokens n e) (λ n. expression_tokens n f) level =
    binary_is o w level e f ∙ ap (λ s. binary s (λ n. expression_tokens n e) (λ n. expression_tokens n f) level) is in
    let b : at_level level (expression_tokens level e + 1 + expression_tokens (suc level) f) level ≡ expression_tokens level e + 1 + expression_tokens (suc level) f =
    level_own level (expression_tokens level e + 1 + expression_tokens (suc level) f) level (omega arith) in
    omega arith

compared_by : (o : Cmp) → ((e f : Expression) → compare_tokens o e f ≡ expression_tokens 1 e + 1 + expression_tokens 1 f) → (low mid high : ℕ) (w : Width) (e f : Expression) → Costs 1 low mid e → Costs 1 (suc mid) high f →
    TestCosts low high (c.Compare o w e f)
compared_by o is low mid high w e f h k =
    let a : condition_tokens (c.Compare o w e f) ≡ expression_tokens 1 e + 1 + expression_tokens 1 f = compare_is o w e f ∙ is e f in omega arith

infix_makes : (o : Infix) (low mid high : ℕ) → TwoMake (Costs (left_level o) low mid) (Costs (right_level o) (suc mid) high) (Costs (left_level o) low high) (TestCosts low mid) (TestCosts (suc mid) high) (TestCosts low high) (infix_operator o)
infix_makes between.Eq low mid high = compared_by cmp.Eq (λ e f. refl) low mid high
infix_makes between.Ne low mid high = compared_by cmp.Ne (λ e f. refl) low mid high
infix_makes between.Lt low mid high = compared_by cmp.Ltu (λ e f. refl) low mid high
infix_makes between.Le low mid high = compared_by cmp.Leu (λ e f. refl) low mid high
infix_makes between.Gt low mid high = compared_by cmp.Gtu (λ e f. refl) low mid high
infix_makes between.Ge low mid high = compared_by cmp.Geu (λ e f. refl) low mid high
infix_makes between.Or low mid high = signed op.Or 1 refl low mid high
infix_makes between.Xor low mid high = signed op.Xor 2 refl low mid high
infix_makes between.And low mid high = signed op.And 3 refl low mid high
infix_makes between.Shl low mid high = signed op.Shl 4 refl low mid high
infix_makes between.Shr low mid high = signed op.Shrl 4 refl low mid high
infix_makes between.Add low mid high = signed op.Add 5 refl low mid high
infix_makes between.Sub low mid high = signed op.Sub 5 refl low mid high
infix_makes between.Mul low mid high = signed op.Mul 6 refl low mid high
infix_makes between.Div low mid high = signed op.Divu 6 refl low mid high
infix_makes between.Mod low mid high = signed op.Modu 6 refl low mid high

prefixed : (o : Op1) (low high : ℕ) (w : Width) (e : Expression) → Costs 7 (suc low) high e → Costs 7 low high (x.Unary o w e)
prefixed o low high w e h = let a : expression_tokens 7 (x.Unary o w e) ≡ min (1 + expression_tokens 7 e) (3 + expression_tokens alone e) = unary_is o w 7 e in omega arith

prefix_makes : (o : Prefix) (low high : ℕ) → OneMakes (Costs 7 (suc low) high) (Costs 7 (suc low) high) (Costs 7 low high) (TestCosts (suc low) high) (TestCosts (suc low) high) (TestCosts low high) (prefix_operator o)
prefix_makes Negate low high = λ w e h. prefixed Neg low high w e h
prefix_makes Complement low high = λ w e h. prefixed Com low high w e h

-- ---- operators by their names, with their operands in brackets

binary_named : (o : Option ℕ) (f g : Shortest) → binary o f g 7 ≤ 3 + two f g
binary_named None f g = omega arith
binary_named (Some level) f g = omega arith

compare_named : (o : Cmp) (e f : Expression) → compare_tokens o e f ≤ 4 + expression_tokens 1 e + expression_tokens 1 f
compare_named cmp.Lt e f = omega (arith, grows e 0 1 (omega arith), grows f 0 1 (omega arith))
compare_named cmp.Le e f = omega (arith, grows e 0 1 (omega arith), grows f 0 1 (omega arith))
compare_named cmp.Gt e f = omega (arith, grows e 0 1 (omega arith), grows f 0 1 (omega arith))
compare_named cmp.Ge e f = omega (arith, grows e 0 1 (omega arith), grows f 0 1 (omega arith))
compare_named o e f = omega arith

named_two : (o : Operator) (low mid end high : ℕ) → suc end ≤ high →
    TwoMake (Costs 1 (2 + low) mid) (Costs 1 (suc mid) end) (Costs 7 low high) (TestCosts (2 + low) mid) (TestCosts (suc mid) end) (TestCosts low high) o
named_two (Binary op) low mid end high few = λ w e f h k.
    let a : expression_tokens 7 (x.Binary op w e f) ≡ binary (sign_level op) (λ n. expression_tokens n e) (λ n. expression_tokens n f) 7 = binary_is op w 7 e f in
    let b : binary (sign_level op) (λ n. expression_tokens n e) (λ n. expression_tokens n f) 7 ≤ 3 + (expression_tokens 0 e + 1 + expression_tokens 0 f) = binary_named (sign_level op) (λ n. expression_tokens n e) (λ n. expression_tokens n f) in
    omega (arith, grows e 0 1 (omega arith), grows f 0 1 (omega arith))
named_two (Compare cmp) low mid end high few = λ w e f h k. let a : condition_tokens (c.Compare cmp w e f) ≡ compare_tokens cmp e f = compare_is cmp w e f in omega (arith, compare_named cmp e f)
named_two Conjoin low mid end high few = λ t u h k. let a : condition_tokens (c.Both t u) ≡ 3 + (condition_tokens t + 1 + condition_tokens u) = both_is t u in omega arith
named_two Disjoin low mid end high few = λ t u h k. let a : condition_tokens (c.Either t u) ≡ 3 + (condition_tokens t + 1 + condition_tokens u) = either_is t u in omega arith
named_two (Unary op) low mid end high few = tt
named_two Not low mid end high few = tt
named_two (SignExtend to) low mid end high few = tt
named_two (ZeroExtend to) low mid end high few = tt
named_two (LowBits to) low mid end high few = tt

named_one : (o : Operator) (low end high : ℕ) → suc end ≤ high →
    OneMakes (Costs 1 (2 + low) end) (Costs 1 (2 + low) end) (Costs 7 low high) (TestCosts (2 + low) end) (TestCosts (2 + low) end) (TestCosts low high) o
named_one (Unary op) low end high few = λ w e h.
    let a : expression_tokens 7 (x.Unary op w e) ≡ min (1 + expression_tokens 7 e) (3 + expression_tokens 0 e) = unary_is op w 7 e in omega (arith, grows e 0 1 (omega arith))
named_one Not low end high few = λ t h. let a : condition_tokens (c.Not t) ≡ 3 + condition_tokens t = not_is t in omega arith
named_one (SignExtend to) low end high few = λ w e h. let a : expression_tokens 7 (x.SignExtend w to e) ≡ 3 + expression_tokens 0 e = sign_is w to 7 e in omega (arith, grows e 0 1 (omega arith))
named_one (ZeroExtend to) low end high few = λ w e h. let a : expression_tokens 7 (x.ZeroExtend w to e) ≡ 3 + expression_tokens 0 e = zero_is w to 7 e in omega (arith, grows e 0 1 (omega arith))
named_one (LowBits to) low end high few = λ w e h. let a : expression_tokens 7 (x.LowBits w to e) ≡ 3 + expression_tokens 0 e = low_is w to 7 e in omega (arith, grows e 0 1 (omega arith))
named_one (Binary op) low end high few = tt
named_one (Compare cmp) low end high few = tt
named_one Conjoin low end high few = tt
named_one Disjoin low end high few = tt

abbrev GivenCosts : ℕ → ℕ → Operands Expression Condition → Type 0
GivenCosts low high operands.Zero = false ≡ true
GivenCosts low high (operands.One a) = TypedCosts 1 low high a.typed
GivenCosts low high (operands.Two a b) = (mid : ℕ) × (TypedCosts 1 low mid a.typed × TypedCosts 1 (suc mid) high b.typed)
GivenCosts low high operands.More = Unit {0}

abbrev OperandCosts : ℕ → ℕ → ℕ → Operand Expression Condition → Type 0
OperandCosts level low high o = TypedCosts level low high o.typed

given_costs : (low mid high : ℕ) (given : Operands Expression Condition) (o : Operand Expression Condition) → GivenCosts low mid given → OperandCosts 1 (suc mid) high o → GivenCosts low high (given_with expressions given o)
given_costs low mid high operands.Zero o h k = let bad : false ≡ true = h in cc
given_costs low mid high (operands.One a) o h k = (mid, (h, k))
given_costs low mid high (operands.Two a b) o h k = tt
given_costs low mid high operands.More o h k = tt

with_costs : (low mid high : ℕ) (given : Judged (Operands Expression Condition)) (o : Judged (Operand Expression Condition)) → Holds (GivenCosts low mid) given → Holds (OperandCosts 1 (suc mid) high) o →
    Holds (GivenCosts low high) (with_operand expressions given o)
with_costs low mid high given o h k = holds_both (GivenCosts low mid) (OperandCosts 1 (suc mid) high) (GivenCosts low high) given o (λ os a. Ok (given_with expressions os a)) h k (given_costs low mid high)

first_costs : (low high : ℕ) (o : Judged (Operand Expression Condition)) → Holds (OperandCosts 1 low high) o → Holds (GivenCosts low high) (with_operand expressions (Ok operands.Zero) o)
first_costs low high (Ok a) h = h
first_costs low high (Err broken) h = tt

applied_costs : (token : ℕ) (o : Option Operator) (low end high : ℕ) (given : Operands Expression Condition) → suc end ≤ high → GivenCosts (2 + low) end given → Holds (TypedCosts 7 low high) (applied expressions token o given)
applied_costs token (Some o) low end high (operands.One a) few h =
    one_makes (Costs 1 (2 + low) end) (Costs 1 (2 + low) end) (Costs 7 low high) (TestCosts (2 + low) end) (TestCosts (2 + low) end) (TestCosts low high) o token a (named_one o low end high few) h
applied_costs token (Some o) low end high (operands.Two a b) few h =
    two_make (Costs 1 (2 + low) h.0) (Costs 1 (suc h.0) end) (Costs 7 low high) (TestCosts (2 + low) h.0) (TestCosts (suc h.0) end) (TestCosts low high) o token a b (named_two o low h.0 end high few) h.1.0 h.1.1
applied_costs token (Some o) low end high operands.Zero few h = tt
applied_costs token (Some o) low end high operands.More few h = tt
applied_costs token None low end high given few h = tt

operand_costs : (token level low high : ℕ) (j : Judged (Typed Expression Condition)) → Holds (TypedCosts level low high) j → Holds (OperandCosts level low high) (operand_at expressions token j)
operand_costs token level low high (Ok t) h = h
operand_costs token level low high (Err broken) h = tt

-- ---- names and literals

-- what a name means is one token
abbrev pub IsShort : Option Sense → Type 0
IsShort (Some (meanings.Value k)) = (asked : ℕ) → known_tokens k asked ≡ 1
IsShort _ = Unit {0}

pub name_costs : (token : ℕ) (sense : Option Sense) (level low high : ℕ) → IsShort sense → suc low ≤ high → Holds (TypedCosts level low high) (name_type expressions token sense)
name_costs token (Some (meanings.Variable n (Some w))) level low high short few = omega arith
name_costs token (Some (meanings.Variable n None)) level low high short few = tt
name_costs token (Some (meanings.Register n (Some w))) level low high short few = omega arith
name_costs token (Some (meanings.Register n None)) level low high short few = tt
name_costs token (Some (meanings.Value k)) level low high short few = let e : known_tokens k level ≡ 1 = short level in omega arith
name_costs token (Some (meanings.Broken (Some w))) level low high short few = tt
name_costs token (Some (meanings.Broken None)) level low high short few = tt
name_costs token (Some (meanings.Stackdata n)) level low high short few = omega arith
name_costs token (Some (meanings.Continuation n)) level low high short few = omega arith
name_costs token (Some (meanings.Host h)) level low high short few = omega arith
name_costs token (Some (meanings.Typedef w)) level low high short few = tt
name_costs token (Some meanings.CodeLabel) level low high short few = tt
name_costs token None level low high short few = tt

literal_costs : (token value level low high : ℕ) (w : Width) → suc low ≤ high → Holds (TypedCosts level low high) (literal expressions token value w)
literal_costs token value level low high w few = by (nat_lt value (2 ^ bits w)) where
  by : (b : Bool) → Holds (TypedCosts level low high) (elim b as (λ z. Judged (Typed Expression Condition)) [ true ↦ Ok (typed.Bits record { width = w; value = Some (x.Known (Number value w)) }) | false ↦ faulty LiteralDoesNotFit token ])
  by true = omega arith
  by false = tt

anything : {A : Type 0} (j : Judged A) → Holds (λ a. Unit {0}) j
anything (Ok a) = tt
anything (Err broken) = tt

-- ---- how many tokens are taken

pub operator_token : (test : Lexeme → Bool) (r s : Reading) → operator (token test) r ≡ Some s → s.taken ≡ suc r.taken
operator_token test r s is =
    let m = middle (token test r) (λ y. Some record y { operators = suc y.operators; over = first_over y.over (nat_lt 500 (suc y.operators)) r.taken }) s is in
    let e : m.at_.taken ≡ s.taken = ap taken_of m.next in sym e ∙ next_token test r m.at_ m.first

pub opening_token : (test : Lexeme → Bool) (r s : Reading) → opening (token test) r ≡ Some s → s.taken ≡ suc r.taken
opening_token test r s is =
    let m = middle (token test r) (λ y. Some record y { open_brackets = suc y.open_brackets; over = first_over y.over (nat_lt 200 (suc y.open_brackets)) r.taken }) s is in
    let e : m.at_.taken ≡ s.taken = ap taken_of m.next in sym e ∙ next_token test r m.at_ m.first

-- what stands in brackets
pub record Enclosed (p : Takes) (r s : Reading) : Type 0 where
  pub from : Reading
  pub to : Reading
  pub is : p from ≡ Some to
  pub low : from.taken ≡ suc r.taken
  pub high : s.taken ≡ suc to.taken

pub enclosed_of : (opens : Symbol) (p : Takes) (closes : Symbol) (r s : Reading) → in_brackets opens p closes r ≡ Some s → Enclosed p r s
enclosed_of opens p closes r s is =
    let m = middle ((opening (symbol opens) ⨾ p ⨾ symbol closes) r) (λ y. Some record y { open_brackets = r.open_brackets }) s is in
    let a = middle (opening (symbol opens) r) (p ⨾ symbol closes) m.at_ m.first in
    let b = middle (p a.at_) (symbol closes) m.at_ a.next in
    let last : m.at_.taken ≡ s.taken = ap taken_of m.next in
    record { from = a.at_; to = b.at_; is = b.first; low = opening_token (is_sign opens) r a.at_ a.first; high = sym last ∙ next_token (is_sign closes) b.at_ m.at_ b.next }

pub here_taken : (n : ℕ) (r s : Reading) → here n r ≡ Some s → s.taken ≡ r.taken
here_taken n r s is = sym (ap (λ m. m.taken) (here_is n r s is).1)

type_form_token : (f : TypeForm) (r s : Reading) → type_form f r ≡ Some s → s.taken ≡ suc r.taken
type_form_token (OfBits w) r s is = next_token (is_word (width_word w)) r s is
type_form_token (OfName n) r s is = next_token (is_name n) r s is

pub type_token : (t : TypeName) (r s : Reading) → type_name t r ≡ Some s → s.taken ≡ suc r.taken
type_token t r s is = let m = middle (here t.token r) (type_form t.form) s is in type_form_token t.form m.at_ s m.next ∙ ap suc (here_taken t.token r m.at_ m.first)

number_token : (n : NumberTree) (r s : Reading) → number_of n r ≡ Some s → s.taken ≡ suc r.taken
number_token (number.Int value) r s is = next_token (is_int value) r s is
number_token (number.Char byte) r s is = next_token (is_char byte) r s is

pub int_token : (i : Int) (r s : Reading) → int i r ≡ Some s → s.taken ≡ suc r.taken
int_token i r s is = let m = middle (here i.token r) (token (is_int i.value)) s is in next_token (is_int i.value) m.at_ s m.next ∙ ap suc (here_taken i.token r m.at_ m.first)

aligned_from : (i : Int) (o : Option Reading) (r s : Reading) → ◌≡◌ {A = Option Reading} (elim o [ Some m ↦ int i m | None ↦ (keyword Align ⨾ int i) r ]) (Some s) → ((m : Reading) → o ≡ Some m → m.taken ≡ suc r.taken) → s.taken ≡ 2 + r.taken
aligned_from i (Some m) r s is h = let a : s.taken ≡ suc m.taken = int_token i m s is in let b : m.taken ≡ suc r.taken = h m refl in omega arith
aligned_from i None r s is h = let m = middle (keyword Align r) (int i) s is in
    let a : s.taken ≡ suc m.at_.taken = int_token i m.at_ s m.next in let b : m.at_.taken ≡ suc r.taken = next_token (is_word Align) r m.at_ m.first in omega arith

aligned_tokens : (i : Int) (r s : Reading) → aligned_by i r ≡ Some s → s.taken ≡ 2 + r.taken
aligned_tokens i r s is = aligned_from i (keyword Aligned r) r s is (λ m at_. next_token (is_word Aligned) r m at_)

abbrev extra : Width → ℕ → ℕ
extra w aligned = elim (aligned == bytes w) [ true ↦ 0 | false ↦ 2 ]

extra_few : (w : Width) (aligned : ℕ) → extra w aligned ≤ 2
extra_few w aligned = by (aligned == bytes w) where
  by : (b : Bool) → elim b as (λ z. ℕ) [ true ↦ 0 | false ↦ 2 ] ≤ 2
  by true = omega arith
  by false = omega arith

own_extra : (w : Width) → extra w (bytes w) ≡ 0
own_extra W8 = refl
own_extra W16 = refl
own_extra W32 = refl
own_extra W64 = refl

aligned_costs : (w : Width) (k : Option Int) (r s : Reading) → optional aligned_by k r ≡ Some s → r.taken + extra w (alignment w k) ≤ s.taken
aligned_costs w None r s is = let e : r.taken ≡ s.taken = ap taken_of is in let f : extra w (bytes w) ≡ 0 = own_extra w in omega arith
aligned_costs w (Some i) r s is = let e : s.taken ≡ 2 + r.taken = aligned_tokens i r s is in omega (arith, extra_few w i.value)

-- ---- how tightly a form binds, what it is judged to be left aside

abbrev rank : ExprForm → ℕ
rank (Infix' _ left o _ right) = left_level o
rank _ = unary_level

bound_by : (b : Bool) (r s : Reading) → ◌≡◌ {A = Option Reading} (elim b [ true ↦ Some r | false ↦ None ]) (Some s) → (b ≡ true) × (r.taken ≡ s.taken)
bound_by true r s is = (refl, ap taken_of is)
bound_by false r s is = let bad : None ≡ Some s = is in cc

bound_is : (level : ℕ) (form : ExprForm) (r s : Reading) → binds level form r ≡ Some s → (level ≤ level_of form) × (r.taken ≡ s.taken)
bound_is level form r s is = let b = bound_by (nat_le level (level_of form)) r s is in (leb-true level (level_of form) b.0, b.1)

rank_least : (form : ExprForm) (level : ℕ) → level ≤ level_of form → max 1 level ≤ rank form
rank_least (Infix' _ left o _ right) level h = omega arith
rank_least (Prefix' o _ inner) level h = omega arith
rank_least (Prim prim) level h = omega arith
rank_least (InMemory m) level h = omega arith
rank_least (Named' name _ given) level h = omega arith

-- an expression in a place that asks for less
lowered : (k l a b m : ℕ) (j : Judged (Typed Expression Condition)) → l ≤ k → m ≡ a → Holds (TypedCosts k a b) j → Holds (TypedCosts l m b) j
lowered k l a b m j few same h =
    holds_weaker (TypedCosts k a b) (TypedCosts l m b) j
    (λ t. typed_weaker k l a b m b t (λ e h'. omega (arith, grows e l k few)) (λ u h'. omega arith)) h

-- brackets around an expression
in_round : (k l a b m n : ℕ) (j : Judged (Typed Expression Condition)) → suc m ≤ a → suc b ≤ n → Holds (TypedCosts k a b) j → Holds (TypedCosts l m n) j
in_round k l a b m n j low high h =
    holds_weaker (TypedCosts k a b) (TypedCosts l m n) j
    (λ t. typed_weaker k l a b m n t (λ e h'. omega (arith, bound e l, grows e 0 k (omega arith))) (λ u h'. omega arith)) h

load_costs : (w : Width) (k level low from to high : ℕ) (e : Expression) → 2 + low ≤ from → to + extra w k + 1 ≤ high → Costs 1 from to e → Costs level low high (x.Load w k e)
load_costs w k level low from to high e a b h =
    let is : expression_tokens level (x.Load w k e) ≡ 3 + expression_tokens 0 e + extra w k = load_is w k level e in omega (arith, grows e 0 1 (omega arith))

module _ (names : Senses) (short : (name : List ℕ) → IsShort (names name)) where
  abbrev judged : ℕ → ExprForm → Judged (Typed Expression Condition)
  judged token f = form_type expressions names token f

  mutual
    form_costs : (token : ℕ) (f : ExprForm) (r s : Reading) → expr_form f r ≡ Some s → Holds (TypedCosts (rank f) r.taken s.taken) (form_type expressions names token f)
    form_costs token (Infix' _ left o _ right) r s is =
        let m = middle (operand_of (left_level o) left r) (operator (symbol (infix_symbol o)) ⨾ operand_of (right_level o) right) s is in
        let n = middle (operator (symbol (infix_symbol o)) m.at_) (operand_of (right_level o) right) s m.next in
        let step : n.at_.taken ≡ suc m.at_.taken = operator_token (is_sign (infix_symbol o)) m.at_ n.at_ n.first in
        holds_both (OperandCosts (left_level o) r.taken m.at_.taken) (OperandCosts (right_level o) (suc m.at_.taken) s.taken) (TypedCosts (left_level o) r.taken s.taken)
        (operand expressions names left) (operand expressions names right) (applied_to_two expressions (infix_operator o) token)
        (row_costs (left_level o) (left_level o) _ left r m.at_ m.first (omega arith))
        (subst (λ a. Holds (OperandCosts (right_level o) a s.taken) (operand expressions names right)) step (row_costs (right_level o) (right_level o) _ right n.at_ s n.next (omega arith)))
        (λ a b h k. two_make (Costs (left_level o) r.taken m.at_.taken) (Costs (right_level o) (suc m.at_.taken) s.taken) (Costs (left_level o) r.taken s.taken)
        (TestCosts r.taken m.at_.taken) (TestCosts (suc m.at_.taken) s.taken) (TestCosts r.taken s.taken) (infix_operator o) token a b (infix_makes o r.taken m.at_.taken s.taken) h k)
    form_costs token (Prefix' o _ inner) r s is =
        let m = middle (operator (symbol (prefix_symbol o)) r) (operand_of unary_level inner) s is in
        let step : m.at_.taken ≡ suc r.taken = operator_token (is_sign (prefix_symbol o)) r m.at_ m.first in
        holds_with (OperandCosts 7 (suc r.taken) s.taken) (TypedCosts 7 r.taken s.taken) (operand expressions names inner) (applied_to_one expressions (prefix_operator o) token)
        (subst (λ a. Holds (OperandCosts 7 a s.taken) (operand expressions names inner)) step (row_costs 7 7 _ inner m.at_ s m.next (omega arith)))
        (λ a h. one_makes (Costs 7 (suc r.taken) s.taken) (Costs 7 (suc r.taken) s.taken) (Costs 7 r.taken s.taken) (TestCosts (suc r.taken) s.taken) (TestCosts (suc r.taken) s.taken) (TestCosts r.taken s.taken)
        (prefix_operator o) token a (prefix_makes o r.taken s.taken) h)
    form_costs token (Prim prim) r s is = prim_costs token prim r s is
    form_costs token (InMemory m) r s is = memory_costs m 7 r s is
    form_costs token (Named' name _ given) r s is =
        let m = middle (operator (token_ (is_operator name)) r) (round (operand_list given ⨾ may_comma)) s is in
        let one : m.at_.taken ≡ suc r.taken = operator_token (is_operator name) r m.at_ m.first in
        let e = enclosed_of sign.Open (operand_list given ⨾ may_comma) sign.Close m.at_ s m.next in
        let n = middle (operand_list given e.from) may_comma e.to e.is in
        let low : e.from.taken ≡ 2 + r.taken = let l : e.from.taken ≡ suc m.at_.taken = e.low in omega arith in
        let comma : n.at_.taken ≤ e.to.taken = (steady_comma n.at_ e.to n.next).grows in
        let high : s.taken ≡ suc e.to.taken = e.high in
        holds_with (GivenCosts (2 + r.taken) n.at_.taken) (TypedCosts 7 r.taken s.taken) (given_operands expressions names (Ok operands.Zero) given) (applied expressions token (operator_named name))
        (subst (λ a. Holds (GivenCosts a n.at_.taken) (given_operands expressions names (Ok operands.Zero) given)) low (list_costs _ given e.from n.at_ n.first))
        (λ g h. applied_costs token (operator_named name) r.taken n.at_.taken s.taken g (omega arith) h)

    row_costs : (k level : ℕ) (n : _) (row : Row_of-Expr (one_more n)) (r s : Reading) → operand_of level row r ≡ Some s → k ≤ max 1 level → Holds (OperandCosts k r.taken s.taken) (operand expressions names row)
    row_costs k level n (more_of-Expr first form rest) r s is few =
        let a = middle (binds level form r) (here first ⨾ expr_form form) s is in
        let b = middle (here first a.at_) (expr_form form) s a.next in
        let bind = bound_is level form r a.at_ a.first in
        let one : r.taken ≡ b.at_.taken = bind.1 ∙ sym (here_taken first a.at_ b.at_ b.first) in
        operand_costs first k r.taken s.taken (judged first form)
        (lowered (rank form) k b.at_.taken s.taken r.taken (judged first form) (omega (arith, rank_least form level bind.0)) one (form_costs first form b.at_ s b.next))

    list_costs : (n : _) (row : Row_of-Expr n) (r s : Reading) → operand_list row r ≡ Some s → Holds (GivenCosts r.taken s.taken) (given_operands expressions names (Ok operands.Zero) row)
    list_costs n end_of-Expr r s is = let bad : None ≡ Some s = is in cc
    list_costs n (more_of-Expr {n = k} first form rest) r s is =
        let a = middle (here first r) (expr_form form ⨾ more_operands rest) s is in
        let b = middle (expr_form form a.at_) (more_operands rest) s a.next in
        let own = operand_at expressions first (judged first form) in
        rest_costs r.taken (with_operand expressions (Ok operands.Zero) own) k rest b.at_ s b.next
        (first_costs r.taken b.at_.taken own (operand_costs first 1 r.taken b.at_.taken (judged first form)
        (lowered (rank form) 1 a.at_.taken b.at_.taken r.taken (judged first form) (omega (arith, rank_least form 0 (omega arith))) (sym (here_taken first r a.at_ a.first)) (form_costs first form a.at_ b.at_ b.first))))

    rest_costs : (low : ℕ) (before : Judged (Operands Expression Condition)) (n : _) (row : Row_of-Expr n) (r s : Reading) → more_operands row r ≡ Some s → Holds (GivenCosts low r.taken) before →
        Holds (GivenCosts low s.taken) (given_operands expressions names before row)
    rest_costs low before n end_of-Expr r s is h = subst (λ m. Holds (GivenCosts low m) before) (let e : r.taken ≡ s.taken = ap taken_of is in e) h
    rest_costs low before n (more_of-Expr {n = k} first form rest) r s is h =
        let a = middle (symbol sign.Comma r) (here first ⨾ expr_form form ⨾ more_operands rest) s is in
        let b = middle (here first a.at_) (expr_form form ⨾ more_operands rest) s a.next in
        let d = middle (expr_form form b.at_) (more_operands rest) s b.next in
        let own = operand_at expressions first (judged first form) in
        let one : suc r.taken ≡ b.at_.taken = sym (here_taken first a.at_ b.at_ b.first ∙ next_token (is_sign sign.Comma) r a.at_ a.first) in
        rest_costs low (with_operand expressions before own) k rest d.at_ s d.next
        (with_costs low r.taken d.at_.taken before own h (operand_costs first 1 (suc r.taken) d.at_.taken (judged first form)
        (lowered (rank form) 1 b.at_.taken d.at_.taken (suc r.taken) (judged first form) (omega (arith, rank_least form 0 (omega arith))) one (form_costs first form b.at_ d.at_ d.first))))

    prim_costs : (token : ℕ) (p : PrimForm) (r s : Reading) → prim_form p r ≡ Some s → Holds (TypedCosts 7 r.taken s.taken) (prim_type expressions names token p)
    prim_costs token (Literal n t) r s is =
        let m = middle (number_of n r) (optional (λ y. symbol sign.Colons ⨾ type_name y) t) s is in
        let one : m.at_.taken ≡ suc r.taken = number_token n r m.at_ m.first in
        let rest : m.at_.taken ≤ s.taken = (steady_optional (λ y. symbol sign.Colons ⨾ type_name y) (λ y. steady_then (symbol sign.Colons) (type_name y) (steady_symbol sign.Colons) (steady_type y)) t m.at_ s m.next).grows in
        holds_with (λ w. Unit {0}) (TypedCosts 7 r.taken s.taken) (literal_width names n t) (literal expressions token (number_value n)) (anything (literal_width names n t)) (λ w h. literal_costs token (number_value n) 7 r.taken s.taken w (omega arith))
    prim_costs token (NameOf name) r s is = name_costs token (names name) 7 r.taken s.taken (short name) (let e : s.taken ≡ suc r.taken = next_token (is_name name) r s is in omega arith)
    prim_costs token (Bracketed' _ (more_of-Expr first form rest)) r s is =
        let e = enclosed_of sign.Open (operand_of 0 (more_of-Expr first form rest)) sign.Close r s is in
        let a = middle (binds 0 form e.from) (here first ⨾ expr_form form) e.to e.is in
        let b = middle (here first a.at_) (expr_form form) e.to a.next in
        let one : e.from.taken ≡ b.at_.taken = (bound_is 0 form e.from a.at_ a.first).1 ∙ sym (here_taken first a.at_ b.at_ b.first) in
        let low : e.from.taken ≡ suc r.taken = e.low in let high : s.taken ≡ suc e.to.taken = e.high in
        in_round (rank form) 7 b.at_.taken e.to.taken r.taken s.taken (judged first form) (omega arith) (omega arith) (form_costs first form b.at_ e.to b.next)

    pub memory_costs : (m : Memory) (level : ℕ) (r s : Reading) → memory m r ≡ Some s → Holds (TypedCosts level r.taken s.taken) (memory_type expressions names m)
    memory_costs (Memory' width _ address aligned) level r s is =
        let m = middle (type_name width r) (square (operand_of 0 address ⨾ optional aligned_by aligned)) s is in
        let e = enclosed_of sign.OpenSquare (operand_of 0 address ⨾ optional aligned_by aligned) sign.CloseSquare m.at_ s m.next in
        let n = middle (operand_of 0 address e.from) (optional aligned_by aligned) e.to e.is in
        let one : m.at_.taken ≡ suc r.taken = type_token width r m.at_ m.first in
        let low : e.from.taken ≡ suc m.at_.taken = e.low in let high : s.taken ≡ suc e.to.taken = e.high in
        holds_both (λ w. Unit {0}) (OperandCosts 1 e.from.taken n.at_.taken) (TypedCosts level r.taken s.taken) (type_width names width) (operand expressions names address) (load expressions aligned)
        (anything (type_width names width)) (row_costs 1 0 _ address e.from n.at_ n.first (omega arith))
        (λ w o h k. holds_with (WantedFit expressions (λ u. Costs 1 e.from.taken n.at_.taken) (TestCosts e.from.taken n.at_.taken) W64) (TypedCosts level r.taken s.taken) (as_wanted (Some W64) o.token o.typed)
        (λ a. Ok (typed.Bits record { width = w; value = option_map (x.Load w (alignment w aligned)) a.value }))
        (wanted_fits expressions (λ u. Costs 1 e.from.taken n.at_.taken) (TestCosts e.from.taken n.at_.taken) W64 o.token o.typed k)
        (λ a is'. some_map (Costs 1 e.from.taken n.at_.taken) (Costs level r.taken s.taken) (x.Load w (alignment w aligned)) a.value
        (λ v. load_costs w (alignment w aligned) level r.taken e.from.taken n.at_.taken s.taken v (omega arith)
        (let q : n.at_.taken + extra w (alignment w aligned) ≤ e.to.taken = aligned_costs w aligned n.at_ e.to n.next in omega arith)) is'.0))

  pub value_in_costs : (level low high : ℕ) (j : Judged (Typed Expression Condition)) → suc low ≤ high → Holds (TypedCosts level low high) j → low + expression_tokens level (value_in j) ≤ high
  value_in_costs level low high (Ok (typed.Bits v)) few h = by v.value h where
    by : (o : Option Expression) → OnSome (Costs level low high) o → low + expression_tokens level (unwrap_or o no_value) ≤ high
    by (Some e) h = h
    by None h = omega arith
  value_in_costs level low high (Ok (typed.Test t)) few h = omega arith
  value_in_costs level low high (Err broken) few h = omega arith

  strict : (f : ExprForm) (r s : Reading) → expr_form f r ≡ Some s → suc r.taken ≤ s.taken
  strict (Infix' _ left o _ right) r s is =
      let m = middle (operand_of (left_level o) left r) (operator (symbol (infix_symbol o)) ⨾ operand_of (right_level o) right) s is in
      let n = middle (operator (symbol (infix_symbol o)) m.at_) (operand_of (right_level o) right) s m.next in
      let a : r.taken ≤ m.at_.taken = (steady_operand _ (left_level o) left r m.at_ m.first).grows in
      let b : n.at_.taken ≡ suc m.at_.taken = operator_token (is_sign (infix_symbol o)) m.at_ n.at_ n.first in
      let d : n.at_.taken ≤ s.taken = (steady_operand _ (right_level o) right n.at_ s n.next).grows in omega arith
  strict (Prefix' o _ inner) r s is =
      let m = middle (operator (symbol (prefix_symbol o)) r) (operand_of unary_level inner) s is in
      let a : m.at_.taken ≡ suc r.taken = operator_token (is_sign (prefix_symbol o)) r m.at_ m.first in
      let b : m.at_.taken ≤ s.taken = (steady_operand _ unary_level inner m.at_ s m.next).grows in omega arith
  strict (Prim (Literal n t)) r s is =
      let m = middle (number_of n r) (optional (λ y. symbol sign.Colons ⨾ type_name y) t) s is in
      let one : m.at_.taken ≡ suc r.taken = number_token n r m.at_ m.first in
      let rest : m.at_.taken ≤ s.taken = (steady_optional (λ y. symbol sign.Colons ⨾ type_name y) (λ y. steady_then (symbol sign.Colons) (type_name y) (steady_symbol sign.Colons) (steady_type y)) t m.at_ s m.next).grows in omega arith
  strict (Prim (NameOf name)) r s is = let e : s.taken ≡ suc r.taken = next_token (is_name name) r s is in omega arith
  strict (Prim (Bracketed' _ inner)) r s is =
      let e = enclosed_of sign.Open (operand_of 0 inner) sign.Close r s is in
      let a : e.from.taken ≡ suc r.taken = e.low in let b : s.taken ≡ suc e.to.taken = e.high in let d : e.from.taken ≤ e.to.taken = (steady_operand _ 0 inner e.from e.to e.is).grows in omega arith
  strict (InMemory (Memory' width _ address aligned)) r s is =
      let m = middle (type_name width r) (square (operand_of 0 address ⨾ optional aligned_by aligned)) s is in
      let e = enclosed_of sign.OpenSquare (operand_of 0 address ⨾ optional aligned_by aligned) sign.CloseSquare m.at_ s m.next in
      let one : m.at_.taken ≡ suc r.taken = type_token width r m.at_ m.first in
      let low : e.from.taken ≡ suc m.at_.taken = e.low in let high : s.taken ≡ suc e.to.taken = e.high in
      let d : e.from.taken ≤ e.to.taken = (steady_then (operand_of 0 address) (optional aligned_by aligned) (steady_operand _ 0 address) (steady_optional aligned_by steady_aligned aligned) e.from e.to e.is).grows in omega arith
  strict (Named' name _ given) r s is =
      let m = middle (operator (token_ (is_operator name)) r) (round (operand_list given ⨾ may_comma)) s is in
      let one : m.at_.taken ≡ suc r.taken = operator_token (is_operator name) r m.at_ m.first in
      let e = enclosed_of sign.Open (operand_list given ⨾ may_comma) sign.Close m.at_ s m.next in
      let a : e.from.taken ≡ suc m.at_.taken = e.low in let b : s.taken ≡ suc e.to.taken = e.high in
      let d : e.from.taken ≤ e.to.taken = (steady_then (operand_list given) may_comma (steady_operands _ given) steady_comma e.from e.to e.is).grows in omega arith

  -- an expression that stands in no other
  pub whole_costs : (e : Expr) (r s : Reading) → whole e r ≡ Some s → Holds (TypedCosts 1 r.taken s.taken) (expr_type expressions names e)
  whole_costs e r s is =
      let a = middle (here e.token record r { operators = 0 }) (expr_form e.form) s is in
      let same : a.at_.taken ≡ r.taken = here_taken e.token record r { operators = 0 } a.at_ a.first in
      lowered (rank e.form) 1 a.at_.taken s.taken r.taken (judged e.token e.form) (omega (arith, rank_least e.form 0 (omega arith))) (sym same) (form_costs e.token e.form a.at_ s a.next)

  pub whole_strict : (e : Expr) (r s : Reading) → whole e r ≡ Some s → suc r.taken ≤ s.taken
  whole_strict e r s is =
      let a = middle (here e.token record r { operators = 0 }) (expr_form e.form) s is in
      let same : a.at_.taken ≡ r.taken = here_taken e.token record r { operators = 0 } a.at_ a.first in
      let few : suc a.at_.taken ≤ s.taken = strict e.form a.at_ s a.next in omega arith

  pub value_costs : (e : Expr) (r s : Reading) → whole e r ≡ Some s → r.taken + expression_tokens alone (value_of names e) ≤ s.taken
  value_costs e r s is =
      let a : r.taken + expression_tokens 1 (value_of names e) ≤ s.taken = value_in_costs 1 r.taken s.taken (expr_type expressions names e) (whole_strict e r s is) (whole_costs e r s is) in
      omega (arith, grows (value_of names e) 0 1 (omega arith))

  pub condition_costs : (low high : ℕ) (j : Judged (Typed Expression Condition)) (t : Condition) → j ≡ Ok (typed.Test (Some t)) → Holds (TypedCosts 1 low high) j → low + condition_tokens (condition_in j) ≤ high
  condition_costs low high j t is h = let k : low + condition_tokens t ≤ high = subst (Holds (TypedCosts 1 low high)) is h in subst (λ i. low + condition_tokens (condition_in i) ≤ high) (sym is) k

  operand_in_costs : (low high : ℕ) (o : Judged (Operand Expression Condition)) → suc low ≤ high → Holds (OperandCosts 1 low high) o → low + expression_tokens 1 (operand_in o) ≤ high
  operand_in_costs low high (Ok a) few h = value_in_costs 1 low high (Ok a.typed) few h
  operand_in_costs low high (Err broken) few h = omega arith

  row_strict : (n : _) (row : Row_of-Expr (one_more n)) (r s : Reading) → operand_of 0 row r ≡ Some s → suc r.taken ≤ s.taken
  row_strict n (more_of-Expr first form rest) r s is =
      let a = middle (binds 0 form r) (here first ⨾ expr_form form) s is in
      let b = middle (here first a.at_) (expr_form form) s a.next in
      let one : r.taken ≡ b.at_.taken = (bound_is 0 form r a.at_ a.first).1 ∙ sym (here_taken first a.at_ b.at_ b.first) in
      let few : suc b.at_.taken ≤ s.taken = strict form b.at_ s b.next in omega arith

  pub place_costs : (m : Memory) (r s : Reading) → whole_memory m r ≡ Some s → r.taken + lvalue_tokens (memory_place names m) ≤ s.taken
  place_costs (Memory' width _ address aligned) r s is =
      let m = middle (type_name width record r { operators = 0 }) (square (operand_of 0 address ⨾ optional aligned_by aligned)) s is in
      let e = enclosed_of sign.OpenSquare (operand_of 0 address ⨾ optional aligned_by aligned) sign.CloseSquare m.at_ s m.next in
      let n = middle (operand_of 0 address e.from) (optional aligned_by aligned) e.to e.is in
      let one : m.at_.taken ≡ suc r.taken = type_token width record r { operators = 0 } m.at_ m.first in
      let low : e.from.taken ≡ suc m.at_.taken = e.low in let high : s.taken ≡ suc e.to.taken = e.high in
      let w = width_at names width in
      let q : n.at_.taken + extra w (alignment w aligned) ≤ e.to.taken = aligned_costs w aligned n.at_ e.to n.next in
      let o = operand expressions names address in
      let one_more_ : suc e.from.taken ≤ n.at_.taken = row_strict _ address e.from n.at_ n.first in
      let k : e.from.taken + expression_tokens 1 (operand_in o) ≤ n.at_.taken = operand_in_costs e.from.taken n.at_.taken o one_more_ (row_costs 1 0 _ address e.from n.at_ n.first (omega arith)) in
      omega (arith, grows (operand_in o) 0 1 (omega arith))

  pub memory_strict : (m : Memory) (r s : Reading) → memory m r ≡ Some s → suc r.taken ≤ s.taken
  memory_strict m r s is = strict (InMemory m) r s is

  pub prim_strict : (p : Primary) (r s : Reading) → whole_prim p r ≡ Some s → suc r.taken ≤ s.taken
  prim_strict p r s is =
      let a = middle (here p.token record r { operators = 0 }) (prim_form p.form) s is in
      let same : a.at_.taken ≡ r.taken = here_taken p.token record r { operators = 0 } a.at_ a.first in
      let few : suc a.at_.taken ≤ s.taken = strict (Prim p.form) a.at_ s a.next in omega arith
