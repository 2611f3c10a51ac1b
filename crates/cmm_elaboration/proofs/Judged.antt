-- What stands for an expression is kept by its judgement: where each operation of an algebra gives what has the width that it is for, and each name
-- means what has its own, so has each expression. It is said once for what is known of values and for expressions with names resolved.
use mathlib.Core.Former.{one_more}
use Rattle.std.proofs.Common.{◌≡◌, ℕ, ◌^◌, refl, sym, ◌∙◌, subst, List, [], ◌∷◌, ◌++◌, Bool, true, false, Option, Some, None, Ok, Err, ◌⊎◌, inl, inr}
use Rattle.std.specs.Prelude.{flat_map, option_map, nat_lt, nat_le, ◌==◌}
use Rattle.std.proofs.lemmas.Grind.{flat_map-append}
use Rattle.cmm_words.specs.declared.width.Width.{Width}
use Rattle.cmm_words.specs.declared.width.Width.TheVariants.{W8, W16, W32, W64}
use Rattle.cmm_words.specs.declared.constant.Constant.TheVariants.{Number as NumberOf}
use Rattle.cmm_words.specs.declared.operators.Op1.{Op1}
use Rattle.cmm_words.specs.declared.operators.Op2.{Op2}
use Rattle.cmm_words.specs.declared.operators.Cmp.{Cmp}
use Rattle.cmm_words.specs.Widths.{bits, bytes}
use Rattle.cmm_ast.specs.declared.token.Ident.{Ident}
use Rattle.cmm_ast.specs.declared.token.Int.{Int}
use Rattle.cmm_ast.specs.declared.expression.Expr.{Expr}
use Rattle.cmm_ast.specs.declared.expression.ExprForm.{ExprForm, Row_of-Expr, end_of-Expr, more_of-Expr}
use Rattle.cmm_ast.specs.declared.expression.ExprForm.TheVariants.{Infix', Prefix', Prim, Memory as InMemory, Named'}
use Rattle.cmm_ast.specs.declared.expression.PrimForm.{PrimForm}
use Rattle.cmm_ast.specs.declared.expression.PrimForm.TheVariants.{Literal, Name as NameOf, Bracketed'}
use Rattle.cmm_ast.specs.declared.expression.Memory.{Memory, Memory'}
use Rattle.cmm_program.specs.Typing.{is_alignment}
use Rattle.cmm_rules.specs.declared.rule.Rule.TheVariants.{WidthsDiffer, LiteralDoesNotFit}
use Rattle.cmm_static_semantics.specs.declared.spot.Spot.{Spot}
use Rattle.cmm_static_semantics.specs.declared.operator.Operator.{Operator}
use Rattle.cmm_static_semantics.specs.declared.operator.Operator.TheVariants.{Unary, Binary, Compare, Not, Conjoin, Disjoin, SignExtend, ZeroExtend, LowBits}
use Rattle.cmm_static_semantics.specs.declared.sense.Sense.{Sense}
use Rattle.cmm_static_semantics.specs.declared.sense.Sense.TheVariants.{Variable, Register, Value, Broken, Stackdata, Continuation, Typedef, CodeLabel, Host}
use Rattle.cmm_static_semantics.specs.declared.judged.Bits.{Bits}
use Rattle.cmm_static_semantics.specs.declared.judged.Typed.{Typed}
use Rattle.cmm_static_semantics.specs.declared.judged.Typed.TheVariants as typed
use Rattle.cmm_static_semantics.specs.declared.judged.Operand.{Operand}
use Rattle.cmm_static_semantics.specs.declared.judged.Operands.{Operands}
use Rattle.cmm_static_semantics.specs.declared.judged.Operands.TheVariants as operands
use Rattle.cmm_static_semantics.specs.Senses.{Senses, constant_width}
use Rattle.cmm_static_semantics.specs.Operators.{operator_named, infix_operator, prefix_operator}
use Rattle.cmm_static_semantics.specs.Algebras.{Algebra}
use Rattle.cmm_static_semantics.specs.Judging.{Judged, faulty, with_ok, with_both, as_bits, as_test, as_wanted, of_width, bits_of, test_of}
use Rattle.cmm_static_semantics.specs.Mentions.{values_alone, form_names, row_names, prim_names, memory_names, expr_names, form_alignments, row_alignments, prim_alignments, memory_alignments, ident, listed}
use Rattle.cmm_static_semantics.specs.Expressions.{is_not_host, host_spots, alignment_spots, inner_spots}
use Rattle.cmm_static_semantics.specs.Typing.{with_values, type_width, number_value, literal_width, alignment, name_type, literal, alike, unary, binary, compared, converted, extended, shortened, applied_to_one, applied_to_two, both, applied, given_with, with_operand, load, operand_at, form_type, operand, given_operands, prim_type, memory_type, expr_type}
use Rattle.cmm_elaboration.proofs.Nothing.{no_left, no_right, no_unless}

-- ---- what holds of a judgement, where it is one, and of what is there

abbrev pub Holds : {A : Type 0} → (A → Type 0) → Judged A → Type 0
Holds P (Ok a) = P a
Holds P (Err broken) = Unit {0}

pub holds_with : {A B : Type 0} (P : A → Type 0) (Q : B → Type 0) (j : Judged A) (next : A → Judged B) → Holds P j → ((a : A) → P a → Holds Q (next a)) → Holds Q (with_ok j next)
holds_with P Q (Ok a) next h each = each a h
holds_with P Q (Err broken) next h each = tt

pub holds_both : {A B C : Type 0} (P : A → Type 0) (Q : B → Type 0) (R : C → Type 0) (i : Judged A) (j : Judged B) (next : A → B → Judged C) →
    Holds P i → Holds Q j → ((a : A) (b : B) → P a → Q b → Holds R (next a b)) → Holds R (with_both i j next)
holds_both P Q R (Ok a) (Ok b) next h k each = each a b h k
holds_both P Q R (Ok a) (Err y) next h k each = tt
holds_both P Q R (Err x) (Ok b) next h k each = tt
holds_both P Q R (Err x) (Err y) next h k each = tt

abbrev pub OnSome : {A : Type 0} → (A → Type 0) → Option A → Type 0
OnSome P (Some a) = P a
OnSome P None = Unit {0}

pub some_map : {A B : Type 0} (P : A → Type 0) (Q : B → Type 0) (f : A → B) (o : Option A) → ((a : A) → P a → Q (f a)) → OnSome P o → OnSome Q (option_map f o)
some_map P Q f (Some a) each h = each a h
some_map P Q f None each h = tt

pub some_both : {A B C : Type 0} (P : A → Type 0) (Q : B → Type 0) (R : C → Type 0) (made : A → B → C) (o : Option A) (p : Option B) →
    ((a : A) (b : B) → P a → Q b → R (made a b)) → OnSome P o → OnSome Q p → OnSome R (with_values o p made)
some_both P Q R made (Some a) (Some b) each h k = each a b h k
some_both P Q R made (Some a) None each h k = tt
some_both P Q R made None (Some b) each h k = tt
some_both P Q R made None None each h k = tt

always : {A : Type 0} (j : Judged A) → Holds (λ a. Unit {0}) j
always (Ok a) = tt
always (Err broken) = tt

-- ---- widths of as many bits are one

pub same_bits : (v w : Width) → (bits v == bits w) ≡ true → v ≡ w
same_bits W8 W8 e = refl
same_bits W8 W16 e = cc
same_bits W8 W32 e = cc
same_bits W8 W64 e = cc
same_bits W16 W8 e = cc
same_bits W16 W16 e = refl
same_bits W16 W32 e = cc
same_bits W16 W64 e = cc
same_bits W32 W8 e = cc
same_bits W32 W16 e = cc
same_bits W32 W32 e = refl
same_bits W32 W64 e = cc
same_bits W64 W8 e = cc
same_bits W64 W16 e = cc
same_bits W64 W32 e = cc
same_bits W64 W64 e = refl

-- ---- what an algebra keeps

pub record IsKept {E C : Type 0} (algebra : Algebra E C) (Fits : Width → E → Type 0) (Is : C → Type 0) : Type 0 where
  pub constant : (value : ℕ) (width : Width) → nat_lt value (2 ^ bits width) ≡ true → Fits width (algebra.constant (NumberOf value width))
  pub load : (width : Width) (aligned : ℕ) (a : E) → is_alignment aligned ≡ true → Fits W64 a → Fits width (algebra.load width aligned a)
  pub unary : (op : Op1) (width : Width) (a : E) → Fits width a → Fits width (algebra.unary op width a)
  pub binary : (op : Op2) (width : Width) (a b : E) → Fits width a → Fits width b → Fits width (algebra.binary op width a b)
  pub sign_extend : (from to : Width) (a : E) → nat_le (bits from) (bits to) ≡ true → Fits from a → Fits to (algebra.sign_extend from to a)
  pub zero_extend : (from to : Width) (a : E) → nat_le (bits from) (bits to) ≡ true → Fits from a → Fits to (algebra.zero_extend from to a)
  pub low_part : (from to : Width) (a : E) → nat_le (bits to) (bits from) ≡ true → Fits from a → Fits to (algebra.low_part from to a)
  pub compare : (cmp : Cmp) (width : Width) (a b : E) → Fits width a → Fits width b → Is (algebra.compare cmp width a b)
  pub negated : (c : C) → Is c → Is (algebra.negated c)
  pub conjoined : (c d : C) → Is c → Is d → Is (algebra.conjoined c d)
  pub disjoined : (c d : C) → Is c → Is d → Is (algebra.disjoined c d)

-- what names mean has its width
abbrev pub SenseFits : {E C : Type 0} → Algebra E C → (Width → E → Type 0) → Option Sense → Type 0
SenseFits algebra Fits (Some (Variable n (Some width))) = Fits width (algebra.variable n width)
SenseFits algebra Fits (Some (Variable n None)) = Unit {0}
SenseFits algebra Fits (Some (Register n (Some width))) = Fits width (algebra.register n width)
SenseFits algebra Fits (Some (Register n None)) = Unit {0}
SenseFits algebra Fits (Some (Value c)) = Fits (constant_width c) (algebra.constant c)
SenseFits algebra Fits (Some (Stackdata n)) = Fits W64 (algebra.stackdata n)
SenseFits algebra Fits (Some (Continuation n)) = Fits W64 (algebra.continuation n)
SenseFits algebra Fits (Some (Broken width)) = Unit {0}
SenseFits algebra Fits (Some (Typedef width)) = Unit {0}
SenseFits algebra Fits (Some CodeLabel) = Unit {0}
SenseFits algebra Fits (Some (Host h)) = Unit {0}
SenseFits algebra Fits None = Unit {0}

-- ---- expressions without names of the host and with alignments of the language, unless the algebra keeps those too

-- nothing is broken, or this holds
abbrev pub NoneOr : List Spot → Type 0 → Type 0
NoneOr spots Or = (spots ≡ []) ⊎ Or

left_none : (xs ys zs : List Spot) (Or : Type 0) → zs ≡ xs ++ ys → NoneOr zs Or → NoneOr xs Or
left_none xs ys zs Or is (inl none) = inl (no_left xs ys (sym is ∙ none))
left_none xs ys zs Or is (inr other) = inr other

right_none : (xs ys zs : List Spot) (Or : Type 0) → zs ≡ xs ++ ys → NoneOr zs Or → NoneOr ys Or
right_none xs ys zs Or is (inl none) = inl (no_right xs ys (sym is ∙ none))
right_none xs ys zs Or is (inr other) = inr other

-- what an algebra may keep of names of the host, and of words in memory whatever their alignment
pub record Alternatives : Type 1 where
  pub hosts : Type 0
  pub loads : Type 0

pub record IsClean (or_else : Alternatives) (names : Senses) (is : List Ident) (ks : List Int) : Type 0 where
  pub hosts : NoneOr (flat_map (host_spots names) is) or_else.hosts
  pub alignments : NoneOr (flat_map alignment_spots ks) or_else.loads

first_part : (or_else : Alternatives) (names : Senses) (is js : List Ident) (ks ls : List Int) → IsClean or_else names (is ++ js) (ks ++ ls) → IsClean or_else names is ks
first_part or_else names is js ks ls clean = record {
  hosts = left_none (flat_map (host_spots names) is) (flat_map (host_spots names) js) _ _ (flat_map-append (host_spots names) is js) clean.hosts;
  alignments = left_none (flat_map alignment_spots ks) (flat_map alignment_spots ls) _ _ (flat_map-append alignment_spots ks ls) clean.alignments;
}

second_part : (or_else : Alternatives) (names : Senses) (is js : List Ident) (ks ls : List Int) → IsClean or_else names (is ++ js) (ks ++ ls) → IsClean or_else names js ls
second_part or_else names is js ks ls clean = record {
  hosts = right_none (flat_map (host_spots names) is) (flat_map (host_spots names) js) _ _ (flat_map-append (host_spots names) is js) clean.hosts;
  alignments = right_none (flat_map alignment_spots ks) (flat_map alignment_spots ls) _ _ (flat_map-append alignment_spots ks ls) clean.alignments;
}

own_alignment : (width : Width) → is_alignment (bytes width) ≡ true
own_alignment W8 = refl
own_alignment W16 = refl
own_alignment W32 = refl
own_alignment W64 = refl

pub alignment_is : (width : Width) (k : Option Int) → flat_map alignment_spots (listed k) ≡ [] → is_alignment (alignment width k) ≡ true
alignment_is width None none = own_alignment width
alignment_is width (Some k) none = no_unless (is_alignment k.value) _ k.token (no_left _ [] none)

-- ---- the judgement

module _ {E C : Type 0} (algebra : Algebra E C) (Fits : Width → E → Type 0) (Is : C → Type 0) where
  abbrev pub BitsFit : Bits E → Type 0
  BitsFit x = OnSome (Fits x.width) x.value

  abbrev pub TypedFits : Typed E C → Type 0
  TypedFits (typed.Bits x) = BitsFit x
  TypedFits (typed.Test c) = OnSome Is c

  abbrev pub OperandFits : Operand E C → Type 0
  OperandFits o = TypedFits o.typed

  abbrev OperandsFit : Operands E C → Type 0
  OperandsFit operands.Zero = Unit {0}
  OperandsFit (operands.One a) = OperandFits a
  OperandsFit (operands.Two a b) = OperandFits a × OperandFits b
  OperandsFit operands.More = Unit {0}

  pub bits_fit : (token : ℕ) (t : Typed E C) → TypedFits t → Holds BitsFit (as_bits token t)
  bits_fit token (typed.Bits x) h = h
  bits_fit token (typed.Test c) h = tt

  pub test_fits : (token : ℕ) (t : Typed E C) → TypedFits t → Holds (OnSome Is) (as_test token t)
  test_fits token (typed.Bits x) h = tt
  test_fits token (typed.Test c) h = h

  -- what is wanted has the width too
  abbrev pub WantedFit : Width → Bits E → Type 0
  WantedFit wanted x = BitsFit x × (x.width ≡ wanted)

  by_width : (wanted : Width) (token : ℕ) (x : Bits E) (b : Bool) → (bits x.width == bits wanted) ≡ b → BitsFit x →
      Holds (WantedFit wanted) (elim b [ true ↦ Ok x | false ↦ faulty WidthsDiffer token ])
  by_width wanted token x true is h = (h, same_bits x.width wanted is)
  by_width wanted token x false is h = tt

  pub width_fits : (wanted : Width) (token : ℕ) (x : Bits E) → BitsFit x → Holds (WantedFit wanted) (of_width wanted token x)
  width_fits wanted token x h = by_width wanted token x (bits x.width == bits wanted) refl h

  pub wanted_fits : (wanted : Width) (token : ℕ) (t : Typed E C) → TypedFits t → Holds (WantedFit wanted) (as_wanted (Some wanted) token t)
  wanted_fits wanted token t h = holds_with BitsFit (WantedFit wanted) (as_bits token t) (of_width wanted token) (bits_fit token t h) (width_fits wanted token)

  -- ---- operators

  -- what the algebra may keep of names of the host, and of words in memory whatever their alignment
  abbrev pub or_else : Alternatives
  or_else = record {
    hosts = Fits W64 (algebra.continuation 0);
    loads = (width : Width) (aligned : ℕ) (a : E) → Fits W64 a → Fits width (algebra.load width aligned a);
  }

  module _ (kept : IsKept algebra Fits Is) where
    alike_fit : (a b : Operand E C) (next : Bits E → Bits E → Judged (Typed E C)) → OperandFits a → OperandFits b →
        ((v w : Bits E) → BitsFit v → WantedFit v.width w → Holds TypedFits (next v w)) → Holds TypedFits (alike algebra a b next)
    alike_fit a b next h k each =
        holds_both BitsFit BitsFit TypedFits (bits_of a) (bits_of b) (λ v w. with_ok (of_width v.width b.token w) (next v))
        (bits_fit a.token a.typed h) (bits_fit b.token b.typed k)
        (λ v w fits fits'. holds_with (WantedFit v.width) TypedFits (of_width v.width b.token w) (next v) (width_fits v.width b.token w fits') (λ x is. each v x fits is))

    unary_fits : (op : Op1) (w : Bits E) → BitsFit w → TypedFits (unary algebra op w)
    unary_fits op w h = some_map (Fits w.width) (Fits w.width) (algebra.unary op w.width) w.value (kept.unary op w.width) h

    moved_to : (v : Width) (w : Bits E) → WantedFit v w → OnSome (Fits v) w.value
    moved_to v w h = subst (λ u. OnSome (Fits u) w.value) h.1 h.0

    binary_fits : (op : Op2) (v w : Bits E) → BitsFit v → WantedFit v.width w → TypedFits (binary algebra op v w)
    binary_fits op v w h k =
        some_both (Fits v.width) (Fits v.width) (Fits v.width) (algebra.binary op v.width) v.value w.value (kept.binary op v.width) h (moved_to v.width w k)

    compared_fits : (cmp : Cmp) (v w : Bits E) → BitsFit v → WantedFit v.width w → TypedFits (compared algebra cmp v w)
    compared_fits cmp v w h k = some_both (Fits v.width) (Fits v.width) Is (algebra.compare cmp v.width) v.value w.value (kept.compare cmp v.width) h (moved_to v.width w k)

    converted_fits : (allowed : Bool) (token : ℕ) (to : Width) (made : Width → Width → E → E) (w : Bits E) →
        (allowed ≡ true → (a : E) → Fits w.width a → Fits to (made w.width to a)) → BitsFit w → Holds TypedFits (converted algebra allowed token to made w)
    converted_fits true token to made w each h = some_map (Fits w.width) (Fits to) (made w.width to) w.value (each refl) h
    converted_fits false token to made w each h = tt

    extended_fits : (token : ℕ) (to : Width) (made : Width → Width → E → E) (w : Bits E) →
        ((from : Width) (a : E) → nat_le (bits from) (bits to) ≡ true → Fits from a → Fits to (made from to a)) → BitsFit w → Holds TypedFits (extended algebra token to made w)
    extended_fits token to made w each h = converted_fits (nat_le (bits w.width) (bits to)) token to made w (λ is a. each w.width a is) h

    shortened_fits : (token : ℕ) (to : Width) (w : Bits E) → BitsFit w → Holds TypedFits (shortened algebra token to w)
    shortened_fits token to w h = converted_fits (nat_le (bits to) (bits w.width)) token to algebra.low_part w (λ is a. kept.low_part w.width to a is) h

    pub one_fits : (o : Operator) (token : ℕ) (a : Operand E C) → OperandFits a → Holds TypedFits (applied_to_one algebra o token a)
    one_fits (Unary op) token a h = holds_with BitsFit TypedFits (bits_of a) (λ w. Ok (unary algebra op w)) (bits_fit a.token a.typed h) (unary_fits op)
    one_fits Not token a h =
        holds_with (OnSome Is) TypedFits (test_of a) (λ p. Ok (typed.Test (option_map algebra.negated p))) (test_fits a.token a.typed h)
        (λ p is. some_map Is Is algebra.negated p kept.negated is)
    one_fits (SignExtend to) token a h = holds_with BitsFit TypedFits (bits_of a) (extended algebra a.token to algebra.sign_extend) (bits_fit a.token a.typed h)
        (λ w fits. extended_fits a.token to algebra.sign_extend w (λ from x. kept.sign_extend from to x) fits)
    one_fits (ZeroExtend to) token a h = holds_with BitsFit TypedFits (bits_of a) (extended algebra a.token to algebra.zero_extend) (bits_fit a.token a.typed h)
        (λ w fits. extended_fits a.token to algebra.zero_extend w (λ from x. kept.zero_extend from to x) fits)
    one_fits (LowBits to) token a h = holds_with BitsFit TypedFits (bits_of a) (shortened algebra a.token to) (bits_fit a.token a.typed h) (shortened_fits a.token to)
    one_fits (Binary op) token a h = tt
    one_fits (Compare cmp) token a h = tt
    one_fits Conjoin token a h = tt
    one_fits Disjoin token a h = tt

    both_fit : (made : C → C → C) (a b : Operand E C) → ((c d : C) → Is c → Is d → Is (made c d)) → OperandFits a → OperandFits b → Holds TypedFits (both algebra made a b)
    both_fit made a b each h k =
        holds_both (OnSome Is) (OnSome Is) TypedFits (test_of a) (test_of b) (λ p q. Ok (typed.Test (with_values p q made))) (test_fits a.token a.typed h) (test_fits b.token b.typed k)
        (λ p q is is'. some_both Is Is Is made p q each is is')

    pub two_fit : (o : Operator) (token : ℕ) (a b : Operand E C) → OperandFits a → OperandFits b → Holds TypedFits (applied_to_two algebra o token a b)
    two_fit (Binary op) token a b h k = alike_fit a b (λ v w. Ok (binary algebra op v w)) h k (binary_fits op)
    two_fit (Compare cmp) token a b h k = alike_fit a b (λ v w. Ok (compared algebra cmp v w)) h k (compared_fits cmp)
    two_fit Conjoin token a b h k = both_fit algebra.conjoined a b kept.conjoined h k
    two_fit Disjoin token a b h k = both_fit algebra.disjoined a b kept.disjoined h k
    two_fit (Unary op) token a b h k = tt
    two_fit Not token a b h k = tt
    two_fit (SignExtend to) token a b h k = tt
    two_fit (ZeroExtend to) token a b h k = tt
    two_fit (LowBits to) token a b h k = tt

    applied_fits : (token : ℕ) (o : Option Operator) (given : Operands E C) → OperandsFit given → Holds TypedFits (applied algebra token o given)
    applied_fits token (Some o) (operands.One a) h = one_fits o token a h
    applied_fits token (Some o) (operands.Two a b) h = two_fit o token a b h.0 h.1
    applied_fits token (Some o) operands.Zero h = tt
    applied_fits token (Some o) operands.More h = tt
    applied_fits token None given h = tt

    given_fit : (given : Operands E C) (o : Operand E C) → OperandsFit given → OperandFits o → OperandsFit (given_with algebra given o)
    given_fit operands.Zero o h k = k
    given_fit (operands.One a) o h k = (h, k)
    given_fit (operands.Two a b) o h k = tt
    given_fit operands.More o h k = tt

    with_fit : (given : Judged (Operands E C)) (o : Judged (Operand E C)) → Holds OperandsFit given → Holds OperandFits o → Holds OperandsFit (with_operand algebra given o)
    with_fit given o h k = holds_both OperandsFit OperandFits OperandsFit given o (λ os a. Ok (given_with algebra os a)) h k given_fit

    pub operand_fits : (token : ℕ) (j : Judged (Typed E C)) → Holds TypedFits j → Holds OperandFits (operand_at algebra token j)
    operand_fits token j h = holds_with TypedFits OperandFits j (λ t. Ok record { token = token; typed = t }) h (λ t fits. fits)

    -- ---- leaves

    by_fitting : (token value : ℕ) (width : Width) (b : Bool) → nat_lt value (2 ^ bits width) ≡ b →
        Holds TypedFits (elim b [ true ↦ Ok (typed.Bits record { width = width; value = Some (algebra.constant (NumberOf value width)) }) | false ↦ faulty LiteralDoesNotFit token ])
    by_fitting token value width true is = kept.constant value width is
    by_fitting token value width false is = tt

    pub literal_fits : (token value : ℕ) (width : Width) → Holds TypedFits (literal algebra token value width)
    literal_fits token value width = by_fitting token value width (nat_lt value (2 ^ bits width)) refl

    own_host : (names : Senses) (name : List ℕ) (token : ℕ) → NoneOr (flat_map (host_spots names) (ident name token ∷ [])) or_else.hosts → (is_not_host (names name) ≡ true) ⊎ or_else.hosts
    own_host names name token (inl none) = inl (no_unless (is_not_host (names name)) _ token (no_left _ [] none))
    own_host names name token (inr fits) = inr fits

    loaded_fits : (width : Width) (k : Option Int) (a : E) → NoneOr (flat_map alignment_spots (listed k)) or_else.loads → Fits W64 a → Fits width (algebra.load width (alignment width k) a)
    loaded_fits width k a (inl none) h = kept.load width (alignment width k) a (alignment_is width k none) h
    loaded_fits width k a (inr fits) h = fits width (alignment width k) a h

    pub name_fits : (token : ℕ) (sense : Option Sense) → (is_not_host sense ≡ true) ⊎ or_else.hosts → SenseFits algebra Fits sense → Holds TypedFits (name_type algebra token sense)
    name_fits token (Some (Variable n (Some width))) own h = h
    name_fits token (Some (Variable n None)) own h = tt
    name_fits token (Some (Register n (Some width))) own h = h
    name_fits token (Some (Register n None)) own h = tt
    name_fits token (Some (Value c)) own h = h
    name_fits token (Some (Broken (Some width))) own h = tt
    name_fits token (Some (Broken None)) own h = tt
    name_fits token (Some (Stackdata n)) own h = h
    name_fits token (Some (Continuation n)) own h = h
    name_fits token (Some (Typedef width)) own h = tt
    name_fits token (Some CodeLabel) own h = tt
    name_fits token (Some (Host x)) (inl own) h = let bad : false ≡ true = own in cc
    name_fits token (Some (Host x)) (inr fits) h = fits
    name_fits token None own h = tt

    -- ---- expressions

    module _ (names : Senses) (sound : (name : List ℕ) → SenseFits algebra Fits (names name)) where
      mutual
        pub form_fits : (token : ℕ) (f : ExprForm) → IsClean or_else names (form_names values_alone token f) (form_alignments f) → Holds TypedFits (form_type algebra names token f)
        form_fits token (Infix' _ left o _ right) clean =
            holds_both OperandFits OperandFits TypedFits (operand algebra names left) (operand algebra names right) (applied_to_two algebra (infix_operator o) token)
            (row_fits left (first_part or_else names (row_names values_alone left) (row_names values_alone right) (row_alignments left) (row_alignments right) clean))
            (row_fits right (second_part or_else names (row_names values_alone left) (row_names values_alone right) (row_alignments left) (row_alignments right) clean))
            (two_fit (infix_operator o) token)
        form_fits token (Prefix' o _ a) clean =
            holds_with OperandFits TypedFits (operand algebra names a) (applied_to_one algebra (prefix_operator o) token) (row_fits a clean) (one_fits (prefix_operator o) token)
        form_fits token (Prim prim) clean = prim_fits token prim clean
        form_fits token (InMemory m) clean = memory_fits m clean
        form_fits token (Named' o _ given) clean =
            holds_with OperandsFit TypedFits (given_operands algebra names (Ok operands.Zero) given) (applied algebra token (operator_named o))
            (rest_fit (Ok operands.Zero) given tt clean) (applied_fits token (operator_named o))

        pub row_fits : {n : _} (row : Row_of-Expr (one_more n)) → IsClean or_else names (row_names values_alone row) (row_alignments row) → Holds OperandFits (operand algebra names row)
        row_fits (more_of-Expr token form rest) clean =
            operand_fits token (form_type algebra names token form)
            (form_fits token form (first_part or_else names (form_names values_alone token form) (row_names values_alone rest) (form_alignments form) (row_alignments rest) clean))

        rest_fit : {n : _} (before : Judged (Operands E C)) (row : Row_of-Expr n) → Holds OperandsFit before → IsClean or_else names (row_names values_alone row) (row_alignments row) →
            Holds OperandsFit (given_operands algebra names before row)
        rest_fit before end_of-Expr h clean = h
        rest_fit before (more_of-Expr token form rest) h clean =
            rest_fit (with_operand algebra before (operand_at algebra token (form_type algebra names token form))) rest
            (with_fit before (operand_at algebra token (form_type algebra names token form)) h
            (operand_fits token (form_type algebra names token form)
            (form_fits token form (first_part or_else names (form_names values_alone token form) (row_names values_alone rest) (form_alignments form) (row_alignments rest) clean))))
            (second_part or_else names (form_names values_alone token form) (row_names values_alone rest) (form_alignments form) (row_alignments rest) clean)

        prim_fits : (token : ℕ) (prim : PrimForm) → IsClean or_else names (prim_names values_alone token prim) (prim_alignments prim) → Holds TypedFits (prim_type algebra names token prim)
        prim_fits token (Literal n t) clean =
            holds_with (λ w. Unit {0}) TypedFits (literal_width names n t) (literal algebra token (number_value n)) (always (literal_width names n t)) (λ w h. literal_fits token (number_value n) w)
        prim_fits token (NameOf name) clean =
            name_fits token (names name) (own_host names name token clean.hosts) (sound name)
        prim_fits token (Bracketed' _ (more_of-Expr first form rest)) clean =
            form_fits first form (first_part or_else names (form_names values_alone first form) (row_names values_alone rest) (form_alignments form) (row_alignments rest) clean)

        memory_fits : (m : Memory) → IsClean or_else names (memory_names values_alone m) (memory_alignments m) → Holds TypedFits (memory_type algebra names m)
        memory_fits (Memory' width _ address aligned) clean =
            let is = row_names values_alone address in let ks = row_alignments address in
            let own : IsClean or_else names is ks = record {
              hosts = clean.hosts;
              alignments = left_none (flat_map alignment_spots ks) (flat_map alignment_spots (listed aligned)) _ _ (flat_map-append alignment_spots ks (listed aligned)) clean.alignments;
            } in
            let given : NoneOr (flat_map alignment_spots (listed aligned)) or_else.loads =
            right_none (flat_map alignment_spots ks) (flat_map alignment_spots (listed aligned)) _ _ (flat_map-append alignment_spots ks (listed aligned)) clean.alignments in
            holds_both (λ w. Unit {0}) OperandFits TypedFits (type_width names width) (operand algebra names address) (load algebra aligned)
            (always (type_width names width)) (row_fits address own)
            (λ w o h fits. holds_with (WantedFit W64) TypedFits (as_wanted (Some W64) o.token o.typed)
            (λ a. Ok (typed.Bits record { width = w; value = option_map (algebra.load w (alignment w aligned)) a.value }))
            (wanted_fits W64 o.token o.typed fits)
            (λ a is'. some_map (Fits W64) (Fits w) (algebra.load w (alignment w aligned)) a.value
            (λ x. loaded_fits w aligned x given) (moved_to W64 a is')))

      -- an expression in which no host is named and no alignment is another than the language's, or of which the algebra keeps those too
      pub clean_fits : (e : Expr) → IsClean or_else names (expr_names values_alone e) (form_alignments e.form) → Holds TypedFits (expr_type algebra names e)
      clean_fits e clean = form_fits e.token e.form clean

      pub expression_fits : (e : Expr) → inner_spots names e ≡ [] → Holds TypedFits (expr_type algebra names e)
      expression_fits e none = clean_fits e record {
        hosts = inl (no_left _ (flat_map alignment_spots (form_alignments e.form)) none);
        alignments = inl (no_right (flat_map (host_spots names) (expr_names values_alone e)) _ none);
      }
