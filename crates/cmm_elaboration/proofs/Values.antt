-- What stands for the values and conditions of statements that break no rule: it has the width that is wanted.
use Rattle.std.proofs.Common.{◌≡◌, ℕ, ◌≤◌, refl, sym, ap, ◌∙◌, subst, Bool, true, false, List, [], ◌∷◌, ◌++◌, Option, Some, None, Ok, Err, length, inl, inr, ◌⊎◌}
use Rattle.std.specs.Prelude.{flat_map, IfSome, ◌==◌}
use Rattle.std.specs.List.{list_all}
use Rattle.std.proofs.lemmas.Bool.{le-leb, and_from}
use Rattle.std.proofs.lemmas.List.{length-map}
use Rattle.cmm_words.specs.declared.width.Width.{Width}
use Rattle.cmm_words.specs.declared.width.Width.TheVariants.{W64}
use Rattle.cmm_words.specs.Widths.{bits}
use Rattle.cmm_ast.specs.declared.expression.Expr.{Expr}
use Rattle.cmm_ast.specs.declared.expression.ExprForm.TheVariants.{Prim}
use Rattle.cmm_ast.specs.declared.expression.PrimForm.TheVariants.{Name as NameOf}
use Rattle.cmm_ast.specs.declared.statement.Actual.{Actual}
use Rattle.cmm_ast.specs.declared.statement.Callee.{Callee}
use Rattle.cmm_ast.specs.declared.statement.CalleeForm.{CalleeForm}
use Rattle.cmm_ast.specs.declared.statement.CalleeForm.TheVariants as callees
use Rattle.cmm_program.specs.declared.expression.Expression.{Expression}
use Rattle.cmm_program.specs.declared.expression.Condition.{Condition}
use Rattle.cmm_program.specs.declared.procedure.Proc.{Proc}
use Rattle.cmm_program.specs.declared.program.Program.{Program}
use Rattle.cmm_program.specs.InRange.{are_passed, at_most_64}
use Rattle.cmm_program.specs.Typing.{has_width, is_typed, is_condition, typed as width_of}
use Rattle.cmm_rules.specs.declared.rule.Rule.TheVariants.{WidthsDiffer, BadHostCall, TooManyValues}
use Rattle.cmm_static_semantics.specs.declared.judged.Bits.{Bits}
use Rattle.cmm_static_semantics.specs.declared.judged.Typed.{Typed}
use Rattle.cmm_static_semantics.specs.declared.judged.Typed.TheVariants as typed
use Rattle.cmm_static_semantics.specs.declared.known.Known.{Known}
use Rattle.cmm_static_semantics.specs.declared.sense.Host.{Host}
use Rattle.cmm_static_semantics.specs.declared.sense.Host.TheVariants as hosts
use Rattle.cmm_static_semantics.specs.declared.sense.Sense.{Sense}
use Rattle.cmm_static_semantics.specs.declared.sense.Sense.TheVariants as meanings
use Rattle.cmm_static_semantics.specs.Senses.{Senses}
use Rattle.cmm_static_semantics.specs.Spots.{unless}
use Rattle.cmm_static_semantics.specs.Algebras.{knowns, expressions}
use Rattle.cmm_static_semantics.specs.Judging.{Judged, faulty, with_ok, as_bits, as_test, as_wanted, of_width, spots}
use Rattle.cmm_static_semantics.specs.Laws.{presence, bits_presence, typed_presence, judged_map}
use Rattle.cmm_static_semantics.specs.Mentions.{values_alone, expr_names}
use Rattle.cmm_static_semantics.specs.Typing.{expr_type, wanted, of_memory}
use Rattle.cmm_static_semantics.specs.Expressions.{is_not_host, inner_spots, bits_spots, test_spots}
use Rattle.cmm_static_semantics.specs.Calls.{first_token, too_many_actuals, actuals_spots, called_host, callee_spots}
use Rattle.cmm_static_semantics.specs.Scopes.{Scope, senses}
use Rattle.cmm_static_semantics.proofs.Shared.{judged_alike}
use Rattle.cmm_elaboration.specs.Fitting.{NamesFit, JudgedFits}
use Rattle.cmm_elaboration.specs.Resolving.{value_in, value_of, values_of, condition_in, condition_of, callee_of}
use Rattle.cmm_elaboration.specs.Sites.{is_yield}
use Rattle.cmm_elaboration.proofs.Nothing.{no_left, no_right}
use Rattle.cmm_elaboration.proofs.Judged.{same_bits}
use Rattle.cmm_elaboration.proofs.Widths.{has_own, widths_are_kept}
use Rattle.cmm_elaboration.proofs.Keeping.{within}
use Rattle.cmm_elaboration.proofs.Wide.{IsWide}
use Rattle.cmm_elaboration.proofs.Whole.{Whole, Present, IsUnbroken, whole_with, TypedWhole, BitsWhole, test_whole, expression_whole, bits_wanted_whole}
use Rattle.cmm_elaboration.proofs.Settled.{whole_ok}
use Rattle.cmm_elaboration.proofs.Datums.{all_unbroken}

-- ---- what is judged well where something is wanted

pub record WasOk {A B : Type 0} (j : Judged A) (next : A → Judged B) (b : B) : Type 0 where
  pub value : A
  pub is : j ≡ Ok value
  pub then_ : next value ≡ Ok b

pub was_ok : {A B : Type 0} (j : Judged A) (next : A → Judged B) (b : B) → with_ok j next ≡ Ok b → WasOk j next b
was_ok (Ok a) next b is = record { value = a; is = refl; then_ = is }
was_ok (Err x) next b is = let bad : Err x ≡ Ok b = is in cc

pub ok_is : {A : Type 0} (j : Judged A) (a b : A) → j ≡ Ok a → j ≡ Ok b → a ≡ b
ok_is j a b x y = let e : Ok a ≡ Ok b = sym x ∙ y in cc

bits_are : {E C : Type 0} (token : ℕ) (t : Typed E C) (b : Bits E) → ◌≡◌ {A = Judged (Bits E)} (as_bits token t) (Ok b) → t ≡ typed.Bits b
bits_are token (typed.Bits x) b is = let one : x ≡ b = let e : Ok x ≡ Ok b = is in cc in ap typed.Bits one
bits_are token (typed.Test c) b is = cc

test_is : {E C : Type 0} (token : ℕ) (t : Typed E C) (c : Option C) → ◌≡◌ {A = Judged (Option C)} (as_test token t) (Ok c) → t ≡ typed.Test c
test_is token (typed.Bits x) c is = cc
test_is token (typed.Test d) c is = let one : d ≡ c = let e : Ok d ≡ Ok c = is in cc in ap typed.Test one

-- of a width that is wanted, if one is
abbrev pub OfWanted : Option Width → Width → Type 0
OfWanted None w = Unit {0}
OfWanted (Some v) w = w ≡ v

width_by : {E : Type 0} (v : Width) (token : ℕ) (x b : Bits E) (same : Bool) → (bits x.width == bits v) ≡ same →
    ◌≡◌ {A = Judged (Bits E)} (elim same [ true ↦ Ok x | false ↦ faulty WidthsDiffer token ]) (Ok b) → (x ≡ b) × (b.width ≡ v)
width_by v token x b true same is = let one : x ≡ b = let e : Ok x ≡ Ok b = is in cc in (one, subst (λ y. y.width ≡ v) one (same_bits x.width v same))
width_by v token x b false same is = cc

wanted_are : {E C : Type 0} (o : Option Width) (token : ℕ) (t : Typed E C) (b : Bits E) → ◌≡◌ {A = Judged (Bits E)} (as_wanted o token t) (Ok b) → (t ≡ typed.Bits b) × OfWanted o b.width
wanted_are None token t b is = (bits_are token t b is, tt)
wanted_are (Some v) token t b is =
    let first = was_ok (as_bits token t) (of_width v token) b is in
    let second = width_by v token first.value b (bits first.value.width == bits v) refl first.then_ in
    (bits_are token t first.value first.is ∙ ap typed.Bits second.0, second.1)

-- ---- the same with names resolved

abbrev width_judged : Judged (Typed (Unit {0}) (Unit {0})) → Width
width_judged (Ok (typed.Bits x)) = x.width
width_judged (Ok (typed.Test c)) = W64
width_judged (Err broken) = W64

module _ (p : Program) (q : Proc) where
  pub record IsValue (j : Judged (Typed Expression Condition)) (w : Width) : Type 0 where
    pub value : Expression
    pub is : value_in j ≡ value
    pub fits : width_of p q value ≡ Some w

  some_value : (o : Option Expression) (v w : Width) → w ≡ v → Present o → IfSome o (λ e. width_of p q e ≡ Some v) → IsValue (Ok (typed.Bits record { width = v; value = o })) w
  some_value (Some e) v w same h fits = record { value = e; is = refl; fits = fits ∙ ap Some (sym same) }
  some_value None v w same h fits = absurd h

  value_from : (j : Judged (Typed Expression Condition)) (b : Bits Known) → Ok (typed.Bits (bits_presence b)) ≡ judged_map typed_presence j → Whole (TypedWhole expressions) j → JudgedFits p q j → IsValue j b.width
  value_from (Ok (typed.Bits x)) b alike whole fits = some_value x.value x.width b.width (ap width_judged alike) whole fits
  value_from (Ok (typed.Test c)) b alike whole fits = cc
  value_from (Err x) b alike whole fits = cc

  some_test : (o : Option Condition) → Present o → IfSome o (λ t. is_condition p q t ≡ true) → is_condition p q (condition_in (Ok (typed.Test o))) ≡ true
  some_test (Some t) h fits = fits
  some_test None h fits = absurd h

  test_from : (j : Judged (Typed Expression Condition)) (c : Option (Unit {0})) → Ok (typed.Test (presence c)) ≡ judged_map typed_presence j → Whole (TypedWhole expressions) j → JudgedFits p q j →
      is_condition p q (condition_in j) ≡ true
  test_from (Ok (typed.Test t)) c alike whole fits = some_test t whole fits
  test_from (Ok (typed.Bits x)) c alike whole fits = cc
  test_from (Err x) c alike whole fits = cc

  some_tested : (o : Option Condition) → Present o → (t : Condition) × ◌≡◌ {A = Judged (Typed Expression Condition)} (Ok (typed.Test o)) (Ok (typed.Test (Some t)))
  some_tested (Some t) h = (t, refl)
  some_tested None h = absurd h

  tested_from : (j : Judged (Typed Expression Condition)) (c : Option (Unit {0})) → Ok (typed.Test (presence c)) ≡ judged_map typed_presence j → Whole (TypedWhole expressions) j →
      (t : Condition) × (j ≡ Ok (typed.Test (Some t)))
  tested_from (Ok (typed.Test t)) c alike whole = some_tested t whole
  tested_from (Ok (typed.Bits x)) c alike whole = cc
  tested_from (Err x) c alike whole = cc

  module _ (names : Senses) (fit : NamesFit p q names) (wide : (name : List ℕ) → IsWide (names name)) (unbroken : (name : List ℕ) → IsUnbroken (names name)) where
    -- bits that are wanted and break no rule
    pub record AreBits (o : Option Width) (e : Expr) : Type 0 where
      pub known : Bits Known
      pub judged : wanted knowns names o e ≡ Ok known
      pub typed_as : expr_type knowns names e ≡ Ok (typed.Bits known)
      pub wanted_is : OfWanted o known.width
      pub value : IsValue (expr_type expressions names e) known.width

    all_whole : (e : Expr) → Whole (TypedWhole expressions) (expr_type expressions names e)
    all_whole e = expression_whole expressions names wide e (all_unbroken names wide unbroken (expr_names values_alone e))

    pub bits_from : (o : Option Width) (e : Expr) (b : Bits Known) → wanted knowns names o e ≡ Ok b → inner_spots names e ≡ [] → AreBits o e
    bits_from o e b is inner =
        let first = was_ok (expr_type knowns names e) (as_wanted o e.token) b is in
        let second = wanted_are o e.token first.value b first.then_ in
        let whole = first.is ∙ ap Ok second.0 in
        record {
          known = b;
          judged = is;
          typed_as = whole;
          wanted_is = second.1;
          value = value_from (expr_type expressions names e) b (sym (ap (judged_map typed_presence) whole) ∙ judged_alike names e) (all_whole e) (widths_are_kept p q names fit e inner);
        }

    pub bits_are_there : (o : Option Width) (e : Expr) → bits_spots names o e ≡ [] → AreBits o e
    bits_are_there o e free =
        let b = whole_ok (BitsWhole knowns) (wanted knowns names o e) (bits_wanted_whole knowns names wide o e (all_unbroken names wide unbroken (expr_names values_alone e)))
        (no_left (spots (wanted knowns names o e)) (inner_spots names e) free) in
        bits_from o e b.0 b.1 (no_right (spots (wanted knowns names o e)) (inner_spots names e) free)

    -- so the value has the width
    pub wide_value : (o : Option Width) (e : Expr) (b : AreBits o e) → has_width p q b.known.width (value_of names e) ≡ true
    wide_value o e b = ap (has_width p q b.known.width) b.value.is ∙ has_own p q b.known.width b.value.value b.value.fits

    pub has_wanted : (w : Width) (e : Expr) → bits_spots names (Some w) e ≡ [] → has_width p q w (value_of names e) ≡ true
    has_wanted w e free = let b = bits_are_there (Some w) e free in subst (λ v. has_width p q v (value_of names e) ≡ true) b.wanted_is (wide_value (Some w) e b)

    pub is_some_width : (e : Expr) → bits_spots names None e ≡ [] → is_typed p q (value_of names e) ≡ true
    is_some_width e free = let b = bits_are_there None e free in
        ap (is_typed p q) b.value.is ∙ ap (λ t. elim t as (λ x. Bool) [ Some found ↦ true | None ↦ false ]) b.value.fits

    -- a condition that breaks no rule is one
    pub test_judged : (e : Expr) → test_spots names e ≡ [] → (t : Condition) × (expr_type expressions names e ≡ Ok (typed.Test (Some t)))
    test_judged e free =
        let next = as_test e.token in
        let c = whole_ok Present (with_ok (expr_type knowns names e) next)
        (whole_with (TypedWhole knowns) Present (expr_type knowns names e) next (expression_whole knowns names wide e (all_unbroken names wide unbroken (expr_names values_alone e))) (test_whole knowns e.token))
        (no_left (spots (with_ok (expr_type knowns names e) next)) (inner_spots names e) free) in
        let first = was_ok (expr_type knowns names e) next c.0 c.1 in
        let whole = first.is ∙ ap Ok (test_is e.token first.value c.0 first.then_) in
        tested_from (expr_type expressions names e) c.0 (sym (ap (judged_map typed_presence) whole) ∙ judged_alike names e) (all_whole e)

    pub test_is_there : (e : Expr) → test_spots names e ≡ [] → is_condition p q (condition_of names e) ≡ true
    test_is_there e free =
        let next = as_test e.token in
        let c = whole_ok Present (with_ok (expr_type knowns names e) next)
        (whole_with (TypedWhole knowns) Present (expr_type knowns names e) next (expression_whole knowns names wide e (all_unbroken names wide unbroken (expr_names values_alone e))) (test_whole knowns e.token))
        (no_left (spots (with_ok (expr_type knowns names e) next)) (inner_spots names e) free) in
        let first = was_ok (expr_type knowns names e) next c.0 c.1 in
        let whole = first.is ∙ ap Ok (test_is e.token first.value c.0 first.then_) in
        test_from (expr_type expressions names e) c.0 (sym (ap (judged_map typed_presence) whole) ∙ judged_alike names e) (all_whole e)
        (widths_are_kept p q names fit e (no_right (spots (with_ok (expr_type knowns names e) next)) (inner_spots names e) free))

-- ---- what is passed, and what is called

abbrev yields : Option Sense → Bool
yields o = elim (elim o as (λ x. Option Host) [ Some sense ↦ elim sense as (λ x. Option Host) [ meanings.Host h ↦ Some h | _ ↦ None ] | None ↦ None ]) as (λ x. Bool) [
  | Some h ↦ elim h as (λ x. Bool) [ hosts.Yield ↦ true | hosts.PutByte ↦ false | hosts.GetByte ↦ false ]
  | None ↦ false
]

-- `yield` may be called, or isn't
abbrev pub NoYield : Bool → Bool → Type 0
NoYield allowed yielding = (allowed ≡ false) ⊎ (yielding ≡ false)

not_host : (allowed : Bool) (token : ℕ) (sense : Option Sense) → called_host allowed token sense ≡ [] → NoYield allowed (yields sense) → is_not_host sense ≡ true
not_host true token (Some (meanings.Host hosts.Yield)) free (inl never) = let bad : true ≡ false = never in cc
not_host true token (Some (meanings.Host hosts.Yield)) free (inr never) = let bad : true ≡ false = never in cc
not_host false token (Some (meanings.Host hosts.Yield)) free never = cc
not_host allowed token (Some (meanings.Host hosts.PutByte)) free never = cc
not_host allowed token (Some (meanings.Host hosts.GetByte)) free never = cc
not_host allowed token (Some (meanings.Variable n w)) free never = refl
not_host allowed token (Some (meanings.Register n w)) free never = refl
not_host allowed token (Some (meanings.Value c)) free never = refl
not_host allowed token (Some (meanings.Broken w)) free never = refl
not_host allowed token (Some (meanings.Stackdata n)) free never = refl
not_host allowed token (Some (meanings.Continuation n)) free never = refl
not_host allowed token (Some (meanings.Typedef w)) free never = refl
not_host allowed token (Some meanings.CodeLabel) free never = refl
not_host allowed token None free never = refl

module _ (p : Program) (q : Proc) (s : Scope) (fit : NamesFit p q (senses s)) (wide : (name : List ℕ) → IsWide (senses s name)) (unbroken : (name : List ℕ) → IsUnbroken (senses s name)) where
  abbrev names : Senses
  names = senses s

  all_typed : (as_ : List Actual) → flat_map (λ a. bits_spots names None a.value) as_ ≡ [] → list_all (is_typed p q) (values_of names as_) ≡ true
  all_typed [] free = refl
  all_typed (a ∷ as_) free =
      and_from (is_typed p q (value_of names a.value)) _
      (is_some_width p q names fit wide unbroken a.value (no_left (bits_spots names None a.value) (flat_map (λ b. bits_spots names None b.value) as_) free))
      (all_typed as_ (no_right (bits_spots names None a.value) (flat_map (λ b. bits_spots names None b.value) as_) free))

  pub passed_there : (as_ : List Actual) → actuals_spots s as_ ≡ [] → are_passed p q (values_of names as_) ≡ true
  passed_there as_ free =
      let few : length (values_of names as_) ≤ 64 = subst (λ n. n ≤ 64) (sym (length-map as_ (λ a. value_of names a.value)))
      (within TooManyValues 64 (λ a. first_token a.kind a.value.token) as_ (no_left (too_many_actuals as_) (flat_map (λ a. bits_spots names None a.value) as_) free)) in
      and_from (at_most_64 (values_of names as_)) _ (le-leb (length (values_of names as_)) 64 few) (all_typed as_ (no_right (too_many_actuals as_) (flat_map (λ a. bits_spots names None a.value) as_) free))

  callee_by : (allowed : Bool) (token : ℕ) (form : CalleeForm) → callee_spots s allowed record { token = token; form = form } ≡ [] → NoYield allowed (is_yield s record { token = token; form = form }) →
      has_width p q W64 (callee_of names record { token = token; form = form }) ≡ true
  callee_by allowed token (callees.Name i) free never =
      let e : Expr = record { token = token; form = Prim (NameOf i.name) } in
      let own : is_not_host (names i.name) ≡ true =
      not_host allowed token (names i.name) (no_right (spots (wanted knowns names (Some W64) e)) (called_host allowed token (names i.name)) free) never in
      let inner : inner_spots names e ≡ [] = ap (λ b. (unless b BadHostCall token ++ []) ++ []) own in
      has_wanted p q names fit wide unbroken W64 e
      (ap (λ xs. spots (wanted knowns names (Some W64) e) ++ xs) inner ∙ ap (λ xs. xs ++ []) (no_left (spots (wanted knowns names (Some W64) e)) (called_host allowed token (names i.name)) free))
  callee_by allowed token (callees.Memory m) free never = has_wanted p q names fit wide unbroken W64 (of_memory token m) free
  callee_by allowed token (callees.Bracketed e) free never = has_wanted p q names fit wide unbroken W64 e free

  pub callee_there : (allowed : Bool) (c : Callee) → callee_spots s allowed c ≡ [] → NoYield allowed (is_yield s c) → has_width p q W64 (callee_of names c) ≡ true
  callee_there allowed c free never = callee_by allowed c.token c.form free never
