-- What is answered of expressions in a scope, where nothing is broken elsewhere.
use Rattle.std.proofs.Common.{◌≡◌, refl, ℕ, List, Option, Some, None, subst}
use Rattle.std.specs.Prelude.{option_map, Result, Ok, Err}
use Rattle.cmm_words.specs.declared.constant.Constant.{Constant}
use Rattle.cmm_words.specs.declared.width.Width.{Width}
use Rattle.cmm_ast.specs.declared.expression.Expr.{Expr}
use Rattle.cmm_static_semantics.specs.declared.known.Known.{Known}
use Rattle.cmm_static_semantics.specs.declared.known.Known.TheVariants.{Number, Symbol, Sum, Nothing}
use Rattle.cmm_static_semantics.specs.declared.spot.Spot.{Spot}
use Rattle.cmm_static_semantics.specs.Senses.{Senses}
use Rattle.cmm_static_semantics.specs.Algebras.{knowns}
use Rattle.cmm_static_semantics.specs.Judging.{Judged, as_wanted}
use Rattle.cmm_static_semantics.specs.Typing.{expr_type, wanted}
use Rattle.cmm_static_semantics.specs.Constants.{as_constant, constant_known, constant_of}
use Rattle.cmm_typing.specs.declared.meaning.Meaning.{Meaning}
use Rattle.cmm_typing.specs.declared.meaning.Meaning.TheVariants.{Variable, Register, Value, Stack, Continuation, Typedef, CodeLabel, Host}
use Rattle.cmm_typing.specs.declared.meaning.TypeFault.{TypeFault}
use Rattle.cmm_typing.specs.declared.meaning.ExprType.{ExprType}
use Rattle.cmm_typing.specs.Meanings.{sense_of, meaning_in, senses_of, type_shown, fault_of, Answers}
use Rattle.cmm_typing.proofs.Wholes.{Whole, Always, AreWhole, WholeSense, WholeBits, WholeTyped, HasValue, whole_ok, wanted_whole, expr_whole}

pub answers_ok : {A B : Type 0} (shown : A → B) (j : Judged A) (a : A) → j ≡ Ok a → Answers shown j (Ok (shown a))
answers_ok shown j a is = rw is refl

pub answers_err : {A B : Type 0} (shown : A → B) (j : Judged A) (s : Spot) → j ≡ Err (Some s) → Answers shown j (Err (fault_of s))
answers_err shown j s is = rw is refl

sense_whole : (o : Option Meaning) → WholeSense (option_map sense_of o)
sense_whole (Some (Variable n width)) = tt
sense_whole (Some (Register n width)) = tt
sense_whole (Some (Value c)) = tt
sense_whole (Some (Stack n)) = tt
sense_whole (Some (Continuation n)) = tt
sense_whole (Some (Typedef width)) = tt
sense_whole (Some CodeLabel) = tt
sense_whole (Some Host) = tt
sense_whole None = tt

scope_whole : (entries : List (List ℕ × Meaning)) → AreWhole (senses_of entries)
scope_whole entries name = sense_whole (meaning_in entries name)

not_elsewhere : {A : Type 0} (good : A → Type 0) (j : Judged A) → Whole good j → j ≡ Err None → ⊥
not_elsewhere good j w is = subst (Whole good) is w

pub answers_type : (entries : List (List ℕ × Meaning)) (e : Expr) (r : Result ExprType TypeFault) →
    expr_type knowns (senses_of entries) e ≡ Err None → Answers type_shown (expr_type knowns (senses_of entries) e) r
answers_type entries e r is =
    absurd (not_elsewhere WholeTyped (expr_type knowns (senses_of entries) e) (expr_whole knowns (senses_of entries) (scope_whole entries) e) is)

known_whole : (token : ℕ) (width : Width) (k : Known) → Whole Always (constant_known token width k)
known_whole token width (Number value) = tt
known_whole token width (Symbol c) = tt
known_whole token width (Sum c) = tt
known_whole token width Nothing = tt

value_whole : (token : ℕ) (width : Width) (o : Option Known) → HasValue o →
    Whole Always (elim o as (λ _. Judged Constant) [ Some value ↦ constant_known token width value | None ↦ Err None ])
value_whole token width (Some value) w = known_whole token width value
value_whole token width None w = absurd w

constant_whole : (names : Senses) → AreWhole names → (e : Expr) → Whole Always (constant_of names e)
constant_whole names w e = whole_ok WholeBits Always (wanted knowns names None e) (as_constant e.token)
    (whole_ok WholeTyped WholeBits (expr_type knowns names e) (as_wanted None e.token) (expr_whole knowns names w e) (wanted_whole None e.token))
    (λ x wx. value_whole e.token x.width x.value wx)

pub answers_constant : (entries : List (List ℕ × Meaning)) (e : Expr) (r : Result Constant TypeFault) →
    constant_of (senses_of entries) e ≡ Err None → Answers (λ c. c) (constant_of (senses_of entries) e) r
answers_constant entries e r is =
    absurd (not_elsewhere Always (constant_of (senses_of entries) e) (constant_whole (senses_of entries) (scope_whole entries) e) is)
