-- All of the bytes: what is read is spelled so, and what is spelled so is read.
use Rattle.std.proofs.Common.{◌≡◌, ℕ, ◌-◌, ◌≤◌, ◌<◌, true, false, List, [], ◌∷◌, ◌++◌, length, Result, Ok, Err, refl, sym, ap, subst, ◌∙◌, nat_lt, arith}
use Rattle.std.proofs.lemmas.List.{append-nil}
use Rattle.std.proofs.lemmas.Bool.{ltb-false, le-ltb}
use Rattle.std.proofs.lemmas.Bool.Decides.{nat_tests}
use Rattle.cmm_rules.specs.declared.rule.Rule.{Rule}
use Rattle.cmm_format.specs.declared.fault.Broken.{Broken}
use Rattle.cmm_format.specs.Formats.{◌>>=◌, Format, AreBytes}
use Rattle.cmm_format.specs.Wholes.{Ends, ended, whole_in, IsFirstBroken}
use Rattle.cmm_format.proofs.FieldLaws.{IsExact, bind_ok, ok_is, not_cut, chosen_true, chosen_false}

ended-none : {A : Type 0} (followed : Rule) (x : A × List ℕ) (a : A) → ended followed x ≡ Ok a → (x.0 ≡ a) × (x.1 ≡ [])
ended-none followed (b, []) a e = (ok_is b a e, refl)
ended-none followed (c, b ∷ bytes) a e = absurd cc

-- what is read is spelled so
pub whole-taken : {A : Type 0} {F : Format A} (ends : Ends) (bytes : List ℕ) (a : A) → IsExact F → AreBytes bytes → whole_in F ends bytes ≡ Ok a → (bytes ≡ F.spelled a) × F.Holds a × (length bytes ≤ ends.limit)
unfolding whole_in
whole-taken {F = F} ends bytes a exact fits e =
    let g = not_cut (nat_lt ends.limit (length bytes)) (record { rule = ends.too_long; left = length bytes - ends.limit }) (F.at bytes >>= ended ends.followed) a e in
    let few : length bytes ≤ ends.limit = ltb-false ends.limit (length bytes) g.0 in
    let h = bind_ok (F.at bytes) (ended ends.followed) a g.1 in
    let n = ended-none ends.followed h.0 a h.2 in
    let t = exact.taken bytes h.0.0 h.0.1 fits h.1 in
    let spelled : bytes ≡ F.spelled a = t.0 ∙ ap (λ (r : List ℕ). F.spelled h.0.0 ++ r) n.1 ∙ append-nil (F.spelled h.0.0) ∙ ap F.spelled n.0 in
    (spelled, subst F.Holds n.0 t.1, few)

-- what is spelled so is read
pub whole-again : {A : Type 0} {F : Format A} (ends : Ends) (bytes : List ℕ) (a : A) → IsExact F → F.Holds a → bytes ≡ F.spelled a → length bytes ≤ ends.limit → whole_in F ends bytes ≡ Ok a
unfolding whole_in
whole-again {A = A} {F = F} ends bytes a exact holds spelled short =
    let few : nat_lt ends.limit (length bytes) ≡ false = le-ltb ends.limit (length bytes) short in
    let e : F.at bytes ≡ Ok (a, []) = ap F.at (spelled ∙ sym (append-nil (F.spelled a))) ∙ exact.again a [] holds in
    let rest : ◌≡◌ {A = Result A Broken} (F.at bytes >>= ended ends.followed) (Ok a) = rw e refl in
    chosen_false {A = Result A Broken} (nat_lt ends.limit (length bytes)) (Err (record { rule = ends.too_long; left = length bytes - ends.limit })) (F.at bytes >>= ended ends.followed) few ∙ rest

-- bytes that are a value break no rule
pub unbroken : {A : Type 0} {F : Format A} (ends : Ends) (bytes : List ℕ) (a : A) (rule : Rule) (offset : ℕ) → whole_in F ends bytes ≡ Ok a → IsFirstBroken F ends bytes rule offset → ⊥
unbroken ends bytes a rule offset e f = let g = f.first in absurd cc

-- a first fault has one rule and one offset
pub first-is : {A : Type 0} {F : Format A} (ends : Ends) (bytes : List ℕ) (rule : Rule) (offset : ℕ) (b : Broken) → whole_in F ends bytes ≡ Err b → IsFirstBroken F ends bytes rule offset → (b.rule ≡ rule) × (length bytes - b.left ≡ offset)
first-is ends bytes rule offset b e f =
    let first = f.first in
    let same : b ≡ f.broken = cc in
    (ap (λ (d : Broken). d.rule) same ∙ sym f.rule_is, ap (λ (d : Broken). length bytes - d.left) same ∙ sym f.offset_is)

-- more bytes than the most are refused for that
pub long-breaks : {A : Type 0} {F : Format A} (ends : Ends) (bytes : List ℕ) → ends.limit < length bytes → IsFirstBroken F ends bytes ends.too_long ends.limit
unfolding whole_in
long-breaks {A = A} {F = F} ends bytes long =
    let test : nat_lt ends.limit (length bytes) ≡ true = grind (arith, nat_tests) in
    record {
      broken = record { rule = ends.too_long; left = length bytes - ends.limit };
      first = chosen_true {A = Result A Broken} (nat_lt ends.limit (length bytes)) (Err (record { rule = ends.too_long; left = length bytes - ends.limit })) (F.at bytes >>= ended ends.followed) test;
      rule_is = refl;
      offset_is = omega (arith, long);
    }
