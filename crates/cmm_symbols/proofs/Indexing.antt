-- A table of names after one more name.
use Rattle.std.proofs.Common.{◌≡◌, ℕ, Bool, true, false, cond, refl, ap, sym, ◌∙◌, List, Option, Some, None}
use Rattle.std.specs.Prelude.{bytes_eq, is_some}
use Rattle.std.proofs.lemmas.Slice.Eq.{bytes_eq-Decides}
use Rattle.cmm_static_semantics.specs.Senses.{is_there}
use Rattle.cmm_symbols.specs.Indexed.{or_else}

kept : {E : Type 0} (o : Option E) (b : Bool) (next : E) → (b ≡ true → is_there o ≡ true) → o ≡ or_else o b next
kept (Some e) b next h = refl
kept None true next h = let f : false ≡ true = h refl in cc
kept None false next h = refl

-- a table where a name is there already
pub name_kept : {E : Type 0} (f : List ℕ → Option E) (name : List ℕ) (next : E) → is_there (f name) ≡ true → (x : List ℕ) → f x ≡ or_else (f x) (bytes_eq x name) next
name_kept f name next there x = kept (f x) (bytes_eq x name) next (λ same. ap (λ n. is_there (f n)) ((bytes_eq-Decides x name).0 same) ∙ there)

else_false : {E : Type 0} (o : Option E) (next : E) → o ≡ or_else o false next
else_false (Some e) next = refl
else_false None next = refl

bytes_eq_sym : (a b : List ℕ) → bytes_eq a b ≡ bytes_eq b a
bytes_eq_sym a b = by (bytes_eq a b) (bytes_eq b a) refl refl
  where
    by : (p q : Bool) → bytes_eq a b ≡ p → bytes_eq b a ≡ q → p ≡ q
    by true true e f = refl
    by false false e f = refl
    by true false e f = sym ((bytes_eq-Decides b a).1 (sym ((bytes_eq-Decides a b).0 e))) ∙ f
    by false true e f = sym e ∙ (bytes_eq-Decides a b).1 (sym ((bytes_eq-Decides b a).0 f))

pub none_there : {E : Type 0} (o : Option E) (b : Bool) → b ≡ is_some o → b ≡ false → o ≡ None
none_there None b is not_ = refl
none_there (Some e) b is not_ = let f : false ≡ true = sym not_ ∙ is in cc

-- and where it is new
pub name_added : {E : Type 0} (f g : List ℕ → Option E) (name : List ℕ) (next : E) → f name ≡ None → ((x : List ℕ) → g x ≡ cond (bytes_eq name x) (Some next) (f x)) →
    (x : List ℕ) → g x ≡ or_else (f x) (bytes_eq x name) next
name_added f g name next none is x = by (bytes_eq x name) refl
  where
    by : (b : Bool) → bytes_eq x name ≡ b → g x ≡ or_else (f x) b next
    by true same =
        is x ∙ ap (λ b. cond b (Some next) (f x)) (bytes_eq_sym name x ∙ same) ∙ sym (ap (λ o. or_else o true next) (ap f ((bytes_eq-Decides x name).0 same) ∙ none))
    by false other = is x ∙ ap (λ b. cond b (Some next) (f x)) (bytes_eq_sym name x ∙ other) ∙ else_false (f x) next
