-- What is found among declarations by their numbers.
use Rattle.std.proofs.Common.{◌≡◌, ℕ, suc, zero, ◌+◌, ◌<◌, Bool, true, false, not, List, [], ◌∷◌, ◌++◌, length, map, take, get_or, Option, Some, None, option_map, refl, sym, ◌∙◌, ap, subst, arith}
use Rattle.std.specs.Prelude.{bytes_eq}
use Rattle.std.proofs.lemmas.List.{length-map, length-take-le, map-append}
use Rattle.cmm_rules.specs.declared.rule.Rule.TheVariants.{DeclaredTwice}
use Rattle.cmm_static_semantics.specs.declared.spot.Spot.{Spot}
use Rattle.cmm_static_semantics.specs.Spots.{first_of, unless}
use Rattle.cmm_static_semantics.specs.Senses.{is_there}
use Rattle.cmm_static_semantics.specs.Declarations.{Declared, found, again}
use Rattle.cmm_symbols.specs.Indexed.{or_else}
use Rattle.cmm_symbols.specs.Numbering.{numbering}
use Rattle.cmm_symbols.specs.Shown.{named, shown, with_what}
use Rattle.cmm_symbols.specs.declared.table.Named.{Named}
use Rattle.cmm_symbols.specs.declared.entry.Entry.{Entry}
use Rattle.cmm_static_semantics.proofs.Shared.{mapped_next}
use Rattle.cmm_symbols.proofs.Found.{again_pushed, found_push, found_with}

pub numbering_last : {A : Type 0} (ds : List (Declared A)) (d : Declared A) → numbering (ds ++ d ∷ []) ≡ numbering ds ++ record { name = d.name; as_what = length ds } ∷ []
numbering_last [] d = refl
numbering_last (e ∷ ds) d =
    ap (λ t. record { name = e.name; as_what = 0 } ∷ t)
    (ap (map (with_what (λ n. suc n))) (numbering_last ds d) ∙ map-append (with_what (λ n. suc n)) (numbering ds) (record { name = d.name; as_what = length ds } ∷ []))

-- declarations have the same numbers whatever they are declared as
pub numbering_with : {A B : Type 0} (f : A → B) (ds : List (Declared A)) → numbering (map (with_what f) ds) ≡ numbering ds
numbering_with f [] = refl
numbering_with f (d ∷ ds) = ap (λ t. record { name = d.name; as_what = 0 } ∷ map (with_what (λ n. suc n)) t) (numbering_with f ds)

pub numbering_shown : (ds : List (Named Entry)) → numbering (map named ds) ≡ numbering (map shown ds)
numbering_shown [] = refl
numbering_shown (d ∷ ds) = ap (λ t. record { name = d.name.now; as_what = 0 } ∷ map (with_what (λ n. suc n)) t) (numbering_shown ds)

-- the table after one more declaration
pub number_next : {E : Type 0} (x : List ℕ) (ns : List (Named E)) (i : ℕ) (m : Named E) → i < length ns → m ≡ get_or ns i m →
    or_else (found x (numbering (map named (take i ns)))) (bytes_eq x m.name.now.name) i ≡ found x (numbering (map named (take (i + 1) ns)))
number_next x ns i m within is =
    ap (or_else (found x (numbering (map named (take i ns)))) (bytes_eq x m.name.now.name)) (sym (length-map (take i ns) named ∙ length-take-le i ns (omega arith)))
    ∙ sym (ap (λ ds. found x (numbering ds)) (mapped_next named ns i m within is) ∙ ap (found x) (numbering_last (map named (take i ns)) (named m))
    ∙ found_push x (numbering (map named (take i ns))) (record { name = m.name.now; as_what = length (map named (take i ns)) }))

there_or : (b : Bool) {A : Type 0} (a : A) (o : Option ℕ) (p : Option A) → is_there o ≡ is_there p →
    is_there (elim b as (λ _. Option ℕ) [ true ↦ Some 0 | false ↦ option_map (λ n. suc n) o ]) ≡ is_there (elim b as (λ _. Option A) [ true ↦ Some a | false ↦ p ])
there_or true a o p same = refl
there_or false a None p same = same
there_or false a (Some n) p same = same

-- what has a number is there
pub number_there : {A : Type 0} (x : List ℕ) (ds : List (Declared A)) → is_there (found x (numbering ds)) ≡ is_there (found x ds)
number_there x [] = refl
number_there x (d ∷ ds) =
    ap (λ o. is_there (elim (bytes_eq x d.name.name) as (λ _. Option ℕ) [ true ↦ Some 0 | false ↦ o ])) (found_with (λ n. suc n) x (numbering ds))
    ∙ there_or (bytes_eq x d.name.name) d.as_what (found x (numbering ds)) (found x ds) (number_there x ds)

-- what is found has a number, and is what is declared there
pub record IsPosition {A : Type 0} (ds : List (Declared A)) (number : ℕ) (what : Option A) : Type 0 where
  pub below : number < length ds
  pub is : (d : Declared A) → what ≡ Some (get_or ds number d).as_what

position_or : {A : Type 0} (b : Bool) (d : Declared A) (ds : List (Declared A)) (o : Option ℕ) (p : Option A) (number : ℕ) → ((n : ℕ) → o ≡ Some n → IsPosition ds n p) →
    elim b as (λ _. Option ℕ) [ true ↦ Some 0 | false ↦ option_map (λ n. suc n) o ] ≡ Some number →
    IsPosition (d ∷ ds) number (elim b as (λ _. Option A) [ true ↦ Some d.as_what | false ↦ p ])
position_or true d ds o p zero rest is = record { below = omega arith; is = λ e. refl }
position_or true d ds o p (suc n) rest is = absurd (cc)
position_or false d ds None p number rest is = absurd (cc)
position_or false d ds (Some n) p zero rest is = absurd (cc)
position_or false d ds (Some n) p (suc m) rest is =
    let same : n ≡ m = cc in
    let r : IsPosition ds m p = rest m (ap (λ k. Some k) same) in
    let lt : m < length ds = r.below in record {
      below = omega arith;
      is = λ e. r.is e;
    }

pub position_of : {A : Type 0} (x : List ℕ) (ds : List (Declared A)) (number : ℕ) → found x (numbering ds) ≡ Some number → IsPosition ds number (found x ds)
position_of x [] number is = absurd (cc)
position_of x (d ∷ ds) number is =
    position_or (bytes_eq x d.name.name) d ds (found x (numbering ds)) (found x ds) number (λ n e. position_of x ds n e)
    (sym (ap (λ o. elim (bytes_eq x d.name.name) as (λ _. Option ℕ) [ true ↦ Some 0 | false ↦ o ]) (found_with (λ n. suc n) x (numbering ds))) ∙ is)

none_or : {A : Type 0} (b : Bool) (a : A) (o : Option ℕ) (p : Option A) → (o ≡ None → p ≡ None) → elim b as (λ _. Option ℕ) [ true ↦ Some 0 | false ↦ option_map (λ n. suc n) o ] ≡ None →
    elim b as (λ _. Option A) [ true ↦ Some a | false ↦ p ] ≡ None
none_or true a o p rest is = absurd (cc)
none_or false a None p rest is = rest refl
none_or false a (Some n) p rest is = absurd (cc)

-- what has no number is not found
pub no_position : {A : Type 0} (x : List ℕ) (ds : List (Declared A)) → found x (numbering ds) ≡ None → found x ds ≡ None
no_position x [] is = refl
no_position x (d ∷ ds) is =
    none_or (bytes_eq x d.name.name) d.as_what (found x (numbering ds)) (found x ds) (no_position x ds)
    (sym (ap (λ o. elim (bytes_eq x d.name.name) as (λ _. Option ℕ) [ true ↦ Some 0 | false ↦ o ]) (found_with (λ n. suc n) x (numbering ds))) ∙ is)

get_named : {E : Type 0} (ns : List (Named E)) (k : ℕ) (m : Named E) → get_or (map named ns) k (named m) ≡ named (get_or ns k m)
get_named [] k m = refl
get_named (n ∷ ns) zero m = refl
get_named (n ∷ ns) (suc k) m = get_named ns k m

-- what is found in a table, by its number
pub what_found : {E : Type 0} (x : List ℕ) (ns items : List (Named E)) (number : ℕ) (m : Named E) → items ≡ ns → Some number ≡ found x (numbering (map named ns)) →
    Some (get_or items number m).what ≡ found x (map named ns)
what_found x ns items number m same at =
    ap (λ (ms : List (Named _)). Some (get_or ms number m).what) same ∙ ap (λ (d : Declared _). Some d.as_what) (sym (get_named ns number m))
    ∙ sym ((position_of x (map named ns) number (sym at)).is (named m))

pub number_within : {E : Type 0} (x : List ℕ) (ns items : List (Named E)) (number : ℕ) → items ≡ ns → Some number ≡ found x (numbering (map named ns)) → number < length items
number_within x ns items number same at =
    subst (λ n. number < n) (length-map ns named ∙ sym (ap length same)) (position_of x (map named ns) number (sym at)).below

pub nothing_found : {E : Type 0} (x : List ℕ) (ns : List (Named E)) → None ≡ found x (numbering (map named ns)) → None ≡ found x (map named ns)
nothing_found x ns is = sym (no_position x (map named ns) (sym is))

-- the first fault after one more declaration
pub again_next : {E : Type 0} (best : Option Spot) (ns : List (Named E)) (i : ℕ) (m : Named E) → i < length ns → m ≡ get_or ns i m →
    first_of (first_of best (again [] (map named (take i ns)))) (unless (not (is_there (found m.name.now.name (numbering (map named (take i ns)))))) DeclaredTwice m.name.now.token)
    ≡ first_of best (again [] (map named (take (i + 1) ns)))
again_next best ns i m within is =
    ap (λ b. first_of (first_of best (again [] (map named (take i ns)))) (unless (not b) DeclaredTwice m.name.now.token)) (number_there m.name.now.name (map named (take i ns)))
    ∙ again_pushed best ns i m within is
