-- The first declaration of a name, and names that are declared again, one declaration after the other.
use Rattle.std.proofs.Common.{◌≡◌, ℕ, ◌+◌, ◌<◌, Bool, true, false, not, length, map, take, get_or, refl, ap, sym, ◌∙◌, List, [], ◌∷◌, ◌++◌, Option, Some, None, option_map, append_assoc, append-nil}
use Rattle.std.specs.Prelude.{bytes_eq}
use Rattle.cmm_rules.specs.declared.rule.Rule.TheVariants.{DeclaredTwice}
use Rattle.cmm_static_semantics.specs.declared.spot.Spot.{Spot}
use Rattle.cmm_static_semantics.specs.Spots.{first_of, unless}
use Rattle.cmm_static_semantics.specs.Senses.{is_there}
use Rattle.cmm_static_semantics.specs.Declarations.{Declared, found, again}
use Rattle.cmm_symbols.specs.Indexed.{or_else}
use Rattle.cmm_symbols.specs.Shown.{named, with_what}
use Rattle.cmm_symbols.specs.declared.table.Named.{Named}
use Rattle.cmm_static_semantics.proofs.Shared.{first_of_append, mapped_next}

abbrev or_found : {A : Type 0} → Bool → A → Option A → Option A
or_found b a o = elim b [ true ↦ Some a | false ↦ o ]

pushed : {A : Type 0} (b : Bool) (a : A) (o p : Option A) (t : Bool) (n : A) → p ≡ or_else o t n → or_found b a p ≡ or_else (or_found b a o) t n
pushed true a o p t n e = refl
pushed false a o p t n e = e

pub found_push : {A : Type 0} (x : List ℕ) (ds : List (Declared A)) (d : Declared A) →
    found x (ds ++ d ∷ []) ≡ or_else (found x ds) (bytes_eq x d.name.name) d.as_what
found_push x [] d = refl
found_push x (e ∷ ds) d = pushed (bytes_eq x e.name.name) e.as_what (found x ds) (found x (ds ++ d ∷ [])) (bytes_eq x d.name.name) d.as_what (found_push x ds d)

changed : {A B : Type 0} (f : A → B) (b : Bool) (a : A) (o : Option A) (p : Option B) → p ≡ option_map f o → or_found b (f a) p ≡ option_map f (or_found b a o)
changed f true a o p e = refl
changed f false a o p e = e

-- what is found among declarations as something else
pub found_with : {A B : Type 0} (f : A → B) (x : List ℕ) (ds : List (Declared A)) → found x (map (with_what f) ds) ≡ option_map f (found x ds)
found_with f x [] = refl
found_with f x (d ∷ ds) = changed f (bytes_eq x d.name.name) d.as_what (found x ds) (found x (map (with_what f) ds)) (found_with f x ds)

there_with : {A B : Type 0} (f : A → B) (o : Option A) → is_there (option_map f o) ≡ is_there o
there_with f None = refl
there_with f (Some a) = refl

pub found_there : {A B : Type 0} (f : A → B) (x : List ℕ) (ds : List (Declared A)) → is_there (found x (map (with_what f) ds)) ≡ is_there (found x ds)
found_there f x ds = ap is_there (found_with f x ds) ∙ there_with f (found x ds)

pub again_append : {A : Type 0} (e xs ys : List (Declared A)) → again e (xs ++ ys) ≡ again e xs ++ again (e ++ xs) ys
again_append e [] ys = ap (λ q. again q ys) (sym (append-nil e))
again_append e (x ∷ xs) ys =
    ap (λ t. unless (not (is_there (found x.name.name e))) DeclaredTwice x.name.token ++ t) (again_append (e ++ x ∷ []) xs ys ∙ ap (λ q. again (e ++ x ∷ []) xs ++ again q ys) (append_assoc e (x ∷ []) xs))
    ∙ sym (append_assoc (unless (not (is_there (found x.name.name e))) DeclaredTwice x.name.token) (again (e ++ x ∷ []) xs) (again (e ++ x ∷ xs) ys))

-- names that are declared again are so whatever they are declared as
pub again_with : {A B : Type 0} (f : A → B) (e ds : List (Declared A)) → again (map (with_what f) e) (map (with_what f) ds) ≡ again e ds
again_with f e [] = refl
again_with f e (d ∷ ds) =
    ap (λ b. unless (not b) DeclaredTwice d.name.token ++ again (map (with_what f) e ++ with_what f d ∷ []) (map (with_what f) ds)) (found_there f d.name.name e)
    ∙ ap (λ t. unless (not (is_there (found d.name.name e))) DeclaredTwice d.name.token ++ t)
    (ap (λ q. again q (map (with_what f) ds)) (sym (map_last e)) ∙ again_with f (e ++ d ∷ []) ds)
  where
    map_last : (e : _) → map (with_what f) (e ++ d ∷ []) ≡ map (with_what f) e ++ with_what f d ∷ []
    map_last [] = refl
    map_last (x ∷ e) = ap (λ t. with_what f x ∷ t) (map_last e)

-- the first fault after one more declaration
pub again_pushed : {E : Type 0} (best : Option Spot) (ns : List (Named E)) (i : ℕ) (m : Named E) → i < length ns → m ≡ get_or ns i m →
    first_of (first_of best (again [] (map named (take i ns)))) (unless (not (is_there (found m.name.now.name (map named (take i ns))))) DeclaredTwice m.name.now.token)
    ≡ first_of best (again [] (map named (take (i + 1) ns)))
again_pushed best ns i m within is =
    sym (first_of_append best (again [] (map named (take i ns))) (unless (not (is_there (found m.name.now.name (map named (take i ns))))) DeclaredTwice m.name.now.token))
    ∙ ap (first_of best) (sym (ap (again []) (mapped_next named ns i m within is) ∙ again_append [] (map named (take i ns)) (named m ∷ [])
    ∙ ap (λ t. again [] (map named (take i ns)) ++ t) (append-nil (unless (not (is_there (found m.name.now.name (map named (take i ns))))) DeclaredTwice m.name.now.token))))
