-- Link names, one after the other.
use Rattle.std.proofs.Common.{◌≡◌, ℕ, ◌+◌, ◌<◌, Bool, true, false, ◌||◌, not, length, map, take, get_or, refl, ap, sym, ◌∙◌, List, [], ◌∷◌, ◌++◌, Option, Some, None, append_assoc, append-nil}
use Rattle.std.specs.Prelude.{bytes_eq, flat_map}
use Rattle.std.proofs.lemmas.Grind.{flat_map-append}
use Rattle.std.proofs.Math.Bool.{or-false, or_assoc}
use Rattle.cmm_ast.specs.declared.declaration.Export.{Export}
use Rattle.cmm_rules.specs.declared.rule.Rule.TheVariants.{ExportedTwice}
use Rattle.cmm_static_semantics.specs.declared.spot.Spot.{Spot}
use Rattle.cmm_static_semantics.specs.Spots.{first_of, unless}
use Rattle.cmm_static_semantics.specs.Senses.{is_there}
use Rattle.cmm_static_semantics.specs.Declarations.{Declared}
use Rattle.cmm_static_semantics.specs.Linking.{is_among, export_link, twice}
use Rattle.cmm_symbols.specs.Indexed.{indexed, or_else}
use Rattle.cmm_linkage.proofs.Shared.{listed_next}
use Rattle.cmm_check_units.specs.inside.Linked.{AreLinks, AreFound}
use Rattle.cmm_symbols.specs.declared.index.Index.{Index}
use Rattle.cmm_static_semantics.proofs.Shared.{first_of_append, mapped_next}
use Rattle.cmm_symbols.proofs.Shared.{found_push}

among_push : (x : List ℕ) (ns : List (List ℕ)) (n : List ℕ) → is_among x (ns ++ n ∷ []) ≡ (is_among x ns || bytes_eq x n)
among_push x [] n = or-false (bytes_eq x n)
among_push x (m ∷ ns) n = ap (λ b. bytes_eq x m || b) (among_push x ns n) ∙ sym (or_assoc (bytes_eq x m) (is_among x ns) (bytes_eq x n))

there_else : {E : Type 0} (o : Option E) (b : Bool) (next : E) → is_there (or_else o b next) ≡ (is_there o || b)
there_else (Some e) b next = refl
there_else None true next = refl
there_else None false next = refl

-- a table after one more link name
pub links_push : (old new : Index (Unit {0})) (names : List (List ℕ)) (n : List ℕ) → AreLinks old names →
    ((x : List ℕ) → indexed new x ≡ or_else (indexed old x) (bytes_eq x n) tt) → AreLinks new (names ++ n ∷ [])
links_push old new names n are is x =
    ap is_there (is x) ∙ there_else (indexed old x) (bytes_eq x n) tt ∙ ap (λ b. b || bytes_eq x n) (are x) ∙ sym (among_push x names n)

-- what is listed of one more
pub before_plus : {A B : Type 0} (f : A → List B) (before : List A) (x : A) → flat_map f (before ++ x ∷ []) ≡ flat_map f before ++ f x
before_plus f before x = flat_map-append f before (x ∷ []) ∙ ap (λ t. flat_map f before ++ t) (append-nil (f x))

pub AreLinks-of : (t : Index (Unit {0})) (a b : List (List ℕ)) → a ≡ b → AreLinks t a → AreLinks t b
AreLinks-of t a b e are x = are x ∙ ap (is_among x) e

pub twice_append : (e : List (List ℕ)) (xs ys : List Export) → twice e (xs ++ ys) ≡ twice e xs ++ twice (e ++ map export_link xs) ys
twice_append e [] ys = ap (λ q. twice q ys) (sym (append-nil e))
twice_append e (x ∷ xs) ys =
    ap (λ t. unless (not (is_among (export_link x) e)) ExportedTwice x.name.token ++ t)
    (twice_append (e ++ export_link x ∷ []) xs ys ∙ ap (λ q. twice (e ++ export_link x ∷ []) xs ++ twice q ys) (append_assoc e (export_link x ∷ []) (map export_link xs)))
    ∙ sym (append_assoc (unless (not (is_among (export_link x) e)) ExportedTwice x.name.token) (twice (e ++ export_link x ∷ []) xs) (twice (e ++ map export_link (x ∷ xs)) ys))

abbrev twice_last : {A : Type 0} (h : A → Export) (before : List (List ℕ)) (xs : List A) (i : ℕ) (e : A) → List Spot
twice_last h before xs i e = unless (not (is_among (export_link (h e)) (before ++ map export_link (map h (take i xs))))) ExportedTwice (h e).name.token

pub twice_next : {A : Type 0} (h : A → Export) (best : Option Spot) (before : List (List ℕ)) (xs : List A) (i : ℕ) (e : A) → i < length xs → e ≡ get_or xs i e →
    first_of (first_of best (twice before (map h (take i xs)))) (unless (not (is_among (export_link (h e)) (before ++ map export_link (map h (take i xs))))) ExportedTwice (h e).name.token)
    ≡ first_of best (twice before (map h (take (i + 1) xs)))
twice_next h best before xs i e within is =
    sym (first_of_append best (twice before (map h (take i xs))) (twice_last h before xs i e))
    ∙ ap (first_of best) (sym (ap (twice before) (mapped_next h xs i e within is) ∙ twice_append before (map h (take i xs)) (h e ∷ [])
    ∙ ap (λ t. twice before (map h (take i xs)) ++ t) (append-nil (twice_last h before xs i e))))

-- a turn of a loop that adds link names to a table
pub links_step : {A : Type 0} (h : A → Export) (old new : Index (Unit {0})) (before : List (List ℕ)) (xs : List A) (i : ℕ) (e : A) (link : List ℕ) →
    i < length xs → e ≡ get_or xs i e → link ≡ export_link (h e) → AreLinks old (before ++ map export_link (map h (take i xs))) →
    ((x : List ℕ) → indexed new x ≡ or_else (indexed old x) (bytes_eq x link) tt) → AreLinks new (before ++ map export_link (map h (take (i + 1) xs)))
links_step h old new before xs i e link within is same are added =
    AreLinks-of new ((before ++ map export_link (map h (take i xs))) ++ link ∷ []) (before ++ map export_link (map h (take (i + 1) xs)))
    (ap (λ l. (before ++ map export_link (map h (take i xs))) ++ l ∷ []) same ∙ listed_next h export_link before xs i e within is)
    (links_push old new (before ++ map export_link (map h (take i xs))) link are added)

-- and that notes those that are there
pub twice_step : {A : Type 0} (h : A → Export) (old : Index (Unit {0})) (best0 best1 best2 : Option Spot) (before : List (List ℕ)) (xs : List A) (i : ℕ) (e : A) (link : List ℕ) (new : Bool) →
    i < length xs → e ≡ get_or xs i e → link ≡ export_link (h e) → AreLinks old (before ++ map export_link (map h (take i xs))) →
    new ≡ not (is_there (indexed old link)) → best1 ≡ first_of best0 (twice before (map h (take i xs))) → best2 ≡ first_of best1 (unless new ExportedTwice (h e).name.token) →
    best2 ≡ first_of best0 (twice before (map h (take (i + 1) xs)))
twice_step h old best0 best1 best2 before xs i e link new within is same are fresh so_far noted =
    noted ∙ ap (λ n. first_of best1 (unless n ExportedTwice (h e).name.token)) (fresh ∙ ap not (are link ∙ ap (λ l. is_among l (before ++ map export_link (map h (take i xs)))) same))
    ∙ ap (λ b. first_of b (twice_last h before xs i e)) so_far ∙ twice_next h best0 before xs i e within is

-- ---- a table of what is first declared, after one more declaration

pub found_added : {A : Type 0} (old new : Index A) (before : List (Declared A)) (d : Declared A) → AreFound old before →
    ((x : List ℕ) → indexed new x ≡ or_else (indexed old x) (bytes_eq x d.name.name) d.as_what) → AreFound new (before ++ d ∷ [])
found_added old new before d are is x = is x ∙ ap (λ o. or_else o (bytes_eq x d.name.name) d.as_what) (are x) ∙ sym (found_push x before d)
