-- The numbers of the names of a procedure, one declaration after the other.
use Rattle.std.proofs.Common.{◌≡◌, ℕ, suc, ◌+◌, Bool, true, false, List, [], ◌∷◌, ◌++◌, map, refl, ap, sym, ◌∙◌, Option, Some, None, option_map, ◌<◌, length, take, get_or, subst, add-zero, arith}
use Rattle.std.specs.Prelude.{bytes_eq}
use Rattle.std.proofs.lemmas.List.{map-append}
use Rattle.std.proofs.lemmas.Simd.{map-map}
use Rattle.cmm_static_semantics.specs.Declarations.{Declared, Local, Variable, Room, Label, Continuation, found, number_in, again}
use Rattle.cmm_symbols.specs.Indexed.{or_else}
use Rattle.cmm_symbols.specs.Shown.{named, with_what}
use Rattle.cmm_symbols.specs.declared.table.Named.{Named}
use Rattle.cmm_static_semantics.proofs.Shared.{mapped_next}
use Rattle.cmm_symbols.proofs.Shared.{found_push, found_with, again_with}
use Rattle.cmm_proc_scope.specs.declared.own.Local.{Local as Own}
use Rattle.cmm_proc_scope.specs.declared.own.Numbered.{Numbered}
use Rattle.cmm_proc_scope.specs.declared.numbering.Counts.{Counts}
use Rattle.cmm_proc_scope.specs.Owned.{local_shown, local_declared, own_declared}
use Rattle.cmm_proc_scope.specs.inside.Numbering.{of_sort, number_of, count_of, AreNumbered}
use Rattle.cmm_proc_scope.specs.inside.Counting.{count_for, counted, AreCounts}

-- ---- counts

abbrev one_if : Bool → ℕ
one_if b = elim b [ true ↦ 1 | false ↦ 0 ]

abbrev more_if : Bool → ℕ → ℕ
more_if b n = elim b [ true ↦ suc n | false ↦ n ]

count_step : (a b : Bool) (m n : ℕ) → m ≡ n + one_if b → more_if a m ≡ more_if a n + one_if b
count_step true true m n e = omega arith
count_step true false m n e = omega arith
count_step false b m n e = e

count_one : (b : Bool) → more_if b 0 ≡ 0 + one_if b
count_one true = refl
count_one false = refl

count_of_push : (test : Local → Bool) (ds : List (Declared Local)) (d : Declared Local) → count_of test (ds ++ d ∷ []) ≡ count_of test ds + one_if (test d.as_what)
count_of_push test [] d = count_one (test d.as_what)
count_of_push test (e ∷ ds) d = count_step (test e.as_what) (test d.as_what) (count_of test (ds ++ d ∷ [])) (count_of test ds) (count_of_push test ds d)

counted_one : (c : Counts) (l k : Local) → count_for (counted c l) k ≡ count_for c k + one_if (of_sort k l)
counted_one c (Variable t) (Variable u) = refl
counted_one c (Variable t) Room = sym (add-zero c.rooms)
counted_one c (Variable t) Label = sym (add-zero c.labels)
counted_one c (Variable t) Continuation = sym (add-zero c.continuations)
counted_one c Room (Variable u) = sym (add-zero c.variables)
counted_one c Room Room = refl
counted_one c Room Label = sym (add-zero c.labels)
counted_one c Room Continuation = sym (add-zero c.continuations)
counted_one c Label (Variable u) = sym (add-zero c.variables)
counted_one c Label Room = sym (add-zero c.rooms)
counted_one c Label Label = refl
counted_one c Label Continuation = sym (add-zero c.continuations)
counted_one c Continuation (Variable u) = sym (add-zero c.variables)
counted_one c Continuation Room = sym (add-zero c.rooms)
counted_one c Continuation Label = sym (add-zero c.labels)
counted_one c Continuation Continuation = refl

-- the counts after one more declaration
pub counts_next : (c : Counts) (ds : List (Declared Local)) (d : Declared Local) → AreCounts c ds → AreCounts (counted c d.as_what) (ds ++ d ∷ [])
counts_next c ds d are k =
    counted_one c d.as_what k ∙ ap (λ n. n + one_if (of_sort k d.as_what)) (are k) ∙ sym (count_of_push (of_sort k) ds d)

-- ---- numbers

abbrev found_by : {A : Type 0} → Bool → A → Option A → Option A
found_by b a o = elim b [ true ↦ Some a | false ↦ o ]

abbrev number_by : Bool → Bool → ℕ → ℕ
number_by same passes n = elim same [ true ↦ 0 | false ↦ more_if passes n ]

there_step : {A : Type 0} (same passes : Bool) (a b : A) (o : Option A) (m n : ℕ) → found_by same a o ≡ Some b → (o ≡ Some b → m ≡ n) → number_by same passes m ≡ number_by same passes n
there_step true passes a b o m n e f = refl
there_step false true a b o m n e f = ap (λ k. suc k) (f e)
there_step false false a b o m n e f = f e

-- more declarations don't change the number of a name that is declared
number_there : (test : Local → Bool) (name : List ℕ) (ds more : List (Declared Local)) (l : Local) → found name ds ≡ Some l → number_in test name (ds ++ more) ≡ number_in test name ds
number_there test name [] more l e = cc
number_there test name (d ∷ ds) more l e =
    there_step (bytes_eq name d.name.name) (test d.as_what) d.as_what l (found name ds) (number_in test name (ds ++ more)) (number_in test name ds) e
    (λ e. number_there test name ds more l e)

absent_step : {A : Type 0} (same passes : Bool) (a : A) (o : Option A) (m n : ℕ) → found_by same a o ≡ None → (o ≡ None → m ≡ n) →
    number_by same passes m ≡ more_if passes n
absent_step true passes a o m n e f = cc
absent_step false true a o m n e f = ap (λ k. suc k) (f e)
absent_step false false a o m n e f = f e

-- the number of a name that is first declared after some declarations
number_absent : (test : Local → Bool) (name : List ℕ) (ds : List (Declared Local)) (d : Declared Local) → found name ds ≡ None → bytes_eq name d.name.name ≡ true →
    number_in test name (ds ++ d ∷ []) ≡ count_of test ds
number_absent test name [] d e same = ap (λ b. number_by b (test d.as_what) 0) same
number_absent test name (c ∷ ds) d e same =
    absent_step (bytes_eq name c.name.name) (test c.as_what) c.as_what (found name ds) (number_in test name (ds ++ d ∷ [])) (count_of test ds) e
    (λ e. number_absent test name ds d e same)

pushed : (f : Option Numbered) (o : Option Local) (b : Bool) (n : Numbered) (l : Local) (before after : Local → ℕ) →
    option_map (λ own. own.number) f ≡ option_map before o → ((a : Local) → o ≡ Some a → after a ≡ before a) → (o ≡ None → b ≡ true → n.number ≡ after l) →
    option_map (λ own. own.number) (or_else f b n) ≡ option_map after (or_else o b l)
pushed (Some f) (Some a) b n l before after e there new = e ∙ ap Some (sym (there a refl))
pushed (Some f) None b n l before after e there new = cc
pushed None (Some a) b n l before after e there new = cc
pushed None None true n l before after e there new = ap Some (new refl refl)
pushed None None false n l before after e there new = refl

-- the numbers after one more declaration, whose number is the count of its sort
pub numbers_next : (ns : List (Named Numbered)) (n : Named Numbered) (c : Counts) → AreNumbered ns → AreCounts c (map own_declared ns) →
    n.what.number ≡ count_for c (local_shown n.what.local) → AreNumbered (ns ++ n ∷ [])
numbers_next ns n c are counts is name =
    let ds = map own_declared ns in
    let d = own_declared n in
    let l = local_shown n.what.local in
    ap (λ q. option_map (λ own. own.number) (found name q)) (map-append named ns (n ∷ []))
    ∙ ap (option_map (λ own. own.number)) (found_push name (map named ns) (named n))
    ∙ pushed (found name (map named ns)) (found name ds) (bytes_eq name n.name.now.name) n.what l (number_of name ds) (number_of name (ds ++ d ∷ [])) (are name)
    (λ a e. number_there (of_sort a) name ds (d ∷ []) a e)
    (λ e same. is ∙ counts l ∙ sym (number_absent (of_sort l) name ds d e same))
    ∙ ap (option_map (number_of name (ds ++ d ∷ []))) (sym (found_push name ds d))
    ∙ ap (λ q. option_map (number_of name q) (found name q)) (sym (map-append own_declared ns (n ∷ [])))

-- no declarations have their numbers
pub numbers_none : AreNumbered []
numbers_none name = refl

-- what a name is first declared as, its number left out
pub found_local : (ns : List (Named Numbered)) (name : List ℕ) → option_map (λ own. local_shown own.local) (found name (map named ns)) ≡ found name (map own_declared ns)
found_local ns name = sym (found_with (λ own. local_shown own.local) name (map named ns)) ∙ ap (found name) (map-map (with_what (λ own. local_shown own.local)) named ns)

-- ---- loops and tables

-- a declaration with its number
abbrev with_number : Named Own → ℕ → Named Numbered
with_number m number = record { name = m.name; what = record { local = m.what; number = number } }

-- a turn of the loop that numbers declarations
pub numbered_next : (ns new : List (Named Numbered)) (ms : List (Named Own)) (k : ℕ) (m : Named Own) (c next : Counts) (number : ℕ) → k < length ms → m ≡ get_or ms k m →
    new ≡ ns ++ with_number m number ∷ [] → number ≡ count_for c (local_shown m.what) → next ≡ counted c (local_shown m.what) →
    map own_declared ns ≡ map local_declared (take k ms) → AreCounts c (map own_declared ns) → AreNumbered ns →
    (map own_declared new ≡ map local_declared (take (k + 1) ms)) × AreCounts next (map own_declared new) × AreNumbered new
numbered_next ns new ms k m c next number within at grown is more same counts numbers =
    let n : Named Numbered = with_number m number in
    let declared : map own_declared new ≡ map own_declared ns ++ local_declared m ∷ [] = ap (map own_declared) grown ∙ map-append own_declared ns (n ∷ []) in (
      declared ∙ ap (λ q. q ++ local_declared m ∷ []) same ∙ sym (mapped_next local_declared ms k m within at),
      λ l. ap (λ q. count_for q l) more ∙ counts_next c (map own_declared ns) (local_declared m) counts l ∙ ap (count_of (of_sort l)) (sym declared),
      subst AreNumbered (sym grown) (numbers_next ns n c numbers counts is),
    )

-- what is declared again is so whatever its number
pub again_own : (ns : List (Named Numbered)) → again [] (map named ns) ≡ again [] (map own_declared ns)
again_own ns =
    sym (again_with (λ own. local_shown own.local) [] (map named ns)) ∙ ap (again []) (map-map (with_what (λ own. local_shown own.local)) named ns)
