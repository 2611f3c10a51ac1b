-- How control goes on, by cases, and what the search for a cut finds.
use Rattle.std.proofs.Common.{◌≡◌, ◌≢◌, ℕ, zero, suc, ◌+◌, ◌==◌, Bool, true, false, Option, Some, None, Result, Ok, Err, List, [], ◌∷◌, refl, sym, subst, arith}
use Rattle.std.specs.List.{All, AllByRecursion, Contains, find}
use Rattle.std.proofs.lemmas.Bool.{eqb-true}
use Rattle.std.proofs.lemmas.Bool.Decides.{nat_tests}
use Rattle.std.proofs.lemmas.List.Elements.{All-from_recursion}
use Rattle.cmm_program.specs.Errors.{EndOfBody, NeverReturns, NoSuchCut, NotAProcedure, WrongAlternates, WrongValues, given, provided}
use Rattle.cmm_program.specs.Exits.{Called, Instead, have_widths, numbers}
use Rattle.cmm_program.specs.Frames.{continuation_value, site_cuts, without}
use Rattle.cmm_program.specs.Orders.{Word}
use Rattle.cmm_program.specs.Performing.{Transfer, Away, Over, Found, cut_among, entering, returned}
use Rattle.cmm_program.specs.State.{Activation, Setting, Store, Ended, Done}
use Rattle.cmm_words.specs.declared.width.Width.TheVariants.{W64}
use Rattle.cmm_machine_laws.specs.Transfers.{CallEnters, CutCuts, Cuts, CutsNot, CutsTo, Ends, Enters, EntersAt, EntersNot, IsListed, JumpEnters, listed_by, Leaves, LeavesNot, LeavesTo, NoneLists, ReturnLeaves, SearchFinds, SearchFindsFirst}

-- ---- by cases on what may be missing, and on a test

pub given_cases : {A B E : Type 0} (P : Result B E → Type 0) (o : Option A) (error : E) (next : A → Result B E) →
    ((a : A) → o ≡ Some a → P (next a)) → P (Err error) → P (given o error next)
given_cases P (Some a) error next some none = some a refl
given_cases P None error next some none = none

pub provided_cases : {B E : Type 0} (P : Result B E → Type 0) (test : Bool) (error : E) (next : Result B E) →
    (test ≡ true → P next) → P (Err error) → P (provided test error next)
provided_cases P true error next holds fails = holds refl
provided_cases P false error next holds fails = fails

-- ---- entering

module _ (s : Setting) (address : ℕ) (words : List Word) (next : ℕ → Transfer) where
  -- what is entered by an address
  entering_cases : Enters s address words next (entering s address words (λ n. Ok (next n)))
  entering_cases =
      let P = Enters s address words next in
      given_cases P _ NotAProcedure _ (λ n is_n. given_cases P _ NotAProcedure _ (λ p is_p. provided_cases P _ WrongValues (Ok (next n))
      (EntersAt n p is_n is_p) (EntersNot WrongValues)) (EntersNot NotAProcedure)) (EntersNot NotAProcedure)

pub call_enters : CallEnters
call_enters s store site address words = entering_cases s address words (λ n. Away 0 store (Called site n (numbers words)))

pub jump_enters : JumpEnters
jump_enters s store address words = entering_cases s address words (λ n. Away 1 (without 1 store) (Instead n (numbers words)))

-- ---- leaving

module _ (s : Setting) (store : Store) (exit alternates : ℕ) where
  -- the oldest activation ends the run
  ending_cases : (words : List Word) → Leaves s store exit alternates words [] (returned s exit alternates words [] store)
  ending_cases words =
      let P = Leaves s store exit alternates words [] in
      provided_cases P _ WrongAlternates _ (λ none. provided_cases P _ WrongValues _ (λ have. by words have (eqb-true _ _ none)) (LeavesNot WrongValues))
      (LeavesNot WrongAlternates)
    where
      by : (words : List Word) → have_widths (W64 ∷ []) words ≡ true → alternates ≡ 0 →
          Leaves s store exit alternates words [] (elim (numbers words) [
            | v ∷ _ ↦ Ok (Over 1 (record (without 1 store) { status = Ended (Done v) }))
            | [] ↦ Err WrongValues
          ])
      by (w ∷ []) have none = Ends w.value refl none have refl
      by (w ∷ v ∷ more) have none = grind arith
      by [] have none = LeavesNot WrongValues

  -- another one leaves to a site
  leaving_cases : (words : List Word) (older : List Activation) → Leaves s store exit alternates words older (returned s exit alternates words older store)
  leaving_cases words [] = ending_cases words
  leaving_cases words (b ∷ more) =
      let P = Leaves s store exit alternates words (b ∷ more) in
      given_cases P _ WrongAlternates _ (λ a is_a. provided_cases P _ WrongAlternates _ (λ same. given_cases P _ NeverReturns _
      (λ e is_e. provided_cases P _ WrongValues _ (λ have. LeavesTo a e is_a (eqb-true _ _ same) is_e have) (LeavesNot WrongValues))
      (LeavesNot NeverReturns)) (LeavesNot WrongAlternates)) (LeavesNot WrongAlternates)

pub return_leaves : ReturnLeaves
return_leaves s store exit alternates words a older are =
    subst (λ as_. Leaves s store exit alternates words older (elim as_ [ [] ↦ Err EndOfBody | b ∷ more ↦ returned s exit alternates words more store ]))
    (sym are) (leaving_cases s store exit alternates words older)

-- ---- cutting

pub cut_cuts : CutCuts
cut_cuts s store value words own =
    let P = Cuts s store value words own in
    given_cases P _ NoSuchCut _ (λ found is. given_cases P _ NoSuchCut _ (λ e is_e. provided_cases P _ WrongValues _
    (CutsTo found e is is_e) (CutsNot WrongValues)) (CutsNot NoSuchCut)) (CutsNot NoSuchCut)

-- what is found in a list passes the test, and stands there
find_gives : (test : ℕ → Bool) (ks : List ℕ) (k : ℕ) → find test ks ≡ Some k → (test k ≡ true) × Contains ks k
find_gives test [] k is = grind arith
find_gives test (x ∷ ks) k is = by (find_gives test ks k) (test x) refl
  where
    by : (find test ks ≡ Some k → (test k ≡ true) × Contains ks k) → (b : Bool) → test x ≡ b → (test k ≡ true) × Contains (x ∷ ks) k
    by inner true at = let same : x ≡ k = grind (arith, at, is) in subst (λ y. (test y ≡ true) × Contains (x ∷ ks) y) same (at, (zero, omega arith, refl))
    by inner false at =
        let c = inner (grind (arith, at, is)) in (c.0, (suc c.1.0, omega (arith, c.1.1), c.1.2))

-- and where it gives nothing, no element has the value
find_none : (f : ℕ → ℕ) (value : ℕ) (ks : List ℕ) → find (λ k. f k == value) ks ≡ None → AllByRecursion (λ k. f k ≢ value) ks
find_none f value [] is = tt
find_none f value (x ∷ ks) is = by (find_none f value ks) (f x == value) refl
  where
    by : (find (λ k. f k == value) ks ≡ None → AllByRecursion (λ k. f k ≢ value) ks) → (b : Bool) → (f x == value) ≡ b →
        AllByRecursion (λ k. f k ≢ value) (x ∷ ks)
    by inner true at = grind (arith, at, is)
    by inner false at = (λ same. grind (arith, nat_tests, at, same), inner (grind (arith, at, is)))

module _ (s : Setting) (value : ℕ) (found : Found) where
  -- what the search finds when it has n activations behind it
  found_from : (own : List ℕ) (younger : ℕ) (activations : List Activation) → cut_among s younger own value activations ≡ Some found →
      (n : ℕ) × (found.younger ≡ younger + n) × IsListed s own value activations n found
  found_from own younger [] is = grind arith
  found_from own younger (a ∷ older) is =
      by (found_from (site_cuts s older) (suc younger) older) (find (λ k. continuation_value s (a ∷ older) k == value) own) refl
    where
      by : (cut_among s (suc younger) (site_cuts s older) value older ≡ Some found →
          (n : ℕ) × (found.younger ≡ suc younger + n) × IsListed s (site_cuts s older) value older n found) →
          (o : Option ℕ) → find (λ k. continuation_value s (a ∷ older) k == value) own ≡ o →
          (n : ℕ) × (found.younger ≡ younger + n) × IsListed s own value (a ∷ older) n found
      by later (Some k) at =
          let here : Found = record { younger = younger; procedure = a.procedure; continuation = k } in
          let same : here ≡ found = grind (arith, at, is) in
          let gives = find_gives _ own k at in
          subst (λ (f : Found). (n : ℕ) × (f.younger ≡ younger + n) × IsListed s own value (a ∷ older) n f) same (
            0,
            omega arith,
            record {
              activation = a;
              older = older;
              stands = refl;
              procedure = refl;
              listed = gives.1;
              has_value = eqb-true _ _ gives.0;
              first = at;
            },
          )
      by later None at =
          let rest = later (grind (arith, at, is)) in (
            suc rest.0,
            omega (arith, rest.1),
            record {
              activation = rest.2.activation;
              older = rest.2.older;
              stands = rest.2.stands;
              procedure = rest.2.procedure;
              listed = listed_older rest.0 rest.2;
              has_value = rest.2.has_value;
              first = first_older rest.0 rest.2;
            },
          )
        where
          listed_older : (n : ℕ) (l : IsListed s (site_cuts s older) value older n found) →
              Contains (listed_by s own (suc n) (l.activation ∷ l.older)) found.continuation
          listed_older zero l = subst (λ as_. Contains (site_cuts s as_) found.continuation) l.stands l.listed
          listed_older (suc n) l = l.listed

          first_older : (n : ℕ) (l : IsListed s (site_cuts s older) value older n found) →
              find (λ k. continuation_value s (l.activation ∷ l.older) k == value) (listed_by s own (suc n) (l.activation ∷ l.older)) ≡ Some found.continuation
          first_older zero l =
              subst (λ as_. find (λ k. continuation_value s (l.activation ∷ l.older) k == value) (site_cuts s as_) ≡ Some found.continuation) l.stands l.first
          first_older (suc n) l = l.first

pub search_finds : SearchFinds
search_finds s own value activations found is =
    let from = found_from s value found own 0 activations is in
    let same : from.0 ≡ found.younger = omega (arith, from.1) in
    subst (λ n. IsListed s own value activations n found) same from.2

module _ (s : Setting) (value : ℕ) (found : Found) where
  -- before what the search finds when it has n activations behind it
  none_before : (own : List ℕ) (younger : ℕ) (activations : List Activation) → cut_among s younger own value activations ≡ Some found →
      (n : ℕ) → found.younger ≡ younger + n → NoneLists s own value activations n
  none_before own younger [] is n at = grind arith
  none_before own younger (a ∷ older) is n at =
      by (none_before (site_cuts s older) (suc younger) older) (find (λ k. continuation_value s (a ∷ older) k == value) own) refl n at
    where
      by : (cut_among s (suc younger) (site_cuts s older) value older ≡ Some found →
          (n : ℕ) → found.younger ≡ suc younger + n → NoneLists s (site_cuts s older) value older n) →
          (o : Option ℕ) → find (λ k. continuation_value s (a ∷ older) k == value) own ≡ o →
          (n : ℕ) → found.younger ≡ younger + n → NoneLists s own value (a ∷ older) n
      by later (Some k) here n at =
          let same : younger ≡ found.younger = grind (arith, here, is) in
          λ m b more less. absurd (omega (arith, same, at, less))
      by later None here zero at = λ m b more less. absurd (omega (arith, less))
      by later None here (suc n) at = before (later (grind (arith, here, is)) n (omega (arith, at)))
        where
          before : NoneLists s (site_cuts s older) value older n → NoneLists s own value (a ∷ older) (suc n)
          before inner zero b more less stands =
              subst (λ as_. All (λ k. continuation_value s as_ k ≢ value) own) stands
              (All-from_recursion _ own (find_none (continuation_value s (a ∷ older)) value own here))
          before inner (suc zero) b more less stands =
              subst (λ as_. All (λ k. continuation_value s (b ∷ more) k ≢ value) (site_cuts s as_)) stands
              (inner zero b more (omega (arith, less)) stands)
          before inner (suc (suc m)) b more less stands = inner (suc m) b more (omega (arith, less)) stands

pub search_finds_first : SearchFindsFirst
search_finds_first s own value activations found is = none_before s value found own 0 activations is found.younger (omega arith)

pub ruleset laws = (call_enters, jump_enters, return_leaves, cut_cuts)
