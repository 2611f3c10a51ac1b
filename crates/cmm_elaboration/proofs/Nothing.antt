-- Units that break no rule: of each list of broken places nothing is left.
use Rattle.std.proofs.Common.{◌≡◌, ℕ, suc, List, [], ◌∷◌, ◌++◌, refl, Bool, true, false, Option, Some, None}
use Rattle.std.specs.Prelude.{map}
use Rattle.cmm_ast.specs.declared.unit.Unit.{Unit as UnitTree}
use Rattle.cmm_rules.specs.declared.rule.Rule.{Rule}
use Rattle.cmm_rules.specs.declared.rule.Rule.TheVariants.{NoMain, Limit}
use Rattle.cmm_static_semantics.specs.declared.fault.Fault.{Fault}
use Rattle.cmm_static_semantics.specs.declared.spot.Spot.{Spot}
use Rattle.cmm_static_semantics.specs.Spots.{unless, first_by}
use Rattle.cmm_static_semantics.specs.Declarations.{NamedUnit, named_units}
use Rattle.cmm_static_semantics.specs.Linking.{program_of, has_main}
use Rattle.cmm_static_semantics.specs.Limits.{sums_are_within}
use Rattle.cmm_static_semantics.specs.Faults.{Placed, stands_before, each_unit, broken_names, broken_declarations, broken_procedures, all_broken, fault_at, fault_of_all, at_beginning, AreAccepted}

pub no_left : {A : Type 0} (xs ys : List A) → xs ++ ys ≡ [] → xs ≡ []
no_left [] ys e = refl
no_left (x ∷ xs) ys e = cc

pub no_right : {A : Type 0} (xs ys : List A) → xs ++ ys ≡ [] → ys ≡ []
no_right [] ys e = e
no_right (x ∷ xs) ys e = cc

pub no_map : {A B : Type 0} (f : A → B) (xs : List A) → map f xs ≡ [] → xs ≡ []
no_map f [] e = refl
no_map f (x ∷ xs) e = cc

pub no_unless : (test : Bool) (rule : Rule) (token : ℕ) → unless test rule token ≡ [] → test ≡ true
no_unless true rule token e = refl
no_unless false rule token e = cc

-- ---- the first of several is there where one is

either_first : {A : Type 0} (before : A → A → Bool) (b : Bool) (a s : A) (ss : List A) →
    ((x : A) → first_by before (Some x) ss ≡ None → ⊥) → first_by before (elim b [ true ↦ Some s | false ↦ Some a ]) ss ≡ None → ⊥
either_first before true a s ss later e = later s e
either_first before false a s ss later e = later a e

some_first : {A : Type 0} (before : A → A → Bool) (ss : List A) (a : A) → first_by before (Some a) ss ≡ None → ⊥
some_first before [] a e = cc
some_first before (s ∷ ss) a e = either_first before (before s a) a s ss (some_first before ss) e

none_first : {A : Type 0} (before : A → A → Bool) (ss : List A) → first_by before None ss ≡ None → ss ≡ []
none_first before [] e = refl
none_first before (s ∷ ss) e = absurd (some_first before ss s e)

-- ---- what is accepted

-- no fault is named: there is no place, and nothing is broken of all units
pub record IsUnbroken (us : List NamedUnit) : Type 0 where
  pub nowhere : all_broken us ≡ []
  pub main : has_main us ≡ true
  pub sums : sums_are_within (program_of us) us ≡ true

some_fault : (us : List UnitTree) (p : Option Placed) (all : Option Fault) → ◌≡◌ {A = Option Fault} (elim p [ Some a ↦ Some (fault_at us a) | None ↦ all ]) None → p ≡ None
some_fault us None all e = refl
some_fault us (Some a) all e = cc

last_fault : (us : List UnitTree) (p : Option Placed) (all : Option Fault) → ◌≡◌ {A = Option Fault} (elim p [ Some a ↦ Some (fault_at us a) | None ↦ all ]) None → all ≡ None
last_fault us None all e = e
last_fault us (Some a) all e = cc

sums_of : (main sums : Bool) →
    ◌≡◌ {A = Option Fault} (elim main [ true ↦ elim sums [ true ↦ None | false ↦ at_beginning Limit ] | false ↦ at_beginning NoMain ]) None → (main ≡ true) × (sums ≡ true)
sums_of true true e = (refl, refl)
sums_of true false e = cc
sums_of false sums e = cc

pub unbroken : (us : List UnitTree) → AreAccepted us → IsUnbroken (named_units us)
unbroken us accepted =
    let ns = named_units us in
    let first = first_by stands_before None (all_broken ns) in
    let whole : (has_main ns ≡ true) × (sums_are_within (program_of ns) ns ≡ true) =
    sums_of (has_main ns) (sums_are_within (program_of ns) ns) (last_fault us first (fault_of_all ns) accepted) in
    record {
      nowhere = none_first stands_before (all_broken ns) (some_fault us first (fault_of_all ns) accepted);
      main = whole.0;
      sums = whole.1;
    }

-- the three groups of rules
pub names_kept : (us : List NamedUnit) → all_broken us ≡ [] → broken_names us ≡ []
names_kept us e = no_left (broken_names us) (broken_declarations us) (no_left (broken_names us ++ broken_declarations us) (broken_procedures us) e)

pub declarations_kept : (us : List NamedUnit) → all_broken us ≡ [] → broken_declarations us ≡ []
declarations_kept us e = no_right (broken_names us) (broken_declarations us) (no_left (broken_names us ++ broken_declarations us) (broken_procedures us) e)

pub procedures_kept : (us : List NamedUnit) → all_broken us ≡ [] → broken_procedures us ≡ []
procedures_kept us e = no_right (broken_names us ++ broken_declarations us) (broken_procedures us) e

-- of the first of some units, and of the rest
pub first_unit : (spots : List NamedUnit → NamedUnit → List Spot) (earlier : List NamedUnit) (number : ℕ) (u : NamedUnit) (us : List NamedUnit) →
    each_unit spots earlier number (u ∷ us) ≡ [] → spots earlier u ≡ []
first_unit spots earlier number u us e = no_map (λ s. record { unit = number; spot = s }) (spots earlier u)
    (no_left (map (λ s. record { unit = number; spot = s }) (spots earlier u)) (each_unit spots (earlier ++ u ∷ []) (suc number) us) e)

pub other_units : (spots : List NamedUnit → NamedUnit → List Spot) (earlier : List NamedUnit) (number : ℕ) (u : NamedUnit) (us : List NamedUnit) →
    each_unit spots earlier number (u ∷ us) ≡ [] → each_unit spots (earlier ++ u ∷ []) (suc number) us ≡ []
other_units spots earlier number u us e =
    no_right (map (λ s. record { unit = number; spot = s }) (spots earlier u)) (each_unit spots (earlier ++ u ∷ []) (suc number) us) e
