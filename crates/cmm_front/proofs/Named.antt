-- The unit of a fault that is named is one of the units.
use Rattle.std.proofs.Common.{◌≡◌, ℕ, suc, ◌+◌, ◌<◌, List, [], ◌∷◌, ◌++◌, map, length, inl, inr, Bool, true, false, Option, Some, None, Result, Ok, Err, refl, ap, subst, sym, ◌∙◌, ◌⊎◌, arith}
use Rattle.std.specs.Prelude.{IfErr, IfSome}
use Rattle.std.specs.List.{All}
use Rattle.std.proofs.lemmas.Option.{none-some}
use Rattle.std.proofs.lemmas.List.Elements.{All-append, All-cons, All-head, All-nil, All-tail}
use Rattle.cmm_ast.specs.declared.unit.Unit.{Unit as UnitTree}
use Rattle.cmm_static_semantics.specs.declared.fault.Fault.{Fault}
use Rattle.cmm_static_semantics.specs.declared.spot.Spot.{Spot}
use Rattle.cmm_static_semantics.specs.Declarations.{NamedUnit, labels_in, named_units, procs_in, sum_of, units_from}
use Rattle.cmm_static_semantics.specs.Items.{items_of}
use Rattle.cmm_static_semantics.specs.Faults.{Placed, all_broken, at_beginning, broken_declarations, broken_names, broken_procedures, each_unit, fault_at, fault_of_all, first_fault, stands_before}
use Rattle.cmm_static_semantics.specs.Linking.{has_main, program_of}
use Rattle.cmm_static_semantics.specs.Limits.{sums_are_within}
use Rattle.cmm_static_semantics.specs.Spots.{first_by, sooner_by}
use Rattle.cmm_front.specs.declared.fault.FrontFault.{FrontFault}
use Rattle.cmm_front.specs.Refusing.{IsFaultOf, IsOfFirst, IsRefused}
use Rattle.cmm_front.specs.Sources.{HasTokens, HasTree, IsLexicalFault, IsSyntaxFault, IsTreeOf}
use Rattle.cmm_rules.specs.declared.rule.Rule.{Rule}
use Rattle.cmm_rules.specs.declared.rule.Rule.TheVariants.{Limit, NoMain}
use Rattle.cmm_front.proofs.First.{refused_for, zip_count}

-- ---- of the units that are read one after another

module _ (W : List ℕ → Type 0) (B : List ℕ → ℕ → Fault → Type 0) (unit_is : (unit : List ℕ) (number : ℕ) (f : Fault) → B unit number f → f.unit ≡ number) where
  pub first_unit : (n : ℕ) (units : List (List ℕ)) (f : Fault) → IsOfFirst W B n units f → f.unit < n + length units
  first_unit n [] f first = absurd first
  first_unit n (u ∷ us) f (inl broken) = let same : f.unit ≡ n = unit_is u n f broken in omega arith
  first_unit n (u ∷ us) f (inr later) = let rest : f.unit < suc n + length us = first_unit (suc n) us f later.1 in omega arith

-- ---- of trees

abbrev IsBelow : ℕ → Placed → Type 0
IsBelow n p = p.unit < n

each_spot : (n number : ℕ) (spots : List Spot) → number < n → All (IsBelow n) (map (λ s. record { unit = number; spot = s }) spots)
each_spot n number [] below = All-nil (IsBelow n)
each_spot n number (s ∷ ss) below = All-cons (IsBelow n) (record { unit = number; spot = s }) (map (λ x. record { unit = number; spot = x }) ss) below (each_spot n number ss below)

each_below : (spots : List NamedUnit → NamedUnit → List Spot) (earlier : List NamedUnit) (number : ℕ) (us : List NamedUnit) (n : ℕ) → number + length us ≡ n →
    All (IsBelow n) (each_unit spots earlier number us)
each_below spots earlier number [] n is = All-nil (IsBelow n)
each_below spots earlier number (u ∷ us) n is =
    All-append (IsBelow n) (map (λ s. record { unit = number; spot = s }) (spots earlier u)) (each_unit spots (earlier ++ u ∷ []) (suc number) us) (each_spot n number (spots earlier u) (omega arith))
    (each_below spots (earlier ++ u ∷ []) (suc number) us n (omega arith))

chosen_keeps : (P : Placed → Type 0) (b : Bool) (p q : Placed) → P p → P q → IfSome (elim b as (λ _. Option Placed) [ true ↦ Some p | false ↦ Some q ]) P
chosen_keeps P true p q first second = first
chosen_keeps P false p q first second = second

sooner_keeps : (P : Placed → Type 0) (best : Option Placed) (p : Placed) → IfSome best P → P p → IfSome (sooner_by stands_before best (Some p)) P
sooner_keeps P None p kept holds = holds
sooner_keeps P (Some q) p kept holds = chosen_keeps P (stands_before p q) p q holds kept

first_keeps : (P : Placed → Type 0) (best : Option Placed) (ps : List Placed) → IfSome best P → All P ps → IfSome (first_by stands_before best ps) P
first_keeps P best [] kept all = kept
first_keeps P best (p ∷ ps) kept all = first_keeps P (sooner_by stands_before best (Some p)) ps (sooner_keeps P best p kept (All-head P p ps all)) (All-tail P p ps all)

count_from : (procs labels : ℕ) (us : List UnitTree) → length (units_from procs labels us) ≡ length us
count_from procs labels [] = refl
count_from procs labels (u ∷ us) = ap suc (count_from (procs + sum_of procs_in (items_of u)) (labels + sum_of labels_in (items_of u)) us)

all_below : (us : List NamedUnit) → All (IsBelow (length us)) (all_broken us)
all_below us =
    let same : 0 + length us ≡ length us = omega arith in
    All-append (IsBelow (length us)) (broken_names us ++ broken_declarations us) (broken_procedures us)
    (All-append (IsBelow (length us)) (broken_names us) (broken_declarations us) (each_below _ [] 0 us (length us) same) (each_below _ [] 0 us (length us) same))
    (each_below _ [] 0 us (length us) same)

beginning_is : (o : Option Fault) (f : Fault) → (o ≡ None) ⊎ ((rule : Rule) × (o ≡ at_beginning rule)) → o ≡ Some f → f.unit ≡ 0
beginning_is o f (inl none) is = absurd (none-some f (sym none ∙ is))
beginning_is o f (inr (rule, some)) is = sym (ap (λ x. elim x as (λ _. ℕ) [ Some g ↦ g.unit | None ↦ 0 ]) (sym some ∙ is))

of_all : (us : List NamedUnit) → (fault_of_all us ≡ None) ⊎ ((rule : Rule) × (fault_of_all us ≡ at_beginning rule))
of_all us = by (has_main us) (sums_are_within (program_of us) us) refl refl where
  by : (a b : Bool) → has_main us ≡ a → sums_are_within (program_of us) us ≡ b →
      ((elim a as (λ _. Option Fault) [ true ↦ elim b as (λ _. Option Fault) [ true ↦ None | false ↦ at_beginning Limit ] | false ↦ at_beginning NoMain ]) ≡ None)
      ⊎ ((rule : Rule) × ((elim a as (λ _. Option Fault) [ true ↦ elim b as (λ _. Option Fault) [ true ↦ None | false ↦ at_beginning Limit ] | false ↦ at_beginning NoMain ]) ≡ at_beginning rule))
  by true true p q = inl refl
  by true false p q = inr (Limit, refl)
  by false b p q = inr (NoMain, refl)

static_by : (us : List UnitTree) (f : Fault) (o : Option Placed) → 0 < length us → IfSome o (IsBelow (length us)) →
    (elim o as (λ _. Option Fault) [ Some p ↦ Some (fault_at us p) | None ↦ fault_of_all (named_units us) ]) ≡ Some f → f.unit < length us
static_by us f (Some p) some below is =
    let same : f.unit ≡ p.unit = sym (ap (λ x. elim x as (λ _. ℕ) [ Some g ↦ g.unit | None ↦ 0 ]) is) in let here : p.unit < length us = below in omega arith
static_by us f None some below is = let none : f.unit ≡ 0 = beginning_is (fault_of_all (named_units us)) f (of_all (named_units us)) is in omega arith

-- the unit of a static fault
pub static_unit : (us : List UnitTree) (f : Fault) → 0 < length us → first_fault us ≡ Some f → f.unit < length us
static_unit us f some is =
    static_by us f (first_by stands_before None (all_broken (named_units us))) some
    (first_keeps (IsBelow (length us)) None (all_broken (named_units us)) tt (subst (λ n. All (IsBelow n) (all_broken (named_units us))) (count_from 0 0 us) (all_below (named_units us)))) is

-- the unit of any fault
pub fault_unit : (units : List (List ℕ)) (f : Fault) → 0 < length units → IsFaultOf units f → f.unit < length units
fault_unit units f some (inl lexis) =
    let below : f.unit < 0 + length units = first_unit HasTokens IsLexicalFault (λ unit number g broken. broken.is_unit) 0 units f lexis in omega arith
fault_unit units f some (inr (inl syntax)) =
    let below : f.unit < 0 + length units = first_unit HasTree IsSyntaxFault (λ unit number g broken. broken.is_unit) 0 units f syntax.1 in omega arith
fault_unit units f some (inr (inr static)) =
    let same : length units ≡ length static.trees = zip_count IsTreeOf units static.trees static.are_trees in let more : 0 < length static.trees = omega arith in
    let below : f.unit < length static.trees = static_unit static.trees f more static.first in omega arith

-- an answer that names a fault names one of the units
pub named_of : {A : Type 0} (units : List (List ℕ)) (result : Result A FrontFault) → IfErr result (IsRefused (IsFaultOf units)) → 0 < length units →
    IfErr result (IsRefused (λ f. f.unit < length units))
named_of units (Ok a) refused some = tt
named_of units (Err e) refused some = refused_for (IsFaultOf units) (λ f. f.unit < length units) (λ f is. fault_unit units f some is) e refused
