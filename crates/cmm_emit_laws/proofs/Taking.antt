-- Values that control brings come to places.
use Rattle.std.proofs.Common.{◌≡◌, ℕ, suc, ◌+◌, ◌-◌, ◌<◌, ◌≤◌, ◌^◌, refl, ◌∙◌, ap, arith, List, [], ◌∷◌, length, map, subst}
use Rattle.std.specs.Prelude.{slice_index_or}
use Rattle.std.specs.List.{All}
use Rattle.std.proofs.lemmas.List.Elements.{All-map, All-tail}
use Rattle.rv_table.proofs.Shared.{loaded-lt}
use Rattle.rv_table.specs.Bounds.{IsSound}
use Rattle.rv_table.specs.Machine.{State, Region}
use Rattle.cmm_chain.specs.declared.frame.Location.{Location}
use Rattle.cmm_chain.specs.Contents.{Number}
use Rattle.cmm_chain.specs.Plans.{Plan}
use Rattle.cmm_chain.specs.Running.{Holdings, put_in}
use Rattle.cmm_program.specs.State.{Activation, Setting}
use Rattle.cmm_graph.specs.declared.number.Variable.{Variable}
use Rattle.cmm_select.specs.declared.destination.Destination.{Destination}
use Rattle.cmm_calls.specs.Copying.{values_to}
use Rattle.cmm_calls.specs.Values.{values_for}
use Rattle.cmm_emit_laws.specs.Represented.{ArePlacesOf, IsPlaceOf, put_each}
use Rattle.cmm_emit_laws.specs.Words.{RepresentsValues}
use Rattle.cmm_located.specs.Nodes.{passed_to}
use Rattle.cmm_abi.specs.Regions.{value_place, word_at, InRegister, InMemory, Place}

-- what takes values, each with the value that comes to it
abbrev pub pairs : {A : Type 0} → List A → List ℕ → List (A × ℕ)
pairs [] values = []
pairs (first ∷ rest) [] = []
pairs (first ∷ rest) (value ∷ values) = (first, value) ∷ pairs rest values

-- the same with where values travel, from the k-th on
abbrev travelling : {A : Type 0} → Region → ℕ → List A → State → List (A × ℕ)
travelling r k [] u = []
travelling r k (first ∷ rest) u = (first, word_at u (value_place r k)) ∷ travelling r (suc k) rest u

-- what travels is what comes
travelling_come : {A : Type 0} (r : Region) (k : ℕ) (takes : List A) (values : List ℕ) (u : State) → length takes ≤ length values →
    ((i : ℕ) → i < length takes → word_at u (value_place r (k + i)) ≡ slice_index_or values i 0) → travelling r k takes u ≡ pairs takes values
travelling_come r k [] values u few are = refl
travelling_come r k (first ∷ rest) [] u few are = absurd (omega (arith, few))
travelling_come {A = A} r k (first ∷ rest) (value ∷ values) u few are =
    let here : word_at u (value_place r k) ≡ value = ap (λ (n : ℕ). word_at u (value_place r n)) (omega arith) ∙ are 0 (omega arith) in
    let later : travelling r (suc k) rest u ≡ pairs rest values =
    travelling_come r (suc k) rest values u (omega (arith, few)) (λ i less. ap (λ (n : ℕ). word_at u (value_place r n)) (omega arith) ∙ are (suc i) (omega (arith, less))) in
    grind (arith, here, later)

for_places : (r : Region) (k : ℕ) (places : List Location) (u : State) → values_for r k places u ≡ travelling r k places u
for_places r k [] u = refl
for_places r k (place ∷ places) u = let rest = for_places r (suc k) places u in grind (arith, rest)

to_destinations : (r : Region) (k : ℕ) (to : List Destination) (u : State) → values_to r k to u ≡ travelling r k to u
to_destinations r k [] u = refl
to_destinations r k (first ∷ rest) u = let later = to_destinations r (suc k) rest u in grind (arith, later)

module _ {A : Type 0} (r : Region) (takes : List A) (values : List ℕ) (u : State) (few : length takes ≤ length values) (come : (i : ℕ) → i < length takes → word_at u (value_place r i) ≡ slice_index_or values i 0) where
  first_come : travelling r 0 takes u ≡ pairs takes values
  first_come = travelling_come r 0 takes values u few (λ i less. ap (λ (n : ℕ). word_at u (value_place r n)) (omega arith) ∙ come i less)

pub come_to_places : (r : Region) (places : List Location) (values : List ℕ) (u : State) → length places ≤ length values →
    ((i : ℕ) → i < length places → word_at u (value_place r i) ≡ slice_index_or values i 0) → values_for r 0 places u ≡ pairs places values
come_to_places r places values u few come = for_places r 0 places u ∙ first_come r places values u few come

pub come_to_destinations : (r : Region) (to : List Destination) (values : List ℕ) (u : State) → length to ≤ length values →
    ((i : ℕ) → i < length to → word_at u (value_place r i) ≡ slice_index_or values i 0) → values_to r 0 to u ≡ pairs to values
come_to_destinations r to values u few come = to_destinations r 0 to u ∙ first_come r to values u few come

-- a word has 64 bits, wherever it is
word_fits : (t : State) (place : Place) → IsSound t → word_at t place < 2 ^ 64
word_fits t (InRegister n) sound = sound.registers n
word_fits t (InMemory address) sound = loaded-lt t.memory address 8 sound.memory

-- each value that is shown has 64 bits
pub values_fit : (r : Region) (values : List ℕ) (t : State) → IsSound t → RepresentsValues r values t → (i : ℕ) → i < length values → slice_index_or values i 0 < 2 ^ 64
values_fit r values t sound shows i less = let fits = word_fits t (value_place r i) sound in subst (λ (n : ℕ). n < 2 ^ 64) (shows.1 i less) fits

-- places that take values that fit
pub pairs_are_places : (s : Setting) (a : Activation) (places : List Location) (values : List ℕ) → All (IsPlaceOf s a) places →
    ((i : ℕ) → i < length values → slice_index_or values i 0 < 2 ^ 64) → ArePlacesOf s a (pairs places values)
pairs_are_places s a [] values are fit = tt
pairs_are_places s a (place ∷ places) [] are fit = tt
pairs_are_places s a (place ∷ places) (value ∷ values) are fit =
    (are 0 place (omega arith), (fit 0 (omega arith), pairs_are_places s a places values (All-tail (IsPlaceOf s a) place places are) (λ i less. fit (suc i) (omega (arith, less)))))

-- formals that take arguments
pub formals_put : (plan : Plan) (q : ℕ) (formals : List Variable) (values : List ℕ) (h : Holdings) →
    put_each (pairs (map (λ v. plan.place q v.number) formals) values) h ≡ passed_to plan q (map (λ v. v.number) formals) values h
formals_put plan q [] values h = refl
formals_put plan q (v ∷ vs) [] h = refl
formals_put plan q (v ∷ vs) (value ∷ values) h = formals_put plan q vs values (put_in (plan.place q v.number) (Number value) h)

pub formals_are_places : (s : Setting) (a : Activation) (plan : Plan) (q : ℕ) (formals : List Variable) → ((v : ℕ) → IsPlaceOf s a (plan.place q v)) →
    All (IsPlaceOf s a) (map (λ v. plan.place q v.number) formals)
formals_are_places s a plan q formals are = All-map (IsPlaceOf s a) (λ v. plan.place q v.number) formals (λ k v less. are (slice_index_or formals k v).number)
