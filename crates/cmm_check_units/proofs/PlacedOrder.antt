-- The first fault of units is the same whether their faults are listed unit by unit or rule by rule.
use Rattle.std.proofs.Common.{◌≡◌, ℕ, suc, List, [], ◌∷◌, ◌++◌, map, Option, None, refl, sym, ◌∙◌, ap}
use Rattle.std.proofs.lemmas.List.{map-append}
use Rattle.cmm_static_semantics.specs.declared.spot.Spot.{Spot}
use Rattle.cmm_static_semantics.specs.Spots.{sooner_by, first_by, comes_before}
use Rattle.cmm_static_semantics.specs.Declarations.{NamedUnit}
use Rattle.cmm_static_semantics.specs.Linking.{program_of}
use Rattle.cmm_static_semantics.specs.Faults.{Placed, stands_before, each_unit, name_spots, declaration_spots, procedure_spots, broken_names, broken_declarations, broken_procedures, all_broken}
use Rattle.cmm_symbols.proofs.Shared.{IsOrder, order_of, order_by, order_by_number_then, spot_order, first_joined, middle_swapped}

-- by unit, and in a unit as spots are
pub placed_order : IsOrder stands_before
placed_order =
    order_of stands_before (λ a b. (a.unit ≡ b.unit) × (a.spot ≡ b.spot)) (λ a b. a ≡ b)
    (λ a b same.
    ap (λ (u : ℕ). let p : Placed = record { unit = u; spot = a.spot } in p) same.0
    ∙ ap (λ (s : Spot). let p : Placed = record { unit = b.unit; spot = s } in p) same.1)
    (order_by_number_then (λ p. p.unit) (λ a b. comes_before a.spot b.spot) (λ a b. a.spot ≡ b.spot) (order_by (λ p. p.spot) comes_before spot_order))

-- ---- faults of each unit by some rules and by others

abbrev Rules : Type 0
Rules = List NamedUnit → NamedUnit → List Spot

abbrev placed_at : ℕ → List Spot → List Placed
placed_at number ss = map (λ s. record { unit = number; spot = s }) ss

-- unit by unit, or rule by rule: the first is the same
pub first_of_both : (f g : Rules) (earlier : List NamedUnit) (number : ℕ) (us : List NamedUnit) →
    first_by stands_before None (each_unit f earlier number us ++ each_unit g earlier number us) ≡ first_by stands_before None (each_unit (λ before u. f before u ++ g before u) earlier number us)
first_of_both f g earlier number [] = refl
first_of_both f g earlier number (u ∷ us) =
    let first : List Placed → Option Placed = first_by stands_before None in
    let join : Option Placed → Option Placed → Option Placed = sooner_by stands_before in
    let ours : List Placed = placed_at number (f earlier u) in
    let theirs : List Placed = placed_at number (g earlier u) in
    let more_ours : List Placed = each_unit f (earlier ++ u ∷ []) (suc number) us in
    let more_theirs : List Placed = each_unit g (earlier ++ u ∷ []) (suc number) us in
    let more : List Placed = each_unit (λ before v. f before v ++ g before v) (earlier ++ u ∷ []) (suc number) us in
    first_joined stands_before placed_order (ours ++ more_ours) (theirs ++ more_theirs)
    ∙ ap (λ o. join o (first (theirs ++ more_theirs))) (first_joined stands_before placed_order ours more_ours)
    ∙ ap (join (join (first ours) (first more_ours))) (first_joined stands_before placed_order theirs more_theirs)
    ∙ middle_swapped stands_before placed_order (first ours) (first more_ours) (first theirs) (first more_theirs)
    ∙ sym (ap (join (join (first ours) (first theirs))) (first_joined stands_before placed_order more_ours more_theirs))
    ∙ sym (ap (λ o. join o (first (more_ours ++ more_theirs))) (first_joined stands_before placed_order ours theirs))
    ∙ sym (ap (λ ps. join (first ps) (first (more_ours ++ more_theirs))) (map-append (λ s. record { unit = number; spot = s }) (f earlier u) (g earlier u)))
    ∙ ap (join (first (placed_at number (f earlier u ++ g earlier u)))) (first_of_both f g (earlier ++ u ∷ []) (suc number) us)
    ∙ sym (first_joined stands_before placed_order (placed_at number (f earlier u ++ g earlier u)) more)

-- a fault of units by all rules, unit by unit
pub first_broken_by_all : (us : List NamedUnit) → first_by stands_before None (all_broken us)
    ≡ first_by stands_before None (each_unit (λ earlier u. name_spots us earlier u ++ declaration_spots (program_of us) earlier u ++ procedure_spots (program_of us) earlier u) [] 0 us)
first_broken_by_all us =
    let join : Option Placed → Option Placed → Option Placed = sooner_by stands_before in
    let both : Rules = λ earlier u. name_spots us earlier u ++ declaration_spots (program_of us) earlier u in
    first_joined stands_before placed_order (broken_names us ++ broken_declarations us) (broken_procedures us)
    ∙ ap (λ o. join o (first_by stands_before None (broken_procedures us))) (first_of_both (name_spots us) (declaration_spots (program_of us)) [] 0 us)
    ∙ sym (first_joined stands_before placed_order (each_unit both [] 0 us) (broken_procedures us))
    ∙ first_of_both both (procedure_spots (program_of us)) [] 0 us
