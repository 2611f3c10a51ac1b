-- Units laid flat break rules as units do: the first fault is the same.
use Rattle.std.proofs.Common.{◌≡◌, ℕ, suc, ◌||◌, map, refl, ap, sym, ◌∙◌, List, [], ◌∷◌, ◌++◌, Option, None, option_map}
use Rattle.std.specs.Prelude.{flat_map}
use Rattle.std.proofs.lemmas.List.{map-append}
use Rattle.std.proofs.lemmas.List.Folds.{flat_map-map}
use Rattle.cmm_static_semantics.specs.declared.spot.Spot.{Spot}
use Rattle.cmm_static_semantics.specs.Spots.{first_by, first_of, sooner_by, comes_before}
use Rattle.cmm_static_semantics.specs.Senses.{Senses}
use Rattle.cmm_static_semantics.specs.Declarations.{Declared, Entry, NamedUnit, host_again, again}
use Rattle.cmm_static_semantics.specs.Linking.{export_links, exports_of, export_spots, twice, import_spots, program_of, has_main, registers_of}
use Rattle.cmm_static_semantics.specs.Scopes.{unit_senses}
use Rattle.cmm_static_semantics.specs.Units.{target_decl_spots, entry_spots, register_spots, item_spots}
use Rattle.cmm_static_semantics.specs.LongNames.{long_spots, of_item}
use Rattle.cmm_static_semantics.specs.Faults.{stands_before, name_spots, declaration_spots, procedure_spots, item_procedure_spots, register_widths, each_unit, all_broken}
use Rattle.cmm_check_declarations.specs.EntryFaults.{entry_value_spots}
use Rattle.cmm_check_declarations.proofs.Shared.{value_or_cycle}
use Rattle.cmm_linkage.specs.Exports.{exported_links}
use Rattle.cmm_linkage.proofs.Shared.{links_of_all}
use Rattle.cmm_static_semantics.proofs.Shared.{first_of_append}
use Rattle.cmm_symbols.proofs.Shared.{first_apart, first_joined, first_swapped, first_of_each, spot_order}
use Rattle.cmm_check_units.specs.inside.Cyclic.{entry_cycle_spots}
use Rattle.cmm_check_units.specs.inside.Flat.{flat_unit, flat_links, links_before, widths_before, flat_widths, flat_name_spots, flat_value_spots, flat_register_spots, flat_cycle_spots, spots_by, flat_spots, placed, flats_broken, flat_starts, some_starts}
use Rattle.cmm_check_units.proofs.FirstUnit.{first_placed}
use Rattle.cmm_check_units.proofs.PlacedOrder.{placed_order, first_broken_by_all}

links_flat : (us : List NamedUnit) → flat_map export_links us ≡ links_before (map flat_unit us)
links_flat us = sym (flat_map-map flat_links flat_unit us)

pub widths_flat : (us : List NamedUnit) → flat_map register_widths us ≡ widths_before (map flat_unit us)
widths_flat us = sym (flat_map-map flat_widths flat_unit us)

names_flat : (us earlier : List NamedUnit) (u : NamedUnit) → name_spots us earlier u ≡ flat_name_spots (exported_links (program_of us)) (links_before (map flat_unit earlier)) (flat_unit u)
names_flat us earlier u =
    let first = again [] u.entries ++ flat_map host_again u.entries ++ flat_map (export_spots u.entries) (exports_of u) in
    let targets = flat_map (λ i. target_decl_spots i.what) u.items in
    let long = flat_map long_spots (flat_map (λ i. of_item i.what) u.items) in
    ap (λ q. first ++ twice q (exports_of u) ++ flat_map (import_spots (flat_map export_links us)) u.entries ++ targets ++ long) (links_flat earlier)
    ∙ ap (λ q. first ++ twice (links_before (map flat_unit earlier)) (exports_of u) ++ flat_map (import_spots q) u.entries ++ targets ++ long) (sym (links_of_all us))
    ∙ ap (λ q. first ++ twice (links_before (map flat_unit earlier)) (exports_of u) ++ flat_map (import_spots (exported_links (program_of us))) u.entries ++ q ++ long)
    (sym (flat_map-map target_decl_spots (λ w. w.what) u.items))
    ∙ ap (λ q. first ++ twice (links_before (map flat_unit earlier)) (exports_of u) ++ flat_map (import_spots (exported_links (program_of us))) u.entries
    ++ flat_map target_decl_spots (flat_unit u).items ++ flat_map long_spots q)
    (sym (flat_map-map of_item (λ w. w.what) u.items))

-- ---- what is told of entries one by one is told of their values first, and of cycles after what else stands in the unit

each_alike : {A B : Type 0} (f g : A → List B) → ((a : A) → f a ≡ g a) → (xs : List A) → flat_map f xs ≡ flat_map g xs
each_alike f g same [] = refl
each_alike f g same (x ∷ xs) = ap (λ t. t ++ flat_map f xs) (same x) ∙ ap (λ t. g x ++ t) (each_alike f g same xs)

entries_apart : (names : Senses) (ds xs : List (Declared Entry)) →
    first_of None (flat_map (entry_spots names ds) xs) ≡ first_of None (flat_map (λ d. entry_value_spots names d.as_what) xs ++ flat_map (entry_cycle_spots ds) xs)
entries_apart names ds xs =
    ap (first_of None) (each_alike (entry_spots names ds) (λ d. entry_value_spots names d.as_what ++ entry_cycle_spots ds d) (value_or_cycle names ds) xs)
    ∙ sym (first_of_each comes_before spot_order (λ d. entry_value_spots names d.as_what) (entry_cycle_spots ds) None xs)

-- the first and the last of three change places
ends_swapped : (best : Option Spot) (c r i : List Spot) → first_of (first_of (first_of best c) r) i ≡ first_of (first_of (first_of best i) r) c
ends_swapped best c r i =
    sym (first_of_append (first_of best c) r i) ∙ sym (first_of_append best c (r ++ i)) ∙ first_swapped comes_before spot_order best c (r ++ i)
    ∙ first_of_append best (r ++ i) c ∙ ap (λ q. first_of q c) (first_swapped comes_before spot_order best r i ∙ first_of_append best i r)

same_after : (best : Option Spot) (xs ys : List Spot) → first_of None xs ≡ first_of None ys → first_of best xs ≡ first_of best ys
same_after best xs ys same =
    first_apart comes_before spot_order best xs ∙ ap (sooner_by comes_before best) same ∙ sym (first_apart comes_before spot_order best ys)

within_unit : (best : Option Spot) (e v c r i : List Spot) → first_of None e ≡ first_of None (v ++ c) →
    first_of best (e ++ r ++ i) ≡ first_of (first_of (first_of (first_of best v) i) r) c
within_unit best e v c r i apart =
    first_of_append best (e ++ r) i ∙ ap (λ q. first_of q i) (first_of_append best e r ∙ ap (λ q. first_of q r) (same_after best e (v ++ c) apart ∙ first_of_append best v c))
    ∙ ends_swapped (first_of best v) c r i

reordered : (n e v c r i p : List Spot) → first_of None e ≡ first_of None (v ++ c) →
    first_of None (n ++ (e ++ r ++ i) ++ p) ≡ first_of None (n ++ (v ++ i) ++ r ++ c ++ p)
reordered n e v c r i p apart =
    first_of_append None (n ++ (e ++ r ++ i)) p ∙ ap (λ q. first_of q p) (first_of_append None n (e ++ r ++ i) ∙ within_unit (first_of None n) e v c r i apart)
    ∙ sym (first_of_append None (n ++ (v ++ i) ++ r ++ c) p
    ∙ ap (λ q. first_of q p) (first_of_append None (n ++ (v ++ i) ++ r) c
    ∙ ap (λ q. first_of q c) (first_of_append None (n ++ (v ++ i)) r
    ∙ ap (λ q. first_of q r) (first_of_append None n (v ++ i) ∙ first_of_append (first_of None n) v i))))

-- ---- one unit

abbrev unit_spots : Senses → List NamedUnit → List NamedUnit → NamedUnit → List Spot
unit_spots names us earlier u =
    name_spots us earlier u
    ++ (flat_map (entry_spots names u.entries) u.entries ++ flat_map (register_spots (flat_map register_widths earlier) u.entries) (registers_of u) ++ flat_map (λ i. item_spots names i.what) u.items)
    ++ flat_map (λ i. item_procedure_spots names i.what) u.items

-- whatever names mean
flat_by : (names : Senses) (us earlier : List NamedUnit) (u : NamedUnit) →
    first_of None (unit_spots names us earlier u) ≡ first_of None (spots_by names (exported_links (program_of us)) (map flat_unit earlier) (flat_unit u))
flat_by names us earlier u =
    let f = flat_unit u in
    let n = flat_name_spots (exported_links (program_of us)) (links_before (map flat_unit earlier)) f in
    let v = flat_map (λ d. entry_value_spots names d.as_what) u.entries in
    let r = flat_map (register_spots (flat_map register_widths earlier) u.entries) (registers_of u) in
    let i = flat_map (λ i. item_spots names i.what) u.items in
    let p = flat_map (λ i. item_procedure_spots names i.what) u.items in
    reordered (name_spots us earlier u) (flat_map (entry_spots names u.entries) u.entries) v (flat_cycle_spots f) r i p (entries_apart names u.entries u.entries)
    ∙ ap (λ q. first_of None (q ++ (v ++ i) ++ r ++ flat_cycle_spots f ++ p)) (names_flat us earlier u)
    ∙ ap (λ q. first_of None (n ++ (v ++ q) ++ r ++ flat_cycle_spots f ++ p)) (sym (flat_map-map (item_spots names) (λ w. w.what) u.items))
    ∙ ap (λ w. first_of None (n ++ flat_value_spots names f ++ flat_register_spots w f ++ flat_cycle_spots f ++ p)) (widths_flat earlier)
    ∙ ap (λ q. first_of None (n ++ flat_value_spots names f ++ flat_register_spots (widths_before (map flat_unit earlier)) f ++ flat_cycle_spots f ++ q))
    (sym (flat_map-map (item_procedure_spots names) (λ w. w.what) u.items))

-- ---- all units

abbrev all_spots : List NamedUnit → List NamedUnit → NamedUnit → List Spot
all_spots us earlier u = name_spots us earlier u ++ declaration_spots (program_of us) earlier u ++ procedure_spots (program_of us) earlier u

spots_flat : (us earlier : List NamedUnit) (u : NamedUnit) → first_of None (all_spots us earlier u) ≡ first_of None (flat_spots (program_of us) (map flat_unit earlier) (flat_unit u))
spots_flat us earlier u = flat_by (unit_senses (program_of us) u.entries) us earlier u

each_flat : (us earlier : List NamedUnit) (number : ℕ) (rest : List NamedUnit) →
    first_by stands_before None (each_unit (all_spots us) earlier number rest) ≡ first_by stands_before None (flats_broken (program_of us) (map flat_unit earlier) number (map flat_unit rest))
each_flat us earlier number [] = refl
each_flat us earlier number (u ∷ rest) =
    let spots : List Spot = all_spots us earlier u in
    let flat : List Spot = flat_spots (program_of us) (map flat_unit earlier) (flat_unit u) in
    let more = each_unit (all_spots us) (earlier ++ u ∷ []) (suc number) rest in
    let flat_more = flats_broken (program_of us) (map flat_unit earlier ++ flat_unit u ∷ []) (suc number) (map flat_unit rest) in
    first_joined stands_before placed_order (map (placed number) spots) more
    ∙ ap (λ o. sooner_by stands_before o (first_by stands_before None more))
    (first_placed number None spots ∙ ap (option_map (placed number)) (spots_flat us earlier u) ∙ sym (first_placed number None flat))
    ∙ ap (sooner_by stands_before (first_by stands_before None (map (placed number) flat)))
    (each_flat us (earlier ++ u ∷ []) (suc number) rest
    ∙ ap (λ q. first_by stands_before None (flats_broken (program_of us) q (suc number) (map flat_unit rest))) (map-append flat_unit earlier (u ∷ [])))
    ∙ sym (first_joined stands_before placed_order (map (placed number) flat) flat_more)

pub broken_flat : (us : List NamedUnit) → first_by stands_before None (all_broken us) ≡ first_by stands_before None (flats_broken (program_of us) [] 0 (map flat_unit us))
broken_flat us = first_broken_by_all us ∙ each_flat us [] 0 us

pub has_main_flat : (us : List NamedUnit) → has_main us ≡ some_starts (map flat_unit us)
has_main_flat [] = refl
has_main_flat (u ∷ us) = ap (λ b. flat_starts (flat_unit u) || b) (has_main_flat us)
