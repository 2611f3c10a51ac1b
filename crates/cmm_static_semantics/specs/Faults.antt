-- Which units are accepted, and which fault is named of others: the first by unit, place and rule; that no unit exports `main`, and the limits
-- on sums over all units, come last and stand at the beginning of the first unit.
use Rattle.std.specs.Prelude.{◌≡◌, ℕ, suc, ◌==◌, ◌&&◌, ◌||◌, nat_lt, Bool, true, false, List, [], ◌∷◌, ◌++◌, map, flat_map, slice_index_or, Option, Some, None}
use Rattle.std.specs.List.{Contains}
use Rattle.cmm_words.specs.declared.width.Width.{Width}
use Rattle.cmm_ast.specs.declared.unit.Unit.{Unit as UnitTree}
use Rattle.cmm_ast.specs.declared.unit.Place.{Place}
use Rattle.cmm_ast.specs.declared.unit.Item.{Item}
use Rattle.cmm_ast.specs.declared.unit.Item.TheVariants as items
use Rattle.cmm_rules.specs.declared.rule.Rule.{Rule}
use Rattle.cmm_rules.specs.declared.rule.Rule.TheVariants.{NoMain, Limit}
use Rattle.cmm_static_semantics.specs.declared.spot.Spot.{Spot}
use Rattle.cmm_static_semantics.specs.declared.fault.Fault.{Fault}
use Rattle.cmm_static_semantics.specs.Spots.{comes_before, first_by}
use Rattle.cmm_static_semantics.specs.Senses.{Senses}
use Rattle.cmm_static_semantics.specs.Declarations.{Declared, NamedUnit, named_units, again, host_again}
use Rattle.cmm_static_semantics.specs.Linking.{Program, program_of, exports_of, export_links, export_spots, twice, import_spots, registers_of, has_main}
use Rattle.cmm_static_semantics.specs.Scopes.{unit_senses, width_in}
use Rattle.cmm_static_semantics.specs.Statements.{proc_spots}
use Rattle.cmm_static_semantics.specs.Units.{target_decl_spots, entry_spots, register_spots, item_spots}
use Rattle.cmm_static_semantics.specs.LongNames.{names_in, long_spots}
use Rattle.cmm_static_semantics.specs.Limits.{proc_limits, sums_are_within}

-- ---- a spot of one of several units

pub record Placed : Type 0 where
  pub unit : ℕ
  pub spot : Spot

abbrev pub stands_before : Placed → Placed → Bool
stands_before a b = nat_lt a.unit b.unit || ((a.unit == b.unit) && comes_before a.spot b.spot)

-- the spots of each unit, from the units before it
abbrev pub each_unit : (List NamedUnit → NamedUnit → List Spot) → List NamedUnit → ℕ → List NamedUnit → List Placed
each_unit spots earlier number [] = []
each_unit spots earlier number (u ∷ us) =
    map (λ s. record { unit = number; spot = s }) (spots earlier u) ++ each_unit spots (earlier ++ u ∷ []) (suc number) us

-- ---- the rules by what they are tested on

-- names, exports, imports and the target: 20 of units, 21 of exports, 34, 35, 37, 40 of names
abbrev pub name_spots : List NamedUnit → List NamedUnit → NamedUnit → List Spot
name_spots us earlier u =
    again [] u.entries ++ flat_map host_again u.entries
    ++ flat_map (export_spots u.entries) (exports_of u) ++ twice (flat_map export_links earlier) (exports_of u)
    ++ flat_map (import_spots (flat_map export_links us)) u.entries
    ++ flat_map (λ i. target_decl_spots i.what) u.items ++ flat_map long_spots (names_in u.items)

-- the registers of units, with their widths
abbrev pub register_widths : NamedUnit → List (Declared (Option Width))
register_widths u = map (λ d. record { name = d.name; as_what = width_in u.entries d.as_what }) (registers_of u)

-- typedefs, constants, registers and data
abbrev pub declaration_spots : Program → List NamedUnit → NamedUnit → List Spot
declaration_spots program earlier u = let names = unit_senses program u.entries in
    flat_map (entry_spots names u.entries) u.entries
    ++ flat_map (register_spots (flat_map register_widths earlier) u.entries) (registers_of u)
    ++ flat_map (λ i. item_spots names i.what) u.items

abbrev pub item_procedure_spots : Senses → Item → List Spot
item_procedure_spots names (items.Proc p) = proc_spots names p ++ proc_limits names p
item_procedure_spots names _ = []

-- procedures
abbrev pub procedure_spots : Program → List NamedUnit → NamedUnit → List Spot
procedure_spots program earlier u = flat_map (λ i. item_procedure_spots (unit_senses program u.entries) i.what) u.items

-- ---- all units

abbrev pub broken_names : List NamedUnit → List Placed
broken_names us = each_unit (name_spots us) [] 0 us

abbrev pub broken_declarations : List NamedUnit → List Placed
broken_declarations us = each_unit (declaration_spots (program_of us)) [] 0 us

abbrev pub broken_procedures : List NamedUnit → List Placed
broken_procedures us = each_unit (procedure_spots (program_of us)) [] 0 us

abbrev pub all_broken : List NamedUnit → List Placed
all_broken us = broken_names us ++ broken_declarations us ++ broken_procedures us

-- a rule is broken at a token of a unit
abbrev pub IsBroken : List UnitTree → ℕ → Spot → Type 0
IsBroken us unit spot = Contains (all_broken (named_units us)) (record { unit = unit; spot = spot })

-- ---- the fault that is named

-- where a token stands; each token of a unit has a place
abbrev pub place_of : UnitTree → ℕ → Place
place_of u token = slice_index_or u.places token record { line = 0; column = 0 }

abbrev pub fault_at : List UnitTree → Placed → Fault
fault_at us p = let place = place_of (slice_index_or us p.unit record { parts = []; places = [] }) p.spot.token in
    record { rule = p.spot.rule; unit = p.unit; line = place.line; column = place.column }

abbrev pub at_beginning : Rule → Option Fault
at_beginning rule = Some record { rule = rule; unit = 0; line = 1; column = 1 }

-- 36, and the sums
abbrev pub fault_of_all : List NamedUnit → Option Fault
fault_of_all us = elim (has_main us) [
  | true ↦ elim (sums_are_within (program_of us) us) [ true ↦ None | false ↦ at_beginning Limit ]
  | false ↦ at_beginning NoMain
]

abbrev pub first_fault : List UnitTree → Option Fault
first_fault us = let ns = named_units us in elim (first_by stands_before None (all_broken ns)) [
  | Some p ↦ Some (fault_at us p)
  | None ↦ fault_of_all ns
]

-- units that break no rule
abbrev pub AreAccepted : List UnitTree → Type 0
AreAccepted us = first_fault us ≡ None
