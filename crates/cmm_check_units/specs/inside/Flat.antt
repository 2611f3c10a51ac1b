-- A unit as the rules see it: its tree, what it declares, what it exports, and what stands in it.
use Rattle.std.specs.Prelude.{ℕ, suc, Bool, false, ◌||◌, ◌&&◌, bytes_eq, codes, List, [], ◌∷◌, ◌++◌, map, flat_map, Option, Some, None}
use Rattle.cmm_words.specs.declared.width.Width.{Width}
use Rattle.cmm_words.specs.Widths.{bits}
use Rattle.cmm_ast.specs.declared.expression.TypeName.{TypeName}
use Rattle.cmm_ast.specs.declared.declaration.Export.{Export}
use Rattle.cmm_ast.specs.declared.unit.Item.{Item}
use Rattle.cmm_ast.specs.declared.unit.Unit.{Unit as UnitTree}
use Rattle.cmm_static_semantics.specs.declared.spot.Spot.{Spot}
use Rattle.cmm_static_semantics.specs.Items.{items_of}
use Rattle.cmm_static_semantics.specs.Declarations.{Declared, Entry, NamedUnit, found, entry_of, entries_from, again, host_again}
use Rattle.cmm_static_semantics.specs.Linking.{Program, exports_of, export_link, export_spots, twice, import_spots, is_start, starts}
use Rattle.cmm_static_semantics.specs.Senses.{Senses}
use Rattle.cmm_static_semantics.specs.Units.{target_decl_spots, width_spots, item_spots}
use Rattle.cmm_static_semantics.specs.Scopes.{width_in, unit_senses}
use Rattle.cmm_static_semantics.specs.LongNames.{long_spots, of_item}
use Rattle.cmm_static_semantics.specs.Faults.{Placed, item_procedure_spots}
use Rattle.cmm_check_declarations.specs.EntryFaults.{entry_value_spots}
use Rattle.cmm_linkage.specs.Exports.{exported_links}
use Rattle.cmm_linkage.specs.Registers.{registers_in}
use Rattle.cmm_check_units.specs.inside.Cyclic.{entry_cycle_spots}
use Rattle.cmm_symbols.specs.Shown.{whats, with_what}

pub record Flat : Type 0 where
  pub tree : UnitTree
  pub entries : List (Declared Entry)
  pub exports : List Export
  pub items : List Item

abbrev pub flat_unit : NamedUnit → Flat
flat_unit u = record { tree = u.tree; entries = u.entries; exports = exports_of u; items = whats u.items }

-- a unit before which n procedures and data labels stand
abbrev pub numbered_unit : ℕ → ℕ → UnitTree → NamedUnit
numbered_unit procs labels u = record { tree = u; items = items_of u; entries = entries_from procs labels (items_of u) }

-- the unit that is laid flat
abbrev pub flat_named : Flat → NamedUnit
flat_named f = record { tree = f.tree; items = items_of f.tree; entries = f.entries }

abbrev pub flat_links : Flat → List (List ℕ)
flat_links f = map export_link f.exports

-- the rules on names, from the link names of all units and of earlier ones
abbrev pub flat_name_spots : List (List ℕ) → List (List ℕ) → Flat → List Spot
flat_name_spots all earlier f =
    again [] f.entries ++ flat_map host_again f.entries ++ flat_map (export_spots f.entries) f.exports ++ twice earlier f.exports
    ++ flat_map (import_spots all) f.entries ++ flat_map target_decl_spots f.items ++ flat_map long_spots (flat_map of_item f.items)

-- the rules on types and values, from what names mean
abbrev pub flat_value_spots : Senses → Flat → List Spot
flat_value_spots names f = flat_map (λ d. entry_value_spots names d.as_what) f.entries ++ flat_map (item_spots names) f.items

abbrev pub flat_procedure_spots : Senses → Flat → List Spot
flat_procedure_spots names f = flat_map (item_procedure_spots names) f.items

-- ---- registers

abbrev pub widths_by : (TypeName → Option Width) → List (Declared TypeName) → List (Declared (Option Width))
widths_by width rs = map (with_what width) rs

abbrev pub flat_widths : Flat → List (Declared (Option Width))
flat_widths f = widths_by (width_in f.entries) (registers_in f.entries)

-- 23: a register has one width in all units
abbrev pub register_spots_by : List (Declared (Option Width)) → (TypeName → Option Width) → Declared TypeName → List Spot
register_spots_by earlier width d = elim (found d.name.name earlier) [
  | Some first ↦ elim first [ Some w ↦ width_spots (bits w) d.as_what.token (width d.as_what) | None ↦ [] ]
  | None ↦ []
]

abbrev pub flat_register_spots : List (Declared (Option Width)) → Flat → List Spot
flat_register_spots earlier f = flat_map (register_spots_by earlier (width_in f.entries)) (registers_in f.entries)

-- typedefs and constants that depend on themselves
abbrev pub flat_cycle_spots : Flat → List Spot
flat_cycle_spots f = flat_map (entry_cycle_spots f.entries) f.entries

-- ---- all rules, from what units know of each other and from the units before

abbrev pub links_before : List Flat → List (List ℕ)
links_before before = flat_map flat_links before

abbrev pub widths_before : List Flat → List (Declared (Option Width))
widths_before before = flat_map flat_widths before

-- the same from what names mean and from the link names of all units
abbrev pub spots_by : Senses → List (List ℕ) → List Flat → Flat → List Spot
spots_by names all before f =
    flat_name_spots all (links_before before) f ++ flat_value_spots names f ++ flat_register_spots (widths_before before) f ++ flat_cycle_spots f ++ flat_procedure_spots names f

abbrev pub flat_spots : Program → List Flat → Flat → List Spot
flat_spots program before f = spots_by (unit_senses program f.entries) (exported_links program) before f

abbrev pub placed : ℕ → Spot → Placed
placed number s = record { unit = number; spot = s }

abbrev pub flats_broken : Program → List Flat → ℕ → List Flat → List Placed
flats_broken program before number [] = []
flats_broken program before number (f ∷ fs) = map (placed number) (flat_spots program before f) ++ flats_broken program (before ++ f ∷ []) (suc number) fs

abbrev pub flat_starts : Flat → Bool
flat_starts f = starts f.entries f.exports

-- 36: some unit exports a procedure without formals as `main`
abbrev pub some_starts : List Flat → Bool
some_starts [] = false
some_starts (f ∷ fs) = flat_starts f || some_starts fs

-- something is exported as `main` and is a procedure without formals
abbrev pub is_main : List (Declared Entry) → Export → Bool
is_main ds e = bytes_eq (export_link e) (codes "main") && is_start (entry_of e.name.name ds)
