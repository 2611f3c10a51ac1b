-- The first fault of a unit from its parts, and the fault that is named of units.
use Rattle.std.proofs.Common.{◌≡◌, ℕ, map, refl, ap, sym, ◌∙◌, subst, List, [], ◌++◌, Option, Some, None, append_assoc}
use Rattle.std.specs.Prelude.{flat_map}
use Rattle.cmm_words.specs.declared.width.Width.{Width}
use Rattle.cmm_ast.specs.declared.expression.TypeName.{TypeName}
use Rattle.cmm_ast.specs.declared.unit.Unit.{Unit as UnitTree}
use Rattle.cmm_static_semantics.specs.declared.spot.Spot.{Spot}
use Rattle.cmm_static_semantics.specs.declared.fault.Fault.{Fault}
use Rattle.cmm_static_semantics.specs.Spots.{first_of, first_by}
use Rattle.cmm_static_semantics.specs.Senses.{Senses}
use Rattle.cmm_static_semantics.specs.Declarations.{named_units, again, host_again}
use Rattle.cmm_static_semantics.specs.Linking.{Program, program_of, export_spots, twice, import_spots}
use Rattle.cmm_static_semantics.specs.Units.{target_decl_spots, item_spots}
use Rattle.cmm_static_semantics.specs.Scopes.{width_in, unit_senses}
use Rattle.cmm_static_semantics.specs.LongNames.{long_spots, of_item}
use Rattle.cmm_static_semantics.specs.Faults.{Placed, stands_before, all_broken, item_procedure_spots, fault_at, fault_of_all, first_fault}
use Rattle.cmm_check_declarations.specs.EntryFaults.{entry_value_spots}
use Rattle.cmm_check_units.specs.inside.Flat.{Flat, flat_unit, links_before, widths_before, register_spots_by, flat_register_spots, flat_cycle_spots, flat_procedure_spots, flat_value_spots, flat_name_spots, spots_by, flat_spots, flats_broken}
use Rattle.cmm_linkage.specs.Exports.{exported_links}
use Rattle.cmm_linkage.specs.Registers.{registers_in}
use Rattle.cmm_symbols.specs.Noted.{long_of}
use Rattle.cmm_static_semantics.proofs.Shared.{first_of_append}
use Rattle.cmm_symbols.proofs.Shared.{long_is}
use Rattle.cmm_check_units.specs.inside.Cyclic.{AreNoted}
use Rattle.cmm_check_units.proofs.Cyclic.{are_noted}
use Rattle.cmm_check_units.proofs.FlatUnits.{broken_flat}

after : (b c : Option Spot) (xs ys : List Spot) → b ≡ first_of None xs → c ≡ first_of b ys → c ≡ first_of None (xs ++ ys)
after b c xs ys is then_ = then_ ∙ ap (λ q. first_of q ys) is ∙ sym (first_of_append None xs ys)

-- what is noted of the names of a unit, rule by rule
pub noted_names : (all before : List (List ℕ)) (f : Flat) (b1 b2 b3 b4 b5 b6 b7 : Option Spot) →
    b1 ≡ first_of None (again [] f.entries) → b2 ≡ first_of b1 (flat_map host_again f.entries) → b3 ≡ first_of b2 (flat_map (export_spots f.entries) f.exports) →
    b4 ≡ first_of b3 (twice before f.exports) → b5 ≡ first_of b4 (flat_map (import_spots all) f.entries) → b6 ≡ first_of b5 (flat_map target_decl_spots f.items) →
    b7 ≡ long_of b6 (flat_map of_item f.items) → b7 ≡ first_of None (flat_name_spots all before f)
noted_names all before f b1 b2 b3 b4 b5 b6 b7 e1 e2 e3 e4 e5 e6 e7 =
    let s1 = again [] f.entries in
    let s2 = flat_map host_again f.entries in
    let s3 = flat_map (export_spots f.entries) f.exports in
    let s4 = twice before f.exports in
    let s5 = flat_map (import_spots all) f.entries in
    let s6 = flat_map target_decl_spots f.items in
    let s7 = flat_map long_spots (flat_map of_item f.items) in
    after b6 b7 (s1 ++ s2 ++ s3 ++ s4 ++ s5 ++ s6) s7
    (after b5 b6 (s1 ++ s2 ++ s3 ++ s4 ++ s5) s6
    (after b4 b5 (s1 ++ s2 ++ s3 ++ s4) s5
    (after b3 b4 (s1 ++ s2 ++ s3) s4 (after b2 b3 (s1 ++ s2) s3 (after b1 b2 s1 s2 e1 e2) e3) e4)
    e5)
    e6)
    (e7 ∙ long_is b6 (flat_map of_item f.items))

noted_values : (names : Senses) (all : List (List ℕ)) (before : List Flat) (f : Flat) (b7 b8 b9 b10 : Option Spot) → b7 ≡ first_of None (flat_name_spots all (links_before before) f) →
    b8 ≡ first_of b7 (flat_map (λ d. entry_value_spots names d.as_what) f.entries) → b9 ≡ first_of b8 (flat_map (item_spots names) f.items) →
    b10 ≡ first_of b9 (flat_register_spots (widths_before before) f) →
    b10 ≡ first_of None (flat_name_spots all (links_before before) f ++ flat_value_spots names f ++ flat_register_spots (widths_before before) f)
noted_values names all before f b7 b8 b9 b10 e7 e8 e9 e10 =
    let s8 = flat_map (λ d. entry_value_spots names d.as_what) f.entries in
    let s9 = flat_map (item_spots names) f.items in
    let s10 = flat_register_spots (widths_before before) f in
    after b9 b10 (flat_name_spots all (links_before before) f ++ (s8 ++ s9)) s10
    (e9 ∙ ap (λ q. first_of q s9) e8 ∙ sym (first_of_append b7 s8 s9) ∙ ap (λ q. first_of q (s8 ++ s9)) e7
    ∙ sym (first_of_append None (flat_name_spots all (links_before before) f) (s8 ++ s9)))
    e10

-- what follows a beginning, with more after it
next_after : (first rest more whole : List Spot) → whole ≡ first ++ rest → whole ++ more ≡ first ++ (rest ++ more)
next_after first rest more whole is = ap (λ t. t ++ more) is ∙ append_assoc first rest more

-- before cycles are noted, names that are declared again are
noted_cycles : (names : Senses) (all : List (List ℕ)) (before : List Flat) (f : Flat) (b10 b11 : Option Spot) →
    b10 ≡ first_of None (flat_name_spots all (links_before before) f ++ flat_value_spots names f ++ flat_register_spots (widths_before before) f) →
    (AreNoted b10 f.entries → b11 ≡ first_of b10 (flat_cycle_spots f)) →
    b11 ≡ first_of None (flat_name_spots all (links_before before) f ++ flat_value_spots names f ++ flat_register_spots (widths_before before) f ++ flat_cycle_spots f)
noted_cycles names all before f b10 b11 e10 e11 =
    let s12 = again [] f.entries ++ flat_map host_again f.entries in
    let s3 = flat_map (export_spots f.entries) f.exports in
    let s4 = twice (links_before before) f.exports in
    let s5 = flat_map (import_spots all) f.entries in
    let s6 = flat_map target_decl_spots f.items in
    let s7 = flat_map long_spots (flat_map of_item f.items) in
    let s8 = flat_value_spots names f in
    let s9 = flat_register_spots (widths_before before) f in
    let twice_first : s12 ++ s3 ++ s4 ++ s5 ++ s6 ++ s7 ++ s8 ++ s9 ≡ s12 ++ (s3 ++ s4 ++ s5 ++ s6 ++ s7 ++ s8 ++ s9) =
    next_after s12 (s3 ++ s4 ++ s5 ++ s6 ++ s7 ++ s8) s9 (s12 ++ s3 ++ s4 ++ s5 ++ s6 ++ s7 ++ s8)
    (next_after s12 (s3 ++ s4 ++ s5 ++ s6 ++ s7) s8 (s12 ++ s3 ++ s4 ++ s5 ++ s6 ++ s7)
    (next_after s12 (s3 ++ s4 ++ s5 ++ s6) s7 (s12 ++ s3 ++ s4 ++ s5 ++ s6)
    (next_after s12 (s3 ++ s4 ++ s5) s6 (s12 ++ s3 ++ s4 ++ s5)
    (next_after s12 (s3 ++ s4) s5 (s12 ++ s3 ++ s4)
    (next_after s12 s3 s4 (s12 ++ s3) refl))))) in
    after b10 b11 (flat_name_spots all (links_before before) f ++ s8 ++ s9) (flat_cycle_spots f) e10
    (e11 (subst (λ (b : Option Spot). AreNoted b f.entries) (sym (e10 ∙ ap (first_of None) twice_first)) (are_noted f.entries (s3 ++ s4 ++ s5 ++ s6 ++ s7 ++ s8 ++ s9))))

-- what is noted of a unit, rule by rule
pub noted_unit : (program : Program) (before : List Flat) (f : Flat) (b7 b8 b9 b10 b11 b12 : Option Spot) (names : Senses) (width : TypeName → Option Width) →
    names ≡ unit_senses program f.entries → width ≡ width_in f.entries → b7 ≡ first_of None (flat_name_spots (exported_links program) (links_before before) f) →
    b8 ≡ first_of b7 (flat_map (λ d. entry_value_spots names d.as_what) f.entries) → b9 ≡ first_of b8 (flat_map (item_spots names) f.items) →
    b10 ≡ first_of b9 (flat_map (register_spots_by (widths_before before) width) (registers_in f.entries)) → (AreNoted b10 f.entries → b11 ≡ first_of b10 (flat_cycle_spots f)) →
    b12 ≡ first_of b11 (flat_map (item_procedure_spots names) f.items) → b12 ≡ first_of None (flat_spots program before f)
noted_unit program before f b7 b8 b9 b10 b11 b12 names width are same e7 e8 e9 e10 e11 e12 =
    let all = exported_links program in
    let first = flat_name_spots all (links_before before) f ++ flat_value_spots names f ++ flat_register_spots (widths_before before) f ++ flat_cycle_spots f in
    after b11 b12 first (flat_procedure_spots names f) (
    noted_cycles names all before f b10 b11
    (noted_values names all before f b7 b8 b9 b10 e7 e8 e9 (e10 ∙ ap (λ q. first_of b9 (flat_map (register_spots_by (widths_before before) q) (registers_in f.entries))) same))
    e11
    ) e12
    ∙ ap (λ n. first_of None (spots_by n all before f)) are

-- what is first among units laid flat is so among the units
pub first_found : (us : List UnitTree) (fs : List Flat) (program : Program) (first : Option Placed) → fs ≡ map flat_unit (named_units us) → program ≡ program_of (named_units us) →
    first ≡ first_by stands_before None (flats_broken program [] 0 fs) → first_by stands_before None (all_broken (named_units us)) ≡ first
first_found us fs program first are knows is =
    broken_flat (named_units us)
    ∙ sym (is ∙ ap (λ q. first_by stands_before None (flats_broken program [] 0 q)) are
    ∙ ap (λ q. first_by stands_before None (flats_broken q [] 0 (map flat_unit (named_units us)))) knows)

pub named_fault : (us : List UnitTree) (p : Placed) → first_by stands_before None (all_broken (named_units us)) ≡ Some p → first_fault us ≡ Some (fault_at us p)
named_fault us p is = ap (λ o. elim o as (λ _. Option Fault) [ Some q ↦ Some (fault_at us q) | None ↦ fault_of_all (named_units us) ]) is

pub named_together : (us : List UnitTree) → first_by stands_before None (all_broken (named_units us)) ≡ None → first_fault us ≡ fault_of_all (named_units us)
named_together us is = ap (λ o. elim o as (λ _. Option Fault) [ Some q ↦ Some (fault_at us q) | None ↦ fault_of_all (named_units us) ]) is
