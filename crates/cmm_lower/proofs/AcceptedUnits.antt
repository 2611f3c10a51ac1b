-- Accepted units fit their program one after another.
use Rattle.std.proofs.Common.{◌≡◌, ℕ, ◌+◌, ◌<◌, ◌^◌, length, length-append, refl, ap, ◌∙◌, subst, arith, List, [], ◌∷◌, ◌++◌}
use Rattle.std.specs.Prelude.{flat_map}
use Rattle.std.specs.List.{All}
use Rattle.std.proofs.lemmas.List.Elements.{All-nil, All-cons, All-head}
use Rattle.std.proofs.lemmas.Grind.{flat_map-append}
use Rattle.cmm_ast.specs.declared.unit.Unit.{Unit as UnitTree}
use Rattle.cmm_static_semantics.specs.Declarations.{NamedUnit, labels_in, named_units, procs_in, sum_of, units_from}
use Rattle.cmm_static_semantics.specs.Items.{items_of}
use Rattle.cmm_static_semantics.specs.Faults.{AreAccepted}
use Rattle.cmm_static_semantics.specs.Linking.{program_of}
use Rattle.cmm_static_semantics.specs.Scopes.{unit_senses}
use Rattle.cmm_elaboration.specs.Data.{datums_among}
use Rattle.cmm_elaboration.specs.Meaning.{meaning_of, unit_datums}
use Rattle.cmm_elaboration.proofs.Shared.{items_length, programs_are_in_range}
use Rattle.cmm_typing.proofs.Shared.{all_left, all_right}
use Rattle.cmm_lower_parts.proofs.Shared.{programs_fit}
use Rattle.cmm_lower.specs.Fitting.{ItemFits}
use Rattle.cmm_lower.proofs.AcceptedProcedures.{units_fit}
use Rattle.cmm_elaboration.specs.Laws.{AreRead, TextsAreBytes}
use Rattle.cmm_lower.specs.inside.Made.{AllFit}
use Rattle.cmm_lower.proofs.Growing.{IsShort}

-- each unit has what stands in its tree
items_are : (procs labels : ℕ) (us : List UnitTree) → All (λ u. u.items ≡ items_of u.tree) (units_from procs labels us)
items_are procs labels [] = All-nil (λ (u : NamedUnit). u.items ≡ items_of u.tree)
items_are procs labels (t ∷ ts) =
    let is = items_of t in
    All-cons (λ (u : NamedUnit). u.items ≡ items_of u.tree) _ (units_from (procs + sum_of procs_in is) (labels + sum_of labels_in is) ts) refl
    (items_are (procs + sum_of procs_in is) (labels + sum_of labels_in is) ts)

at_unit : (P : NamedUnit → Type 0) (all before behind : List NamedUnit) (u : NamedUnit) → all ≡ before ++ u ∷ behind → All P all → P u
at_unit P all before behind u split holds = All-head P u behind (all_right P before (u ∷ behind) (subst (All P) split holds))

-- where units derive as many tokens as they have places for, and their texts are of bytes
pub all_fit : (us : List UnitTree) → AreAccepted us → AreRead us → TextsAreBytes us → AllFit (program_of (named_units us)) (named_units us)
all_fit us accepted read texts before behind u split =
    let named = named_units us in let program = program_of named in let names = unit_senses program u.entries in
    let range = programs_are_in_range us accepted read texts in
    let items : u.items ≡ items_of u.tree = at_unit (λ v. v.items ≡ items_of v.tree) named before behind u split (items_are 0 0 us) in
    let fit : All (λ i. ItemFits names i.what) u.items =
    at_unit (λ v. All (λ i. ItemFits (unit_senses program v.entries) i.what) v.items) named before behind u split (units_fit us accepted read texts) in
    let data_ : flat_map (unit_datums program) named ≡ flat_map (unit_datums program) before ++ (unit_datums program u ++ flat_map (unit_datums program) behind) =
    ap (flat_map (unit_datums program)) split ∙ flat_map-append (unit_datums program) before (u ∷ behind) in
    let small = subst (All IsShort) data_ (programs_fit (meaning_of us) range).datums in
    let counted : length (flat_map (unit_datums program) named) ≡ length (flat_map (unit_datums program) before) + length (unit_datums program u ++ flat_map (unit_datums program) behind) =
    ap length data_ ∙ length-append (flat_map (unit_datums program) before) (unit_datums program u ++ flat_map (unit_datums program) behind) in
    let one : length (unit_datums program u ++ flat_map (unit_datums program) behind) ≡ length (unit_datums program u) + length (flat_map (unit_datums program) behind) =
    length-append (unit_datums program u) (flat_map (unit_datums program) behind) in
    let own : length (unit_datums program u) ≡ datums_among u.items = items_length names u.items in
    let few : length (flat_map (unit_datums program) named) < 2 ^ 32 = range.datum_count in record {
      items = items;
      procedures = fit;
      lengths = all_left IsShort (unit_datums program u) (flat_map (unit_datums program) behind)
          (all_right IsShort (flat_map (unit_datums program) before) (unit_datums program u ++ flat_map (unit_datums program) behind) small);
      datums = omega arith;
    }
