-- The procedures of accepted units fit a program.
use Rattle.std.proofs.Common.{◌≡◌, ℕ, suc, List, [], ◌∷◌, ◌++◌}
use Rattle.std.specs.Prelude.{flat_map}
use Rattle.std.specs.List.{All}
use Rattle.std.proofs.lemmas.List.Elements.{All-nil, All-cons, All-head}
use Rattle.cmm_ast.specs.declared.unit.Item.{Item}
use Rattle.cmm_ast.specs.declared.unit.Item.TheVariants as items
use Rattle.cmm_ast.specs.declared.unit.Unit.{Unit as UnitTree}
use Rattle.cmm_program.specs.declared.program.Program.{Program}
use Rattle.cmm_program.specs.InRange.{IsProcInRange}
use Rattle.cmm_static_semantics.specs.Declarations.{NamedUnit, named_units}
use Rattle.cmm_static_semantics.specs.Faults.{AreAccepted, each_unit, item_procedure_spots, procedure_spots}
use Rattle.cmm_static_semantics.specs.Items.{SpanTree, Within}
use Rattle.cmm_static_semantics.specs.Linking.{Program as Linked, program_of}
use Rattle.cmm_static_semantics.specs.Scopes.{unit_senses}
use Rattle.cmm_static_semantics.specs.Senses.{Senses}
use Rattle.cmm_elaboration.specs.Laws.{AreRead, TextsAreBytes}
use Rattle.cmm_elaboration.specs.Meaning.{item_procedures, meaning_of, procedures_from, unit_procedures}
use Rattle.cmm_elaboration.specs.Procedures.{procedure_of}
use Rattle.cmm_elaboration.proofs.Shared.{first_unit, no_left, no_right, other_units, procedures_kept, programs_are_in_range, unbroken}
use Rattle.cmm_typing.proofs.Shared.{all_left, all_right}
use Rattle.cmm_lower.specs.Fitting.{ItemFits}
use Rattle.cmm_lower.specs.Laws.{UnitsFit}
use Rattle.cmm_lower.proofs.Kept.{procedure_fits}

module _ (p : Program) (names : Senses) (number : ℕ) where
  item_fits : (around : List SpanTree) (i : Item) → item_procedure_spots names i ≡ [] → All (IsProcInRange p) (item_procedures names number (record { spans = around; what = i })) → ItemFits names i
  item_fits around (items.Proc q) none range = procedure_fits p names number around q none (All-head (IsProcInRange p) (procedure_of names number around q) [] range)
  item_fits around (items.Decl d) none range = tt
  item_fits around (items.Datum d) none range = tt
  item_fits around (items.Span' first key value size inside) none range = tt

  abbrev Fits : Within Item → Type 0
  Fits i = ItemFits names i.what

  items_fit : (is : List (Within Item)) → flat_map (λ (i : Within Item). item_procedure_spots names i.what) is ≡ [] → All (IsProcInRange p) (flat_map (item_procedures names number) is) →
      All Fits is
  items_fit [] none range = All-nil Fits
  items_fit (i ∷ is) none range =
      All-cons Fits i is
      (item_fits i.spans i.what (no_left (item_procedure_spots names i.what) _ none) (all_left (IsProcInRange p) (item_procedures names number i) (flat_map (item_procedures names number) is) range))
      (items_fit is (no_right (item_procedure_spots names i.what) _ none) (all_right (IsProcInRange p) (item_procedures names number i) (flat_map (item_procedures names number) is) range))

abbrev UnitFits : Linked → NamedUnit → Type 0
UnitFits program u = All (λ i. ItemFits (unit_senses program u.entries) i.what) u.items

named_fit : (p : Program) (program : Linked) (earlier : List NamedUnit) (number : ℕ) (us : List NamedUnit) → each_unit (procedure_spots program) earlier number us ≡ [] →
    All (IsProcInRange p) (procedures_from program number us) → All (UnitFits program) us
named_fit p program earlier number [] none range = All-nil (UnitFits program)
named_fit p program earlier number (u ∷ us) none range =
    All-cons (UnitFits program) u us
    (items_fit p (unit_senses program u.entries) number u.items (first_unit (procedure_spots program) earlier number u us none)
    (all_left (IsProcInRange p) (unit_procedures program number u) (procedures_from program (suc number) us) range))
    (named_fit p program (earlier ++ u ∷ []) (suc number) us (other_units (procedure_spots program) earlier number u us none)
    (all_right (IsProcInRange p) (unit_procedures program number u) (procedures_from program (suc number) us) range))

pub units_fit : UnitsFit
units_fit us accepted read texts =
    named_fit (meaning_of us) (program_of (named_units us)) [] 0 (named_units us) (procedures_kept (named_units us) (unbroken us accepted).nowhere)
    (programs_are_in_range us accepted read texts).procedures
