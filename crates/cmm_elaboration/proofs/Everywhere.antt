-- What holds of the procedure that each tree means holds of all procedures of a program.
use Rattle.std.proofs.Common.{◌≡◌, ℕ, suc, ◌+◌, List, [], ◌∷◌, ◌++◌, All, refl, sym, ap, Bool, true, ◌∙◌, append_assoc, length, length-append, arith}
use Rattle.std.specs.Prelude.{flat_map, ◌&&◌}
use Rattle.std.specs.List.{list_all}
use Rattle.std.proofs.lemmas.Bool.{and_parts}
use Rattle.std.proofs.lemmas.List.Elements.{All-nil, All-cons, All-append}
use Rattle.cmm_ast.specs.declared.procedure.Proc.{Proc as ProcTree}
use Rattle.cmm_ast.specs.declared.unit.Item.{Item}
use Rattle.cmm_ast.specs.declared.unit.Item.TheVariants as items
use Rattle.cmm_program.specs.declared.procedure.Proc.{Proc}
use Rattle.cmm_static_semantics.specs.Senses.{Senses}
use Rattle.cmm_static_semantics.specs.Items.{SpanTree, Within}
use Rattle.cmm_ast.specs.declared.unit.Unit.{Unit as UnitTree}
use Rattle.cmm_static_semantics.specs.Declarations.{NamedUnit, named_units}
use Rattle.cmm_static_semantics.specs.Faults.{AreAccepted, each_unit, item_procedure_spots, procedure_spots}
use Rattle.cmm_static_semantics.specs.Linking.{Program as Linked, program_of}
use Rattle.cmm_static_semantics.specs.Scopes.{unit_senses}
use Rattle.cmm_elaboration.specs.Procedures.{procedure_of}
use Rattle.cmm_elaboration.specs.Meaning.{item_procedures, unit_procedures, procedures_from, meaning_of}
use Rattle.cmm_elaboration.proofs.Nothing.{no_left, no_right, first_unit, other_units, unbroken, procedures_kept}

module _ (P : Proc → Type 0) (each : (names : Senses) (unit : ℕ) (around : List SpanTree) (p : ProcTree) → P (procedure_of names unit around p)) where
  item_all : (names : Senses) (unit : ℕ) (around : List SpanTree) (i : Item) → All P (item_procedures names unit (record { spans = around; what = i }))
  item_all names unit around (items.Proc p) = All-cons P (procedure_of names unit around p) [] (each names unit around p) (All-nil P)
  item_all names unit around (items.Decl d) = All-nil P
  item_all names unit around (items.Datum d) = All-nil P
  item_all names unit around (items.Span' first key value size inside) = All-nil P

  unit_all : (names : Senses) (unit : ℕ) (is : List (Within Item)) → All P (flat_map (item_procedures names unit) is)
  unit_all names unit [] = All-nil P
  unit_all names unit (i ∷ is) =
      All-append P (item_procedures names unit i) (flat_map (item_procedures names unit) is) (item_all names unit i.spans i.what) (unit_all names unit is)

  pub all_units : (program : Linked) (unit : ℕ) (us : List NamedUnit) → All P (procedures_from program unit us)
  all_units program unit [] = All-nil P
  all_units program unit (u ∷ us) =
      All-append P _ (procedures_from program (suc unit) us) (unit_all (unit_senses program u.entries) unit u.items) (all_units program (suc unit) us)

-- ---- units that break no rule

-- a procedure of some units: those before its own, its own, and those behind it
pub record Place (us : List NamedUnit) (earlier : List NamedUnit) (u : NamedUnit) (number : ℕ) : Type 0 where
  pub later : List NamedUnit
  pub units : us ≡ earlier ++ u ∷ later
  pub number_is : number ≡ length earlier

-- where something else holds of each item too
module _ (has : Item → Bool) (P : Proc → Type 0) (program : Linked) (all : List NamedUnit)
    (each : (earlier : List NamedUnit) (u : NamedUnit) (number : ℕ) → Place all earlier u number → (around : List SpanTree) (p : ProcTree) →
    item_procedure_spots (unit_senses program u.entries) (items.Proc p) ≡ [] → has (items.Proc p) ≡ true → P (procedure_of (unit_senses program u.entries) number around p)) where
  item_kept : (earlier : List NamedUnit) (u : NamedUnit) (number : ℕ) → Place all earlier u number → (around : List SpanTree) (i : Item) →
      item_procedure_spots (unit_senses program u.entries) i ≡ [] → has i ≡ true → All P (item_procedures (unit_senses program u.entries) number (record { spans = around; what = i }))
  item_kept earlier u number place around (items.Proc p) none own =
      All-cons P (procedure_of (unit_senses program u.entries) number around p) [] (each earlier u number place around p none own) (All-nil P)
  item_kept earlier u number place around (items.Decl d) none own = All-nil P
  item_kept earlier u number place around (items.Datum d) none own = All-nil P
  item_kept earlier u number place around (items.Span' first key value size inside) none own = All-nil P

  unit_kept : (earlier : List NamedUnit) (u : NamedUnit) (number : ℕ) → Place all earlier u number → (is : List (Within Item)) →
      flat_map (λ i. item_procedure_spots (unit_senses program u.entries) i.what) is ≡ [] → list_all (λ i. has i.what) is ≡ true →
      All P (flat_map (item_procedures (unit_senses program u.entries) number) is)
  unit_kept earlier u number place [] none own = All-nil P
  unit_kept earlier u number place (i ∷ is) none own = let names = unit_senses program u.entries in
      let here = item_procedure_spots names i.what in let rest = flat_map (λ j. item_procedure_spots names j.what) is in
      let both = and_parts (has i.what) (list_all (λ j. has j.what) is) own in
      All-append P (item_procedures names number i) (flat_map (item_procedures names number) is)
      (item_kept earlier u number place i.spans i.what (no_left here rest none) both.0) (unit_kept earlier u number place is (no_right here rest none) both.1)

  units_kept : (earlier : List NamedUnit) (number : ℕ) (us : List NamedUnit) → all ≡ earlier ++ us → number ≡ length earlier →
      each_unit (procedure_spots program) earlier number us ≡ [] → list_all (λ u. list_all (λ i. has i.what) u.items) us ≡ true → All P (procedures_from program number us)
  units_kept earlier number [] is counted none own = All-nil P
  units_kept earlier number (u ∷ us) is counted none own =
      let both = and_parts (list_all (λ i. has i.what) u.items) (list_all (λ v. list_all (λ i. has i.what) v.items) us) own in
      All-append P (unit_procedures program number u) (procedures_from program (suc number) us)
      (unit_kept earlier u number (record { later = us; units = is; number_is = counted }) u.items (first_unit (procedure_spots program) earlier number u us none) both.0)
      (units_kept (earlier ++ u ∷ []) (suc number) us (is ∙ sym (append_assoc earlier (u ∷ []) us))
      (ap suc counted ∙ (let e : suc (length earlier) ≡ length earlier + 1 = omega arith in e) ∙ sym (length-append earlier (u ∷ [])))
      (other_units (procedure_spots program) earlier number u us none) both.1)

-- what holds of each of some units, by those before it and behind it
pub all_at : (P : NamedUnit → Type 0) (all earlier rest : List NamedUnit) → all ≡ earlier ++ rest →
    ((before behind : List NamedUnit) (u : NamedUnit) → all ≡ before ++ u ∷ behind → P u) → All P rest
all_at P all earlier [] is each = All-nil P
all_at P all earlier (u ∷ rest) is each =
    All-cons P u rest (each earlier rest u is) (all_at P all (earlier ++ u ∷ []) rest (is ∙ sym (append_assoc earlier (u ∷ []) rest)) each)

-- what holds of each procedure of accepted units, where something else holds of each item
pub all_read : (has : Item → Bool) (P : Proc → Type 0) (us : List UnitTree) → AreAccepted us → list_all (λ u. list_all (λ i. has i.what) u.items) (named_units us) ≡ true →
    ((earlier : List NamedUnit) (u : NamedUnit) (number : ℕ) → Place (named_units us) earlier u number → (around : List SpanTree) (p : ProcTree) →
    item_procedure_spots (unit_senses (program_of (named_units us)) u.entries) (items.Proc p) ≡ [] → has (items.Proc p) ≡ true →
    P (procedure_of (unit_senses (program_of (named_units us)) u.entries) number around p)) →
    All P (meaning_of us).procs
all_read has P us accepted own each =
    units_kept has P (program_of (named_units us)) (named_units us) each [] 0 (named_units us) refl refl
    (procedures_kept (named_units us) (unbroken us accepted).nowhere) own

always : {A : Type 0} (xs : List A) → list_all (λ x. true) xs ≡ true
always [] = refl
always (x ∷ xs) = always xs

all_always : (us : List NamedUnit) → list_all (λ u. list_all (λ i. true) u.items) us ≡ true
all_always [] = refl
all_always (u ∷ us) = ap (λ b. b && list_all (λ v. list_all (λ i. true) v.items) us) (always u.items) ∙ all_always us

-- what holds of each procedure of accepted units
pub all_accepted : (P : Proc → Type 0) (us : List UnitTree) → AreAccepted us →
    ((earlier : List NamedUnit) (u : NamedUnit) (number : ℕ) → Place (named_units us) earlier u number → (around : List SpanTree) (p : ProcTree) →
    item_procedure_spots (unit_senses (program_of (named_units us)) u.entries) (items.Proc p) ≡ [] →
    P (procedure_of (unit_senses (program_of (named_units us)) u.entries) number around p)) →
    All P (meaning_of us).procs
all_accepted P us accepted each = all_read (λ i. true) P us accepted (all_always (named_units us)) (λ earlier u number place around p none own. each earlier u number place around p none)
