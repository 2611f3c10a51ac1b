-- What units have of a program, with one more unit.
use Rattle.std.proofs.Common.{◌≡◌, ℕ, suc, ◌+◌, ◌<◌, ◌^◌, length, refl, sym, ap, ◌∙◌, subst, arith, List, [], ◌∷◌, ◌++◌, append-nil, append_assoc}
use Rattle.std.specs.Prelude.{flat_map, map}
use Rattle.std.specs.List.{All}
use Rattle.std.proofs.lemmas.Grind.{flat_map-append}
use Rattle.cmm_ast.specs.declared.unit.Item.{Item}
use Rattle.cmm_ast.specs.declared.unit.Unit.{Unit as UnitTree}
use Rattle.cmm_program.specs.declared.procedure.Proc.{Proc}
use Rattle.cmm_program.specs.declared.program.Datum.{Datum}
use Rattle.cmm_program.specs.declared.program.Label.{Label}
use Rattle.cmm_static_semantics.specs.Declarations.{NamedUnit}
use Rattle.cmm_static_semantics.specs.Items.{Within, items_of}
use Rattle.cmm_static_semantics.specs.Linking.{Program as Linked, exports_of}
use Rattle.cmm_static_semantics.specs.Scopes.{unit_senses}
use Rattle.cmm_static_semantics.specs.Senses.{Senses}
use Rattle.cmm_symbols.specs.Shown.{whats}
use Rattle.cmm_elaboration.specs.Data.{datums_among, item_datums, unit_labels}
use Rattle.cmm_elaboration.specs.Meaning.{item_procedures, labels_from, procedures_from, unit_datums, unit_procedures}
use Rattle.cmm_elaboration.proofs.Shared.{all_datums, datums_length}
use Rattle.cmm_lower.specs.Fitting.{ItemFits}
use Rattle.cmm_checked.specs.Known.{IsKnown, names_of}
use Rattle.cmm_checked.specs.declared.unit.CheckedUnit.{CheckedUnit}
use Rattle.cmm_lower.specs.inside.Made.{AreParts, FitsBehind}

abbrev pub IsShort : Datum → Type 0
IsShort d = d.length < 2 ^ 32

-- ---- one more unit

procs_next : (program : Linked) (n : ℕ) (us : List NamedUnit) (u : NamedUnit) →
    procedures_from program n (us ++ u ∷ []) ≡ procedures_from program n us ++ unit_procedures program (n + length us) u
procs_next program n [] u = append-nil (unit_procedures program n u) ∙ ap (λ m. unit_procedures program m u) (let e : n ≡ n + 0 = omega arith in e)
procs_next program n (v ∷ us) u =
    ap (λ t. unit_procedures program n v ++ t) (procs_next program (suc n) us u)
    ∙ sym (append_assoc (unit_procedures program n v) (procedures_from program (suc n) us) (unit_procedures program (suc n + length us) u))
    ∙ ap (λ m. (unit_procedures program n v ++ procedures_from program (suc n) us) ++ unit_procedures program m u) (let e : suc n + length us ≡ n + suc (length us) = omega arith in e)

labels_next : (n : ℕ) (us : List NamedUnit) (u : NamedUnit) → labels_from n (us ++ u ∷ []) ≡ labels_from n us ++ unit_labels (exports_of u) (n + all_datums us) u.tree.parts
labels_next n [] u = append-nil (unit_labels (exports_of u) n u.tree.parts) ∙ ap (λ m. unit_labels (exports_of u) m u.tree.parts) (let e : n ≡ n + 0 = omega arith in e)
labels_next n (v ∷ us) u = let m = n + datums_among v.items in
    ap (λ t. unit_labels (exports_of v) n v.tree.parts ++ t) (labels_next m us u)
    ∙ sym (append_assoc (unit_labels (exports_of v) n v.tree.parts) (labels_from m us) (unit_labels (exports_of u) (m + all_datums us) u.tree.parts))
    ∙ ap (λ k. (unit_labels (exports_of v) n v.tree.parts ++ labels_from m us) ++ unit_labels (exports_of u) k u.tree.parts)
    (let e : m + all_datums us ≡ n + (datums_among v.items + all_datums us) = omega arith in e)

datums_next : (program : Linked) (us : List NamedUnit) (u : NamedUnit) → flat_map (unit_datums program) (us ++ u ∷ []) ≡ flat_map (unit_datums program) us ++ unit_datums program u
datums_next program us u =
    flat_map-append (unit_datums program) us (u ∷ []) ∙ ap (λ t. flat_map (unit_datums program) us ++ t) (append-nil (unit_datums program u))

-- what stands in a unit, the spans around it left out
datums_flat : (names : Senses) (is : List (Within Item)) → flat_map (item_datums names) (whats is) ≡ flat_map (λ i. item_datums names i.what) is
datums_flat names [] = refl
datums_flat names (i ∷ is) = ap (λ t. item_datums names i.what ++ t) (datums_flat names is)

-- ---- all of a unit

module _ (program : Linked) (before : List NamedUnit) (u : NamedUnit) (number : ℕ) (c : CheckedUnit) (fits : FitsBehind program before u) (known : IsKnown program u c)
    (number_is : number ≡ length before) where
  items_are : u.items ≡ items_of c.flat
  items_are = fits.items ∙ ap items_of (sym known.tree)

  fitting : All (λ i. ItemFits (names_of c) i.what) (items_of c.flat)
  fitting =
      subst (All (λ i. ItemFits (names_of c) i.what)) items_are
      (subst (λ (names : Senses). All (λ i. ItemFits names i.what) u.items) (sym known.senses) fits.procedures)

  procs_are : (old new : List Proc) → old ≡ procedures_from program 0 before →
      (All (λ i. ItemFits (names_of c) i.what) (items_of c.flat) → new ≡ old ++ flat_map (item_procedures (names_of c) number) (items_of c.flat)) →
      new ≡ procedures_from program 0 (before ++ u ∷ [])
  procs_are old new was added =
      added fitting ∙ ap (λ t. t ++ flat_map (item_procedures (names_of c) number) (items_of c.flat)) was
      ∙ ap (λ f. procedures_from program 0 before ++ flat_map (item_procedures f number) (items_of c.flat)) known.senses
      ∙ ap (λ is. procedures_from program 0 before ++ flat_map (item_procedures (unit_senses program u.entries) number) is) (sym items_are)
      ∙ ap (λ n. procedures_from program 0 before ++ unit_procedures program n u) (number_is ∙ (let e : length before ≡ 0 + length before = omega arith in e))
      ∙ sym (procs_next program 0 before u)

  data_of : flat_map (item_datums (names_of c)) (whats (items_of c.flat)) ≡ unit_datums program u
  data_of =
      ap (λ is. flat_map (item_datums (names_of c)) (whats is)) (sym items_are) ∙ datums_flat (names_of c) u.items
      ∙ ap (λ f. flat_map (λ i. item_datums f i.what) u.items) known.senses

  datums_are : (old new : List Datum) → old ≡ flat_map (unit_datums program) before →
      (All IsShort (flat_map (item_datums (names_of c)) (whats (items_of c.flat))) → new ≡ old ++ flat_map (item_datums (names_of c)) (whats (items_of c.flat))) →
      new ≡ flat_map (unit_datums program) (before ++ u ∷ [])
  datums_are old new was added =
      added (subst (All IsShort) (sym data_of) fits.lengths) ∙ ap (λ t. t ++ flat_map (item_datums (names_of c)) (whats (items_of c.flat))) was
      ∙ ap (λ t. flat_map (unit_datums program) before ++ t) data_of ∙ sym (datums_next program before u)

  labels_are : (old new : List Label) (datums : List Datum) (first : ℕ) → datums ≡ flat_map (unit_datums program) before → (length datums < 2 ^ 32 → first ≡ length datums) →
      old ≡ labels_from 0 before →
      (first + datums_among (items_of c.flat) < 2 ^ 32 → new ≡ old ++ unit_labels (map (λ e. e.now) c.exports) first c.flat.parts) → new ≡ labels_from 0 (before ++ u ∷ [])
  labels_are old new datums first held counted was added =
      let long : length datums ≡ length (flat_map (unit_datums program) before) = ap length held in
      let bound : length (flat_map (unit_datums program) before) + datums_among u.items < 2 ^ 32 = fits.datums in
      let among : datums_among (items_of c.flat) ≡ datums_among u.items = ap datums_among (sym items_are) in
      let start : first ≡ length datums = counted (omega arith) in
      let at : first ≡ 0 + all_datums before = let e : length (flat_map (unit_datums program) before) ≡ all_datums before = datums_length program before in omega arith in
      added (omega arith) ∙ ap (λ t. t ++ unit_labels (map (λ e. e.now) c.exports) first c.flat.parts) was
      ∙ ap (λ n. labels_from 0 before ++ unit_labels (map (λ e. e.now) c.exports) n c.flat.parts) at
      ∙ ap (λ es. labels_from 0 before ++ unit_labels es (0 + all_datums before) c.flat.parts) known.exports
      ∙ ap (λ (t : UnitTree). labels_from 0 before ++ unit_labels (exports_of u) (0 + all_datums before) t.parts) known.tree
      ∙ sym (labels_next 0 before u)

  pub parts_next : (procs procs' : List Proc) (datums datums' : List Datum) (labels labels' : List Label) (first : ℕ) →
      AreParts program before (record { procs = procs; datums = datums; labels = labels }) →
      (All (λ i. ItemFits (names_of c) i.what) (items_of c.flat) → procs' ≡ procs ++ flat_map (item_procedures (names_of c) number) (items_of c.flat)) →
      (All IsShort (flat_map (item_datums (names_of c)) (whats (items_of c.flat))) →
      datums' ≡ datums ++ flat_map (item_datums (names_of c)) (whats (items_of c.flat))) →
      (length datums < 2 ^ 32 → first ≡ length datums) →
      (first + datums_among (items_of c.flat) < 2 ^ 32 → labels' ≡ labels ++ unit_labels (map (λ e. e.now) c.exports) first c.flat.parts) →
      AreParts program (before ++ u ∷ []) (record { procs = procs'; datums = datums'; labels = labels' })
  parts_next procs procs' datums datums' labels labels' first are more_procs more_datums counted more_labels = record {
    procs = procs_are procs procs' are.procs more_procs;
    datums = datums_are datums datums' are.datums more_datums;
    labels = labels_are labels labels' datums first are.datums counted are.labels more_labels;
  }
