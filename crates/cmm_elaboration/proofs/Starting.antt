-- The program of accepted units starts with the one procedure that is exported as `main`, which has no formals.
use Rattle.std.proofs.Common.{◌≡◌, ℕ, zero, suc, ◌+◌, refl, sym, ap, ◌∙◌, subst, Bool, true, false, List, [], ◌∷◌, ◌++◌, append_assoc, Option, Some, None, arith, length, length-append, inl, inr}
use Rattle.std.specs.Prelude.{map, flat_map, option_map, bytes_eq, codes, slice_get, not, ◌&&◌, ◌||◌}
use Rattle.std.proofs.lemmas.Bool.{and_parts, or_cases}
use Rattle.std.proofs.lemmas.List.{map-append}
use Rattle.std.proofs.lemmas.Option.{slice_get-map}
use Rattle.std.proofs.lemmas.Grind.{flat_map-append}
use Rattle.cmm_words.specs.declared.constant.Constant.{Constant}
use Rattle.cmm_ast.specs.declared.declaration.Export.{Export}
use Rattle.cmm_ast.specs.declared.procedure.Formal.{Formal}
use Rattle.cmm_ast.specs.declared.unit.DatumForm.{DatumForm}
use Rattle.cmm_ast.specs.declared.unit.DatumForm.TheVariants as data_forms
use Rattle.cmm_ast.specs.declared.unit.Item.{Item}
use Rattle.cmm_ast.specs.declared.unit.Item.TheVariants as items
use Rattle.cmm_ast.specs.declared.unit.Unit.{Unit as UnitTree}
use Rattle.cmm_program.specs.declared.procedure.Proc.{Proc}
use Rattle.cmm_rules.specs.declared.rule.Rule.TheVariants.{ExportedTwice}
use Rattle.cmm_static_semantics.specs.Senses.{Senses}
use Rattle.cmm_static_semantics.specs.Items.{Within, items_of}
use Rattle.cmm_static_semantics.specs.Declarations.{Declared, Entry, Typedef, Const, Register, Import, DataLabel, Procedure, NamedUnit, named_units, found, datum_entries, item_entries, procs_in, labels_in, entries_from, sum_of, units_from, entry_of}
use Rattle.cmm_static_semantics.specs.Linking.{Program as Linked, Published, program_of, is_among, address_of, published, published_as, exports_of, export_link, export_links, twice, is_start, starts, has_main}
use Rattle.cmm_static_semantics.specs.Scopes.{unit_senses}
use Rattle.cmm_static_semantics.specs.Faults.{each_unit, name_spots}
use Rattle.cmm_elaboration.specs.Meaning.{item_procedures, unit_procedures, procedures_from, procedure_number, meaning_of}
use Rattle.cmm_elaboration.specs.Laws.{StartHasNoFormals}
use Rattle.cmm_elaboration.proofs.Nothing.{no_left, no_right, no_unless, first_unit, other_units, unbroken, names_kept}
use Rattle.cmm_elaboration.proofs.Cycles.{one_name, own_is}
use Rattle.cmm_static_semantics.proofs.Shared.{among_append}
use Rattle.cmm_elaboration.proofs.Entries.{EachEntry, EachUnit, entries_append, decl_holds, found_each}

-- ---- how many formals each procedure has, in the order of the procedures

abbrev item_counts : Item → List ℕ
item_counts (items.Proc p) = length p.formals ∷ []
item_counts _ = []

abbrev counts : List (Within Item) → List ℕ
counts [] = []
counts (i ∷ is) = item_counts i.what ++ counts is

abbrev all_counts : List NamedUnit → List ℕ
all_counts [] = []
all_counts (u ∷ us) = counts u.items ++ all_counts us

abbrev formals_of : List Proc → List ℕ
formals_of qs = map (λ q. q.formals) qs

item_is : (names : Senses) (unit : ℕ) (i : Within Item) (what : Item) → formals_of (item_procedures names unit record i { what = what }) ≡ item_counts what
item_is names unit i (items.Decl d) = refl
item_is names unit i (items.Proc p) = refl
item_is names unit i (items.Datum d) = refl
item_is names unit i (items.Span' first key value size inside) = refl

items_are : (names : Senses) (unit : ℕ) (is : List (Within Item)) → formals_of (flat_map (item_procedures names unit) is) ≡ counts is
items_are names unit [] = refl
items_are names unit (i ∷ is) =
    map-append (λ q. q.formals) (item_procedures names unit i) (flat_map (item_procedures names unit) is)
    ∙ ap (λ xs. xs ++ formals_of (flat_map (item_procedures names unit) is)) (item_is names unit i i.what) ∙ ap (λ ys. item_counts i.what ++ ys) (items_are names unit is)

procedures_are : (program : Linked) (unit : ℕ) (us : List NamedUnit) → formals_of (procedures_from program unit us) ≡ all_counts us
procedures_are program unit [] = refl
procedures_are program unit (u ∷ us) =
    map-append (λ q. q.formals) (unit_procedures program unit u) (procedures_from program (suc unit) us)
    ∙ ap (λ xs. xs ++ formals_of (procedures_from program (suc unit) us)) (items_are (unit_senses program u.entries) unit u.items)
    ∙ ap (λ ys. counts u.items ++ ys) (procedures_are program (suc unit) us)

one_count : (i : Item) → length (item_counts i) ≡ procs_in i
one_count (items.Decl d) = refl
one_count (items.Proc p) = refl
one_count (items.Datum d) = refl
one_count (items.Span' first key value size inside) = refl

counts_length : (is : List (Within Item)) → length (counts is) ≡ sum_of procs_in is
counts_length [] = refl
counts_length (i ∷ is) = length-append (item_counts i.what) (counts is) ∙ rw (one_count i.what, counts_length is) refl

-- ---- each procedure of a unit stands at its number

pub behind : {A : Type 0} (xs : List A) (y : A) (ys : List A) (n : ℕ) → n ≡ length xs → slice_get (xs ++ y ∷ ys) n ≡ Some y
behind [] y ys zero e = refl
behind [] y ys (suc n) e = absurd (omega arith)
behind (x ∷ xs) y ys zero e = absurd (omega arith)
behind (x ∷ xs) y ys (suc n) e = behind xs y ys n (omega arith)

-- with some more before and behind
moved : (before here rest after : List ℕ) → before ++ ((here ++ rest) ++ after) ≡ (before ++ here) ++ (rest ++ after)
moved before here rest after = ap (λ xs. before ++ xs) (append_assoc here rest after) ∙ sym (append_assoc before here (rest ++ after))

module _ (all : List ℕ) where
  abbrev EntryCounts : Entry → Type 0
  EntryCounts (Procedure n p) = slice_get all n ≡ Some (length p.formals)
  EntryCounts (DataLabel n) = Unit {0}
  EntryCounts (Typedef t) = Unit {0}
  EntryCounts (Const t e) = Unit {0}
  EntryCounts (Register t) = Unit {0}
  EntryCounts (Import link) = Unit {0}

  abbrev UnitCounts : NamedUnit → Type 0
  UnitCounts u = EachEntry EntryCounts u.entries

  datum_counts : (labels : ℕ) (form : DatumForm) → EachEntry EntryCounts (datum_entries labels form)
  datum_counts labels (data_forms.Label name) = (tt, tt)
  datum_counts labels (data_forms.Align k) = tt
  datum_counts labels (data_forms.Data width count initial) = tt

  item_at : (before rest after : List ℕ) (procs labels : ℕ) (i : Item) → all ≡ before ++ ((item_counts i ++ rest) ++ after) → procs ≡ length before →
      EachEntry EntryCounts (item_entries procs labels i)
  item_at before rest after procs labels (items.Decl d) is counted =
      decl_holds EntryCounts (record { typedef = λ t. tt; const = λ t e. tt; register = λ t. tt; import_ = λ link. tt }) d.form
  item_at before rest after procs labels (items.Proc p) is counted =
      (ap (λ xs. slice_get xs procs) is ∙ behind before (length p.formals) (rest ++ after) procs counted, tt)
  item_at before rest after procs labels (items.Datum d) is counted = datum_counts labels d.form
  item_at before rest after procs labels (items.Span' first key value size inside) is counted = tt

  entries_at : (before after : List ℕ) (procs labels : ℕ) (is : List (Within Item)) → all ≡ before ++ (counts is ++ after) → procs ≡ length before →
      EachEntry EntryCounts (entries_from procs labels is)
  entries_at before after procs labels [] is counted = tt
  entries_at before after procs labels (i ∷ rest) is counted =
      entries_append EntryCounts (item_entries procs labels i.what) (entries_from (procs + procs_in i.what) (labels + labels_in i.what) rest)
      (item_at before (counts rest) after procs labels i.what is counted)
      (entries_at (before ++ item_counts i.what) after (procs + procs_in i.what) (labels + labels_in i.what) rest (is ∙ moved before (item_counts i.what) (counts rest) after)
      (ap (λ n. n + procs_in i.what) counted ∙ ap (λ n. length before + n) (sym (one_count i.what)) ∙ sym (length-append before (item_counts i.what))))

  units_at : (before : List ℕ) (procs labels : ℕ) (us : List UnitTree) → all ≡ before ++ all_counts (units_from procs labels us) → procs ≡ length before →
      EachUnit UnitCounts (units_from procs labels us)
  units_at before procs labels [] is counted = tt
  units_at before procs labels (u ∷ us) is counted = let here = items_of u in let rest = units_from (procs + sum_of procs_in here) (labels + sum_of labels_in here) us in (
    entries_at before (all_counts rest) procs labels here is counted,
    units_at (before ++ counts here) (procs + sum_of procs_in here) (labels + sum_of labels_in here) us (is ∙ sym (append_assoc before (counts here) (all_counts rest)))
        (ap (λ n. n + sum_of procs_in here) counted ∙ ap (λ n. length before + n) (sym (counts_length here)) ∙ sym (length-append before (counts here))),
  )

  -- ---- what is exported as `main` is exported once

  abbrev main : List ℕ
  main = codes "main"

  abbrev StartsAt : Option Constant → Type 0
  StartsAt o = slice_get all (procedure_number o) ≡ Some 0

  no_formals : (fs : List Formal) → ◌≡◌ {A = Bool} (elim fs [ [] ↦ true | _ ∷ _ ↦ false ]) true → length fs ≡ 0
  no_formals [] is = refl
  no_formals (f ∷ fs) is = let bad : false ≡ true = is in cc

  start_at : (o : Option Entry) → is_start o ≡ true → ((e : Entry) → o ≡ Some e → EntryCounts e) → StartsAt (address_of o)
  start_at (Some (Procedure n p)) is each = each (Procedure n p) refl ∙ ap Some (no_formals p.formals is)
  start_at (Some (DataLabel n)) is each = let bad : false ≡ true = is in cc
  start_at (Some (Typedef t)) is each = let bad : false ≡ true = is in cc
  start_at (Some (Const t e)) is each = let bad : false ≡ true = is in cc
  start_at (Some (Register t)) is each = let bad : false ≡ true = is in cc
  start_at (Some (Import link)) is each = let bad : false ≡ true = is in cc
  start_at None is each = let bad : false ≡ true = is in cc

  not_true : (b : Bool) → not b ≡ true → b ≡ false
  not_true true is = let bad : false ≡ true = is in cc
  not_true false is = refl

  neither : (a b : Bool) → (a || b) ≡ false → (a ≡ false) × (b ≡ false)
  neither true b is = let bad : true ≡ false = is in cc
  neither false b is = (refl, is)

  abbrev publish : List (Declared Entry) → Export → Published
  publish ds e = record { link = export_link e; address = address_of (entry_of e.name.name ds) }

  -- of the exports of a unit, behind some link names
  record IsFirst (ds : List (Declared Entry)) (earlier : List (List ℕ)) (es : List Export) : Type 0 where
    pub new : is_among main earlier ≡ false
    pub first : (rest : List Published) → StartsAt (published_as main (map (publish ds) es ++ rest))

  first_here : (ds : List (Declared Entry)) (earlier : List (List ℕ)) (e : Export) (es : List Export) → export_link e ≡ main → not (is_among (export_link e) earlier) ≡ true →
      StartsAt (address_of (entry_of e.name.name ds)) → IsFirst ds earlier (e ∷ es)
  first_here ds earlier e es same free start = record {
    new = ap (λ n. is_among n earlier) (sym same) ∙ not_true (is_among (export_link e) earlier) free;
    first = λ rest. subst (λ link. StartsAt (elim (bytes_eq main link) as (λ b. Option Constant) [
      | true ↦ address_of (entry_of e.name.name ds)
      | false ↦ published_as main (map (publish ds) es ++ rest)
    ])) (sym same) start;
  }

  first_later : (ds : List (Declared Entry)) (earlier : List (List ℕ)) (e : Export) (es : List Export) → IsFirst ds (earlier ++ export_link e ∷ []) es → IsFirst ds earlier (e ∷ es)
  first_later ds earlier e es later =
      let apart = neither (is_among main earlier) (is_among main (export_link e ∷ [])) (sym (among_append main earlier (export_link e ∷ [])) ∙ later.new) in
      let other = (neither (bytes_eq main (export_link e)) false apart.1).0 in
      record {
        new = apart.0;
        first = λ rest. subst (λ b. StartsAt (elim b as (λ c. Option Constant) [
          | true ↦ address_of (entry_of e.name.name ds)
          | false ↦ published_as main (map (publish ds) es ++ rest)
        ])) (sym other) (later.first rest);
      }

  first_in : (ds : List (Declared Entry)) → EachEntry EntryCounts ds → (earlier : List (List ℕ)) (es : List Export) → twice earlier es ≡ [] → starts ds es ≡ true → IsFirst ds earlier es
  first_in ds each earlier [] none is = let bad : false ≡ true = is in cc
  first_in ds each earlier (e ∷ es) none is =
      let here = bytes_eq (export_link e) main in let start = is_start (entry_of e.name.name ds) in
      elim (or_cases (here && start) (starts ds es) is) [
        | inl one ↦ first_here ds earlier e es (one_name (export_link e) main (and_parts here start one).0)
            (no_unless (not (is_among (export_link e) earlier)) ExportedTwice e.name.token (no_left _ (twice (earlier ++ export_link e ∷ []) es) none))
            (start_at (entry_of e.name.name ds) (and_parts here start one).1 (λ x at_. found_each EntryCounts e.name.name x ds each (own_is _ (found e.name.name ds) x at_)))
        | inr later ↦ first_later ds earlier e es (first_in ds each (earlier ++ export_link e ∷ []) es (no_right _ (twice (earlier ++ export_link e ∷ []) es) none) later)
      ]

  passed_over : (ds : List (Declared Entry)) (es : List Export) (rest : List Published) → is_among main (map export_link es) ≡ false →
      published_as main (map (publish ds) es ++ rest) ≡ published_as main rest
  passed_over ds [] rest apart = refl
  passed_over ds (e ∷ es) rest apart = let parts = neither (bytes_eq main (export_link e)) (is_among main (map export_link es)) apart in
      ap (λ b. elim b as (λ c. Option Constant) [ true ↦ address_of (entry_of e.name.name ds) | false ↦ published_as main (map (publish ds) es ++ rest) ]) parts.0
      ∙ passed_over ds es rest parts.1

  exported_once : (everything earlier : List NamedUnit) (number : ℕ) (us : List NamedUnit) → EachUnit UnitCounts us → each_unit (name_spots everything) earlier number us ≡ [] →
      has_main us ≡ true → (is_among main (flat_map export_links earlier) ≡ false) × StartsAt (published_as main (flat_map published us))
  exported_once everything earlier number [] each none is = let bad : false ≡ true = is in cc
  exported_once everything earlier number (u ∷ us) each none is =
      let own : twice (flat_map export_links earlier) (exports_of u) ≡ [] =
      no_right _ (twice (flat_map export_links earlier) (exports_of u)) (no_left _ _ (no_left _ _ (no_left _ _ (first_unit (name_spots everything) earlier number u us none)))) in
      elim (or_cases (starts u.entries (exports_of u)) (has_main us) is) [
        | inl here ↦ (let one = first_in u.entries each.0 (flat_map export_links earlier) (exports_of u) own here in (one.new, one.first (flat_map published us)))
        | inr later ↦ (
            let rest = exported_once everything (earlier ++ u ∷ []) (suc number) us each.1 (other_units (name_spots everything) earlier number u us none) later in
            let apart = neither (is_among main (flat_map export_links earlier)) (is_among main (export_links u ++ []))
            (sym (among_append main (flat_map export_links earlier) (export_links u ++ [])) ∙ ap (is_among main) (sym (flat_map-append export_links earlier (u ∷ []))) ∙ rest.0) in
            let free : is_among main (export_links u) ≡ false =
            (neither (is_among main (export_links u)) (is_among main []) (sym (among_append main (export_links u) []) ∙ apart.1)).0 in
            (apart.0, ap (λ o. slice_get all (procedure_number o)) (passed_over u.entries (exports_of u) (flat_map published us) free) ∙ rest.1))
      ]

pub start_has_no_formals : StartHasNoFormals
start_has_no_formals us accepted q is =
    let ns = named_units us in let all = all_counts ns in let free = unbroken us accepted in
    let start = (exported_once all ns [] 0 ns (units_at all [] 0 0 us refl refl) (names_kept ns free.nowhere) free.main).1 in
    let own : slice_get all (meaning_of us).main ≡ Some q.formals =
    ap (λ xs. slice_get xs (meaning_of us).main) (sym (procedures_are (program_of ns) 0 ns))
    ∙ slice_get-map (λ x. x.formals) (meaning_of us).procs (meaning_of us).main ∙ ap (option_map (λ x. x.formals)) is in
    let both : Some q.formals ≡ Some 0 = sym own ∙ start in cc
