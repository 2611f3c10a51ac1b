-- The numbers of procedures and data labels are below how many there are, in all units, and so is what units publish.
use Rattle.std.proofs.Common.{◌≡◌, ℕ, suc, ◌+◌, ◌<◌, ◌≤◌, refl, sym, ap, ◌∙◌, subst, Bool, true, false, List, [], ◌∷◌, ◌++◌, Option, Some, None, arith, length, length-append, inl, inr}
use Rattle.std.specs.Prelude.{map, flat_map, unwrap_or, bytes_eq, codes, ◌&&◌}
use Rattle.std.proofs.lemmas.Bool.{and_parts, or_cases}
use Rattle.cmm_words.specs.declared.constant.Constant.{Constant}
use Rattle.cmm_words.specs.declared.constant.Constant.TheVariants.{Number, Code, Address}
use Rattle.cmm_ast.specs.declared.token.Ident.{Ident}
use Rattle.cmm_ast.specs.declared.expression.Expr.{Expr}
use Rattle.cmm_ast.specs.declared.expression.TypeName.{TypeName}
use Rattle.cmm_ast.specs.declared.declaration.DeclForm.{DeclForm}
use Rattle.cmm_ast.specs.declared.declaration.DeclForm.TheVariants as decls
use Rattle.cmm_ast.specs.declared.declaration.Export.{Export}
use Rattle.cmm_ast.specs.declared.declaration.Import.{Import as ImportTree}
use Rattle.cmm_ast.specs.declared.unit.DatumForm.{DatumForm}
use Rattle.cmm_ast.specs.declared.unit.DatumForm.TheVariants as data_forms
use Rattle.cmm_ast.specs.declared.unit.Item.{Item}
use Rattle.cmm_ast.specs.declared.unit.Item.TheVariants as items
use Rattle.cmm_ast.specs.declared.unit.TopLevel.{TopLevel}
use Rattle.cmm_ast.specs.declared.unit.Unit.{Unit as UnitTree}
use Rattle.cmm_static_semantics.specs.Senses.{Senses, is_host}
use Rattle.cmm_static_semantics.specs.Items.{Within, items_of, top_items}
use Rattle.cmm_static_semantics.specs.Declarations.{Declared, Entry, Typedef, Const, Register, Import, DataLabel, Procedure, NamedUnit, found, each_as, import_entry, decl_entries, datum_entries, item_entries, procs_in, labels_in, entries_from, sum_of, units_from, entry_of}
use Rattle.cmm_static_semantics.specs.Linking.{Program as Linked, Published, address_of, published, published_as, exports_of, export_link, is_start, starts, has_main}
use Rattle.cmm_static_semantics.specs.Scopes.{unit_senses}
use Rattle.cmm_elaboration.specs.Data.{item_labels, section_labels, unit_labels, datums_in, datums_among}
use Rattle.cmm_elaboration.specs.Meaning.{item_procedures, unit_procedures, procedures_from, labels_from}

-- ---- what holds of each declaration, and of each unit

abbrev pub EachEntry : (Entry → Type 0) → List (Declared Entry) → Type 0
EachEntry P [] = Unit {0}
EachEntry P (d ∷ ds) = P d.as_what × EachEntry P ds

pub entries_append : (P : Entry → Type 0) (xs ys : List (Declared Entry)) → EachEntry P xs → EachEntry P ys → EachEntry P (xs ++ ys)
entries_append P [] ys h k = k
entries_append P (x ∷ xs) ys h k = (h.0, entries_append P xs ys h.1 k)

found_by : (P : Entry → Type 0) (same : Bool) (x e : Entry) (o : Option Entry) → ◌≡◌ {A = Option Entry} (elim same [ true ↦ Some x | false ↦ o ]) (Some e) → P x → (o ≡ Some e → P e) → P e
found_by P true x e o is h later = let one : x ≡ e = let f : Some x ≡ Some e = is in cc in subst P one h
found_by P false x e o is h later = later is

pub found_each : (P : Entry → Type 0) (name : List ℕ) (e : Entry) (ds : List (Declared Entry)) → EachEntry P ds → found name ds ≡ Some e → P e
found_each P name e [] h is = let bad : None ≡ Some e = is in cc
found_each P name e (d ∷ ds) h is = found_by P (bytes_eq name d.name.name) d.as_what e (found name ds) is h.0 (found_each P name e ds h.1)

abbrev pub EachUnit : (NamedUnit → Type 0) → List NamedUnit → Type 0
EachUnit P [] = Unit {0}
EachUnit P (u ∷ us) = P u × EachUnit P us

pub unit_each : (P : NamedUnit → Type 0) (earlier later : List NamedUnit) (u : NamedUnit) → EachUnit P (earlier ++ u ∷ later) → P u
unit_each P [] later u h = h.0
unit_each P (e ∷ es) later u h = unit_each P es later u h.1

-- ---- what has no number is kept by what says nothing of it

-- what holds of everything that is no procedure and no data label
pub record HoldsElsewhere (P : Entry → Type 0) : Type 0 where
  pub typedef : (t : TypeName) → P (Typedef t)
  pub const : (t : Option TypeName) (e : Expr) → P (Const t e)
  pub register : (t : TypeName) → P (Register t)
  pub import_ : (link : List ℕ) → P (Import link)

module _ (P : Entry → Type 0) (elsewhere : HoldsElsewhere P) where
  all_as : (e : Entry) (is : List Ident) → P e → EachEntry P (each_as e is)
  all_as e [] h = tt
  all_as e (i ∷ is) h = (h, all_as e is h)

  imports_hold : (is : List ImportTree) → EachEntry P (map import_entry is)
  imports_hold [] = tt
  imports_hold (i ∷ is) = (elsewhere.import_ _, imports_hold is)

  pub decl_holds : (form : DeclForm) → EachEntry P (decl_entries form)
  decl_holds (decls.Import width imports) = imports_hold imports
  decl_holds (decls.Export width exports) = tt
  decl_holds (decls.Const width name value) = (elsewhere.const width value, tt)
  decl_holds (decls.Typedef width names) = all_as (Typedef width) names (elsewhere.typedef width)
  decl_holds (decls.Register invariant kind width names) = all_as (Register width) names (elsewhere.register width)
  decl_holds (decls.Target properties) = tt

-- ---- numbers of procedures and labels

module _ (procedures labels : ℕ) where
  abbrev pub EntryFits : Entry → Type 0
  EntryFits (Procedure n p) = n < procedures
  EntryFits (DataLabel n) = n < labels
  EntryFits (Typedef t) = Unit {0}
  EntryFits (Const t e) = Unit {0}
  EntryFits (Register t) = Unit {0}
  EntryFits (Import link) = Unit {0}

  decl_fits : (form : DeclForm) → EachEntry EntryFits (decl_entries form)
  decl_fits form = decl_holds EntryFits (record { typedef = λ t. tt; const = λ t e. tt; register = λ t. tt; import_ = λ link. tt }) form

  datum_fits : (before : ℕ) (form : DatumForm) (token : ℕ) → before + labels_in (items.Datum record { token = token; form = form }) ≤ labels → EachEntry EntryFits (datum_entries before form)
  datum_fits before (data_forms.Label name) token below = (let h : before < labels = omega arith in h, tt)
  datum_fits before (data_forms.Align k) token below = tt
  datum_fits before (data_forms.Data width count initial) token below = tt

  item_fits : (procs before : ℕ) (i : Item) → procs + procs_in i ≤ procedures → before + labels_in i ≤ labels → EachEntry EntryFits (item_entries procs before i)
  item_fits procs before (items.Decl d) few below = decl_fits d.form
  item_fits procs before (items.Proc p) few below = (let h : procs < procedures = omega arith in h, tt)
  item_fits procs before (items.Datum d) few below = datum_fits before d.form d.token below
  item_fits procs before (items.Span' first key value size inside) few below = tt

  entries_fit : (procs before : ℕ) (is : List (Within Item)) → procs + sum_of procs_in is ≤ procedures → before + sum_of labels_in is ≤ labels →
      EachEntry EntryFits (entries_from procs before is)
  entries_fit procs before [] few below = tt
  entries_fit procs before (i ∷ is) few below =
      entries_append EntryFits (item_entries procs before i.what) (entries_from (procs + procs_in i.what) (before + labels_in i.what) is)
      (item_fits procs before i.what (omega arith) (omega arith))
      (entries_fit (procs + procs_in i.what) (before + labels_in i.what) is (omega arith) (omega arith))

  abbrev pub UnitFits : NamedUnit → Type 0
  UnitFits u = EachEntry EntryFits u.entries

-- how many procedures and labels units have
abbrev pub counted_in : (Item → ℕ) → List NamedUnit → ℕ
counted_in count [] = 0
counted_in count (u ∷ us) = sum_of count u.items + counted_in count us

pub units_fit : (procedures labels procs before : ℕ) (us : List UnitTree) →
    procs + counted_in procs_in (units_from procs before us) ≤ procedures → before + counted_in labels_in (units_from procs before us) ≤ labels →
    EachUnit (UnitFits procedures labels) (units_from procs before us)
units_fit procedures labels procs before [] few below = tt
units_fit procedures labels procs before (u ∷ us) few below = let is = items_of u in (
  entries_fit procedures labels procs before is (omega arith) (omega arith),
  units_fit procedures labels (procs + sum_of procs_in is) (before + sum_of labels_in is) us (omega arith) (omega arith),
)

-- ---- as many as there are

item_length : (names : Senses) (unit : ℕ) (i : Within Item) (what : Item) → length (item_procedures names unit record i { what = what }) ≡ procs_in what
item_length names unit i (items.Decl d) = refl
item_length names unit i (items.Proc p) = refl
item_length names unit i (items.Datum d) = refl
item_length names unit i (items.Span' first key value size inside) = refl

items_length : (names : Senses) (unit : ℕ) (is : List (Within Item)) → length (flat_map (item_procedures names unit) is) ≡ sum_of procs_in is
items_length names unit [] = refl
items_length names unit (i ∷ is) =
    length-append (item_procedures names unit i) (flat_map (item_procedures names unit) is) ∙ rw (item_length names unit i i.what, items_length names unit is) refl

pub procedures_length : (program : Linked) (unit : ℕ) (us : List NamedUnit) → length (procedures_from program unit us) ≡ counted_in procs_in us
procedures_length program unit [] = refl
procedures_length program unit (u ∷ us) =
    length-append (unit_procedures program unit u) (procedures_from program (suc unit) us)
    ∙ rw (items_length (unit_senses program u.entries) unit u.items, procedures_length program (suc unit) us) refl

pub sum_append : (count : Item → ℕ) (xs ys : List (Within Item)) → sum_of count (xs ++ ys) ≡ sum_of count xs + sum_of count ys
sum_append count [] ys = let e : sum_of count ys ≡ 0 + sum_of count ys = omega arith in e
sum_append count (x ∷ xs) ys = ap (λ n. count x.what + n) (sum_append count xs ys)
    ∙ (let e : count x.what + (sum_of count xs + sum_of count ys) ≡ count x.what + sum_of count xs + sum_of count ys = omega arith in e)

datum_label : (es : List Export) (number : ℕ) (form : DatumForm) (token : ℕ) (rest : List (Within Item)) →
    length (item_labels es number (items.Datum record { token = token; form = form }) rest) ≡ labels_in (items.Datum record { token = token; form = form })
datum_label es number (data_forms.Label name) token rest = refl
datum_label es number (data_forms.Align k) token rest = refl
datum_label es number (data_forms.Data width count initial) token rest = refl

item_label : (es : List Export) (number : ℕ) (i : Item) (rest : List (Within Item)) → length (item_labels es number i rest) ≡ labels_in i
item_label es number (items.Decl d) rest = refl
item_label es number (items.Proc p) rest = refl
item_label es number (items.Datum d) rest = datum_label es number d.form d.token rest
item_label es number (items.Span' first key value size inside) rest = refl

section_length : (es : List Export) (number : ℕ) (is : List (Within Item)) → length (section_labels es number is) ≡ sum_of labels_in is
section_length es number [] = refl
section_length es number (i ∷ is) =
    length-append (item_labels es number i.what is) (section_labels es (number + datums_in i.what) is)
    ∙ rw (item_label es number i.what is, section_length es (number + datums_in i.what) is) refl

unit_length : (es : List Export) (number : ℕ) (ts : List TopLevel) → length (unit_labels es number ts) ≡ sum_of labels_in (flat_map top_items ts)
unit_length es number [] = refl
unit_length es number (t ∷ ts) =
    length-append (section_labels es number (top_items t)) (unit_labels es (number + datums_among (top_items t)) ts)
    ∙ rw (section_length es number (top_items t), unit_length es (number + datums_among (top_items t)) ts) (sym (sum_append labels_in (top_items t) (flat_map top_items ts)))

pub labels_length : (number procs before : ℕ) (us : List UnitTree) →
    length (labels_from number (units_from procs before us)) ≡ counted_in labels_in (units_from procs before us)
labels_length number procs before [] = refl
labels_length number procs before (u ∷ us) = let is = items_of u in
    let es = exports_of record { tree = u; items = is; entries = entries_from procs before is } in
    length-append (unit_labels es number u.parts) (labels_from (number + datums_among is) (units_from (procs + sum_of procs_in is) (before + sum_of labels_in is) us))
    ∙ rw (unit_length es number u.parts, labels_length (number + datums_among is) (procs + sum_of procs_in is) (before + sum_of labels_in is) us) refl

-- ---- what units publish

module _ (procedures labels : ℕ) where
  abbrev pub AddressFits : Constant → Type 0
  AddressFits (Number value width) = ⊥
  AddressFits (Code n plus) = n < procedures
  AddressFits (Address n plus) = n < labels

  abbrev pub MayFit : Option Constant → Type 0
  MayFit (Some c) = AddressFits c
  MayFit None = Unit {0}

  abbrev pub EachPublished : List Published → Type 0
  EachPublished [] = Unit {0}
  EachPublished (p ∷ ps) = MayFit p.address × EachPublished ps

  published_append : (xs ys : List Published) → EachPublished xs → EachPublished ys → EachPublished (xs ++ ys)
  published_append [] ys h k = k
  published_append (x ∷ xs) ys h k = (h.0, published_append xs ys h.1 k)

  address_fits : (o : Option Entry) → ((e : Entry) → o ≡ Some e → EntryFits procedures labels e) → MayFit (address_of o)
  address_fits (Some (Procedure n p)) each = each (Procedure n p) refl
  address_fits (Some (DataLabel n)) each = each (DataLabel n) refl
  address_fits (Some (Typedef t)) each = tt
  address_fits (Some (Const t e)) each = tt
  address_fits (Some (Register t)) each = tt
  address_fits (Some (Import link)) each = tt
  address_fits None each = tt

  own_entry : (host : Bool) (o : Option Entry) (e : Entry) → ◌≡◌ {A = Option Entry} (elim host [ true ↦ None | false ↦ o ]) (Some e) → o ≡ Some e
  own_entry true o e is = let bad : None ≡ Some e = is in cc
  own_entry false o e is = is

  pub entry_fits : (name : List ℕ) (ds : List (Declared Entry)) → EachEntry (EntryFits procedures labels) ds → (e : Entry) → entry_of name ds ≡ Some e → EntryFits procedures labels e
  entry_fits name ds fit e is = found_each (EntryFits procedures labels) name e ds fit (own_entry (is_host name) (found name ds) e is)

  exports_fit : (ds : List (Declared Entry)) → EachEntry (EntryFits procedures labels) ds → (es : List Export) →
      EachPublished (map (λ e. record { link = export_link e; address = address_of (entry_of e.name.name ds) }) es)
  exports_fit ds fit [] = tt
  exports_fit ds fit (e ∷ es) = (address_fits (entry_of e.name.name ds) (entry_fits e.name.name ds fit), exports_fit ds fit es)

  pub all_published : (us : List NamedUnit) → EachUnit (UnitFits procedures labels) us → EachPublished (flat_map published us)
  all_published [] fit = tt
  all_published (u ∷ us) fit = published_append (published u) (flat_map published us) (exports_fit u.entries fit.0 (exports_of u)) (all_published us fit.1)

  published_by : (same : Bool) (a o : Option Constant) → MayFit a → MayFit o → MayFit (elim same [ true ↦ a | false ↦ o ])
  published_by true a o h k = h
  published_by false a o h k = k

  pub published_fits : (link : List ℕ) (ps : List Published) → EachPublished ps → MayFit (published_as link ps)
  published_fits link [] h = tt
  published_fits link (p ∷ ps) h = published_by (bytes_eq link p.link) p.address (published_as link ps) h.0 (published_fits link ps h.1)

  -- some address where nothing is published, if there is a procedure
  pub some_address : (o : Option Constant) → 0 < procedures → MayFit o → AddressFits (unwrap_or o (Code 0 0))
  some_address (Some c) some h = h
  some_address None some h = some

  -- ---- where a program starts there is a procedure

  start_some : (o : Option Entry) → is_start o ≡ true → ((e : Entry) → o ≡ Some e → EntryFits procedures labels e) → 0 < procedures
  start_some (Some (Procedure n p)) is each = let h : n < procedures = each (Procedure n p) refl in omega arith
  start_some (Some (DataLabel n)) is each = let bad : false ≡ true = is in cc
  start_some (Some (Typedef t)) is each = let bad : false ≡ true = is in cc
  start_some (Some (Const t e)) is each = let bad : false ≡ true = is in cc
  start_some (Some (Register t)) is each = let bad : false ≡ true = is in cc
  start_some (Some (Import link)) is each = let bad : false ≡ true = is in cc
  start_some None is each = let bad : false ≡ true = is in cc

  starts_some : (ds : List (Declared Entry)) → EachEntry (EntryFits procedures labels) ds → (es : List Export) → starts ds es ≡ true → 0 < procedures
  starts_some ds fit [] is = let bad : false ≡ true = is in cc
  starts_some ds fit (e ∷ es) is =
      let here = bytes_eq (export_link e) (codes "main") in let start = is_start (entry_of e.name.name ds) in
      elim (or_cases (here && start) (starts ds es) is) [
        | inl one ↦ start_some (entry_of e.name.name ds) (and_parts here start one).1 (entry_fits e.name.name ds fit)
        | inr later ↦ starts_some ds fit es later
      ]

  pub some_procedure : (us : List NamedUnit) → EachUnit (UnitFits procedures labels) us → has_main us ≡ true → 0 < procedures
  some_procedure [] fit is = let bad : false ≡ true = is in cc
  some_procedure (u ∷ us) fit is = elim (or_cases (starts u.entries (exports_of u)) (has_main us) is) [
    | inl here ↦ starts_some u.entries fit.0 (exports_of u) here
    | inr later ↦ some_procedure us fit.1 later
  ]
