-- The data labels of accepted units stand on datums of their program, or behind one, and their names are short.
use Rattle.std.proofs.Common.{◌≡◌, ℕ, suc, ◌+◌, ◌≤◌, refl, ap, ◌∙◌, subst, Bool, true, false, cond, List, [], ◌∷◌, ◌++◌, Option, Some, None, arith, length, length-append}
use Rattle.std.specs.Prelude.{map, flat_map, filter, bytes_eq, nat_le, nat_lt}
use Rattle.std.specs.List.{list_all}
use Rattle.std.proofs.lemmas.Bool.{le-leb, lt-ltb, and_parts, and_from}
use Rattle.std.proofs.lemmas.List.{map-append}
use Rattle.std.proofs.lemmas.List.Folds.{list_all-append}
use Rattle.std.proofs.lemmas.Grind.{flat_map-append}
use Rattle.cmm_ast.specs.declared.token.Ident.{Ident}
use Rattle.cmm_ast.specs.declared.token.Text.{Text}
use Rattle.cmm_ast.specs.declared.declaration.DeclForm.{DeclForm}
use Rattle.cmm_ast.specs.declared.declaration.DeclForm.TheVariants as decls
use Rattle.cmm_ast.specs.declared.declaration.Export.{Export}
use Rattle.cmm_ast.specs.declared.unit.DatumForm.{DatumForm}
use Rattle.cmm_ast.specs.declared.unit.DatumForm.TheVariants as data_forms
use Rattle.cmm_ast.specs.declared.unit.Item.{Item}
use Rattle.cmm_ast.specs.declared.unit.Item.TheVariants as items
use Rattle.cmm_ast.specs.declared.unit.TopLevel.{TopLevel}
use Rattle.cmm_ast.specs.declared.unit.Unit.{Unit as UnitTree}
use Rattle.cmm_program.specs.declared.program.Program.{Program}
use Rattle.cmm_program.specs.InRange.{is_name, is_label}
use Rattle.cmm_static_semantics.specs.Senses.{Senses}
use Rattle.cmm_static_semantics.specs.Items.{SpanTree, Within, top_items, items_of}
use Rattle.cmm_static_semantics.specs.Mentions.{listed, type_names}
use Rattle.cmm_static_semantics.specs.LongNames.{of_text, of_export, of_item, names_in}
use Rattle.cmm_static_semantics.specs.Declarations.{NamedUnit, named_units, units_from, entries_from, sum_of, procs_in, labels_in, link_name}
use Rattle.cmm_static_semantics.specs.Linking.{Program as Linked, program_of, item_exports, exports_of, export_link}
use Rattle.cmm_static_semantics.specs.Scopes.{unit_senses}
use Rattle.cmm_elaboration.specs.Data.{item_datums, form_datums, datums_in, datums_among, Standing, standing, links_of, label_at, item_labels, section_labels, unit_labels}
use Rattle.cmm_elaboration.specs.Meaning.{unit_datums, labels_from, meaning_of}
use Rattle.cmm_elaboration.specs.Laws.{LabelsAreThere}
use Rattle.cmm_elaboration.proofs.Nothing.{unbroken, names_kept}
use Rattle.cmm_elaboration.proofs.Entries.{EachUnit}
use Rattle.cmm_elaboration.proofs.Short.{Short, short_left, short_right, short_first, short_rest, each_short}

-- ---- how many datums there are

datum_length : (names : Senses) (form : DatumForm) (token : ℕ) → length (form_datums names form) ≡ datums_in (items.Datum record { token = token; form = form })
datum_length names (data_forms.Label name) token = refl
datum_length names (data_forms.Align k) token = refl
datum_length names (data_forms.Data t count initial) token = refl

item_length : (names : Senses) (i : Item) → length (item_datums names i) ≡ datums_in i
item_length names (items.Decl d) = refl
item_length names (items.Proc p) = refl
item_length names (items.Datum d) = datum_length names d.form d.token
item_length names (items.Span' first key value size inside) = refl

pub items_length : (names : Senses) (is : List (Within Item)) → length (flat_map (λ i. item_datums names i.what) is) ≡ datums_among is
items_length names [] = refl
items_length names (i ∷ is) =
    length-append (item_datums names i.what) (flat_map (λ j. item_datums names j.what) is) ∙ rw (item_length names i.what, items_length names is) refl

abbrev pub all_datums : List NamedUnit → ℕ
all_datums [] = 0
all_datums (u ∷ us) = datums_among u.items + all_datums us

pub datums_length : (program : Linked) (us : List NamedUnit) → length (flat_map (unit_datums program) us) ≡ all_datums us
datums_length program [] = refl
datums_length program (u ∷ us) =
    length-append (unit_datums program u) (flat_map (unit_datums program) us) ∙ rw (items_length (unit_senses program u.entries) u.items, datums_length program us) refl

pub among_append : (xs ys : List (Within Item)) → datums_among (xs ++ ys) ≡ datums_among xs + datums_among ys
among_append [] ys = let e : datums_among ys ≡ 0 + datums_among ys = omega arith in e
among_append (x ∷ xs) ys = ap (λ n. datums_in x.what + n) (among_append xs ys)
    ∙ (let e : datums_in x.what + (datums_among xs + datums_among ys) ≡ datums_in x.what + datums_among xs + datums_among ys = omega arith in e)

-- ---- a label stands before the end of data, or at it

abbrev stands_within : ℕ → Standing → Bool
stands_within limit s = elim s.at_end as (λ b. Bool) [ true ↦ nat_le s.datum limit | false ↦ nat_lt s.datum limit ]

datum_stands : (limit number : ℕ) (form : DatumForm) (token : ℕ) (spans : List SpanTree) (is : List (Within Item)) →
    number + (datums_in (items.Datum record { token = token; form = form }) + datums_among is) ≤ limit → ((n : ℕ) → n + datums_among is ≤ limit → stands_within limit (standing n is) ≡ true) →
    stands_within limit (standing number (record { spans = spans; what = items.Datum record { token = token; form = form } } ∷ is)) ≡ true
datum_stands limit number (data_forms.Label name) token spans is few later = later number (omega arith)
datum_stands limit number (data_forms.Align k) token spans is few later = later (suc number) (omega arith)
datum_stands limit number (data_forms.Data t count initial) token spans is few later = lt-ltb number limit (omega arith)

item_stands : (limit number : ℕ) (i : Item) (spans : List SpanTree) (is : List (Within Item)) → number + (datums_in i + datums_among is) ≤ limit →
    ((n : ℕ) → n + datums_among is ≤ limit → stands_within limit (standing n is) ≡ true) → stands_within limit (standing number (record { spans = spans; what = i } ∷ is)) ≡ true
item_stands limit number (items.Decl d) spans is few later = later number (omega arith)
item_stands limit number (items.Proc p) spans is few later = later number (omega arith)
item_stands limit number (items.Datum d) spans is few later = datum_stands limit number d.form d.token spans is few later
item_stands limit number (items.Span' first key value size inside) spans is few later = later number (omega arith)

stands : (limit number : ℕ) (is : List (Within Item)) → number + datums_among is ≤ limit → stands_within limit (standing number is) ≡ true
stands limit number [] few = le-leb number limit (omega arith)
stands limit number (i ∷ is) few = item_stands limit number i.what i.spans is few (λ n fewer. stands limit n is fewer)

-- ---- link names are short

abbrev LinksShort : List Export → Type 0
LinksShort es = list_all is_name (map export_link es) ≡ true

link_short : (o : Option Text) (i : Ident) → Short (i ∷ map of_text (listed o)) → is_name (link_name o i) ≡ true
link_short (Some t) i h = short_first (of_text t) [] (short_rest i (of_text t ∷ []) h)
link_short None i h = short_first i [] h

exports_short : (es : List Export) → Short (flat_map of_export es) → LinksShort es
exports_short [] h = refl
exports_short (e ∷ es) h = and_from (is_name (export_link e)) _ (link_short e.link e.name (short_left (of_export e) (flat_map of_export es) h))
    (exports_short es (short_right (of_export e) (flat_map of_export es) h))

decl_short : (form : DeclForm) (token : ℕ) → Short (of_item (items.Decl record { token = token; form = form })) → LinksShort (item_exports (items.Decl record { token = token; form = form }))
decl_short (decls.Import width imports) token h = refl
decl_short (decls.Export width exports) token h = exports_short exports (short_right (flat_map type_names (listed width)) (flat_map of_export exports) h)
decl_short (decls.Const width name value) token h = refl
decl_short (decls.Typedef width names) token h = refl
decl_short (decls.Register invariant kind width names) token h = refl
decl_short (decls.Target properties) token h = refl

item_links : (i : Item) → Short (of_item i) → LinksShort (item_exports i)
item_links (items.Decl d) h = decl_short d.form d.token h
item_links (items.Proc p) h = refl
item_links (items.Datum d) h = refl
item_links (items.Span' first key value size inside) h = refl

all_links : (is : List (Within Item)) → Short (names_in is) → LinksShort (flat_map (λ i. item_exports i.what) is)
all_links [] h = refl
all_links (i ∷ is) h = let here = item_exports i.what in let rest = flat_map (λ j. item_exports j.what) is in
    ap (list_all is_name) (map-append export_link here rest) ∙ list_all-append is_name (map export_link here) (map export_link rest)
    ∙ and_from (list_all is_name (map export_link here)) _ (item_links i.what (short_left (of_item i.what) (names_in is) h)) (all_links is (short_right (of_item i.what) (names_in is) h))

kept_by : (b : Bool) (e : Export) (es : List Export) → is_name (export_link e) ≡ true → LinksShort es → LinksShort (cond b (e ∷ es) es)
kept_by true e es h k = and_from (is_name (export_link e)) _ h k
kept_by false e es h k = k

links_short : (test : Export → Bool) (es : List Export) → LinksShort es → LinksShort (filter test es)
links_short test [] h = refl
links_short test (e ∷ es) h = let parts = and_parts (is_name (export_link e)) (list_all is_name (map export_link es)) h in
    kept_by (test e) e (filter test es) parts.0 (links_short test es parts.1)

-- ---- the labels of units

module _ (p : Program) (es : List Export) (links : LinksShort es) where
  abbrev limit : ℕ
  limit = length p.datums

  label_there : (i : Ident) (s : Standing) → is_name i.name ≡ true → stands_within limit s ≡ true → is_label p (label_at es i s) ≡ true
  label_there i s short within =
      and_from _ _ (and_from (is_name i.name) (list_all is_name (links_of es i.name)) short (links_short (λ e. bytes_eq e.name.name i.name) es links)) within

  datum_labelled : (number : ℕ) (form : DatumForm) (token : ℕ) (rest : List (Within Item)) → number + datums_among rest ≤ limit →
      Short (of_item (items.Datum record { token = token; form = form })) → list_all (is_label p) (item_labels es number (items.Datum record { token = token; form = form }) rest) ≡ true
  datum_labelled number (data_forms.Label name) token rest few h = and_from _ true (label_there name (standing number rest) (short_first name [] h) (stands limit number rest few)) refl
  datum_labelled number (data_forms.Align k) token rest few h = refl
  datum_labelled number (data_forms.Data t count initial) token rest few h = refl

  item_labelled : (number : ℕ) (i : Item) (rest : List (Within Item)) → number + (datums_in i + datums_among rest) ≤ limit → Short (of_item i) →
      list_all (is_label p) (item_labels es number i rest) ≡ true
  item_labelled number (items.Decl d) rest few h = refl
  item_labelled number (items.Proc q) rest few h = refl
  item_labelled number (items.Datum d) rest few h = datum_labelled number d.form d.token rest (omega arith) h
  item_labelled number (items.Span' first key value size inside) rest few h = refl

  section_labelled : (number : ℕ) (is : List (Within Item)) → number + datums_among is ≤ limit → Short (names_in is) → list_all (is_label p) (section_labels es number is) ≡ true
  section_labelled number [] few h = refl
  section_labelled number (i ∷ is) few h =
      list_all-append (is_label p) (item_labels es number i.what is) (section_labels es (number + datums_in i.what) is)
      ∙ and_from (list_all (is_label p) (item_labels es number i.what is)) _ (item_labelled number i.what is few (short_left (of_item i.what) (names_in is) h))
      (section_labelled (number + datums_in i.what) is (omega arith) (short_right (of_item i.what) (names_in is) h))

  unit_labelled : (number : ℕ) (ts : List TopLevel) → number + datums_among (flat_map top_items ts) ≤ limit → Short (names_in (flat_map top_items ts)) →
      list_all (is_label p) (unit_labels es number ts) ≡ true
  unit_labelled number [] few h = refl
  unit_labelled number (t ∷ ts) few h = let here = top_items t in let rest = flat_map top_items ts in
      let split : Short (names_in here ++ names_in rest) = subst Short (flat_map-append (λ i. of_item i.what) here rest) h in
      let many : datums_among (here ++ rest) ≡ datums_among here + datums_among rest = among_append here rest in
      list_all-append (is_label p) (section_labels es number here) (unit_labels es (number + datums_among here) ts)
      ∙ and_from (list_all (is_label p) (section_labels es number here)) _ (section_labelled number here (omega arith) (short_left (names_in here) (names_in rest) split))
      (unit_labelled (number + datums_among here) ts (omega arith) (short_right (names_in here) (names_in rest) split))

units_labelled : (p : Program) (number procs labels : ℕ) (us : List UnitTree) → number + all_datums (units_from procs labels us) ≤ length p.datums →
    EachUnit (λ u. Short (names_in u.items)) (units_from procs labels us) → list_all (is_label p) (labels_from number (units_from procs labels us)) ≡ true
units_labelled p number procs labels [] few each = refl
units_labelled p number procs labels (u ∷ us) few each =
    let is = items_of u in let named : NamedUnit = record { tree = u; items = is; entries = entries_from procs labels is } in
    let rest = units_from (procs + sum_of procs_in is) (labels + sum_of labels_in is) us in
    list_all-append (is_label p) (unit_labels (exports_of named) number u.parts) (labels_from (number + datums_among is) rest)
    ∙ and_from (list_all (is_label p) (unit_labels (exports_of named) number u.parts)) _
    (unit_labelled p (exports_of named) (all_links is each.0) number u.parts (omega arith) each.0)
    (units_labelled p (number + datums_among is) (procs + sum_of procs_in is) (labels + sum_of labels_in is) us (omega arith) each.1)

pub labels_are_there : LabelsAreThere
labels_are_there us accepted = let ns = named_units us in
    units_labelled (meaning_of us) 0 0 0 us (let many : length (meaning_of us).datums ≡ all_datums ns = datums_length (program_of ns) ns in omega arith)
    (each_short ns [] 0 ns (names_kept ns (unbroken us accepted).nowhere))
