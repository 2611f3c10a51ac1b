-- A name is exported by a label of its unit at most, so labels have at most as many names to be exported under as units export.
use Rattle.std.proofs.Common.{◌≡◌, ℕ, ◌+◌, ◌≤◌, refl, sym, ap, ◌∙◌, subst, Bool, true, false, cond, List, [], ◌∷◌, ◌++◌, Option, Some, None, arith, length, length-append}
use Rattle.std.specs.Prelude.{bytes_eq, filter, flat_map, map, sum_by}
use Rattle.std.proofs.lemmas.Bool.Decides.{nat_tests}
use Rattle.std.proofs.lemmas.List.Sums.{sum_by-append}
use Rattle.std.proofs.lemmas.Slice.Eq.{bytes_eq-Decides}
use Rattle.cmm_ast.specs.declared.declaration.Export.{Export}
use Rattle.cmm_ast.specs.declared.unit.DatumForm.{DatumForm}
use Rattle.cmm_ast.specs.declared.unit.DatumForm.TheVariants as data_forms
use Rattle.cmm_ast.specs.declared.unit.Item.{Item}
use Rattle.cmm_ast.specs.declared.unit.Item.TheVariants as items
use Rattle.cmm_ast.specs.declared.unit.TopLevel.{TopLevel}
use Rattle.cmm_ast.specs.declared.unit.Unit.{Unit as UnitTree}
use Rattle.cmm_program.specs.declared.program.Label.{Label}
use Rattle.cmm_static_semantics.specs.Faults.{AreAccepted, each_unit, name_spots}
use Rattle.cmm_static_semantics.specs.Items.{Within, items_of, top_items}
use Rattle.cmm_static_semantics.specs.Declarations.{Declared, NamedUnit, again, datum_entries, entries_from, found, item_entries, labels_in, named_units, procs_in, sum_of, units_from}
use Rattle.cmm_static_semantics.specs.Linking.{export_link, exports_of, item_exports}
use Rattle.cmm_static_semantics.specs.Senses.{is_there}
use Rattle.cmm_elaboration.specs.Data.{datums_among, datums_in, item_labels, links_of, section_labels, unit_labels}
use Rattle.cmm_elaboration.specs.Meaning.{labels_from}
use Rattle.cmm_elaboration.proofs.Entries.{EachUnit, counted_in, sum_append}
use Rattle.cmm_elaboration.proofs.Naming.{again_head, again_tail}
use Rattle.cmm_elaboration.proofs.Nothing.{first_unit, names_kept, no_left, other_units, unbroken}

abbrev bit : Bool → ℕ
bit b = elim b [ true ↦ 1 | false ↦ 0 ]

-- ---- a name among declarations none of which is declared again

abbrev matches : {A : Type 0} → List ℕ → List (Declared A) → ℕ
matches x [] = 0
matches x (d ∷ ds) = bit (bytes_eq x d.name.name) + matches x ds

same_of : (x y : List ℕ) → bytes_eq x y ≡ true → x ≡ y
same_of x y is = grind (arith, nat_tests, bytes_eq-Decides x y)

there_more : {A : Type 0} (x : List ℕ) (ds es : List (Declared A)) → is_there (found x ds) ≡ true → is_there (found x (ds ++ es)) ≡ true
there_more x [] es there = absurd (let bad : false ≡ true = there in cc)
there_more {A = A} x (d ∷ ds) es there = by (bytes_eq x d.name.name) (there_more x ds es) there
  where
    by : (b : Bool) → (is_there (found x ds) ≡ true → is_there (found x (ds ++ es)) ≡ true) →
        is_there (elim b as (λ _. Option A) [ true ↦ Some d.as_what | false ↦ found x ds ]) ≡ true →
        is_there (elim b as (λ _. Option A) [ true ↦ Some d.as_what | false ↦ found x (ds ++ es) ]) ≡ true
    by true later there = refl
    by false later there = later there

there_last : {A : Type 0} (x : List ℕ) (ds : List (Declared A)) (d : Declared A) → bytes_eq x d.name.name ≡ true → is_there (found x (ds ++ d ∷ [])) ≡ true
there_last {A = A} x [] d same = ap (λ b. is_there (elim b as (λ _. Option A) [ true ↦ Some d.as_what | false ↦ None ])) same
there_last {A = A} x (e ∷ ds) d same = by (bytes_eq x e.name.name) (there_last x ds d same)
  where
    by : (b : Bool) → is_there (found x (ds ++ d ∷ [])) ≡ true → is_there (elim b as (λ _. Option A) [ true ↦ Some e.as_what | false ↦ found x (ds ++ d ∷ []) ]) ≡ true
    by true later = refl
    by false later = later

matches_none : {A : Type 0} (x : List ℕ) (earlier ds : List (Declared A)) → again earlier ds ≡ [] → is_there (found x earlier) ≡ true → matches x ds ≡ 0
matches_none x earlier [] once there = refl
matches_none x earlier (d ∷ ds) once there =
    by (bytes_eq x d.name.name) refl (matches_none x (earlier ++ d ∷ []) ds (again_tail earlier d ds once) (there_more x earlier (d ∷ []) there))
  where
    by : (b : Bool) → bytes_eq x d.name.name ≡ b → matches x ds ≡ 0 → bit b + matches x ds ≡ 0
    by true is later =
        let none : found x earlier ≡ None = ap (λ y. found y earlier) (same_of x d.name.name is) ∙ again_head earlier d ds once in
        absurd (let bad : false ≡ true = sym (ap is_there none) ∙ there in cc)
    by false is later = omega (arith, later)

matches_few : {A : Type 0} (x : List ℕ) (earlier ds : List (Declared A)) → again earlier ds ≡ [] → matches x ds ≤ 1
matches_few x earlier [] once = omega arith
matches_few x earlier (d ∷ ds) once = by (bytes_eq x d.name.name) refl (matches_few x (earlier ++ d ∷ []) ds (again_tail earlier d ds once))
  where
    by : (b : Bool) → bytes_eq x d.name.name ≡ b → matches x ds ≤ 1 → bit b + matches x ds ≤ 1
    by true is later = omega (arith, matches_none x (earlier ++ d ∷ []) ds (again_tail earlier d ds once) (there_last x earlier d is))
    by false is later = omega (arith, later)

matches_append : {A : Type 0} (x : List ℕ) (ds es : List (Declared A)) → matches x (ds ++ es) ≡ matches x ds + matches x es
matches_append x [] es = omega arith
matches_append x (d ∷ ds) es = omega (arith, matches_append x ds es)

-- ---- a name among the data labels of a unit

abbrev form_hits : List ℕ → DatumForm → ℕ
form_hits x (data_forms.Label name) = bit (bytes_eq x name.name)
form_hits x _ = 0

abbrev item_hits : List ℕ → Item → ℕ
item_hits x (items.Datum d) = form_hits x d.form
item_hits x _ = 0

form_matches : (x : List ℕ) (labels : ℕ) (form : DatumForm) → form_hits x form ≤ matches x (datum_entries labels form)
form_matches x labels (data_forms.Label name) = omega arith
form_matches x labels (data_forms.Align k) = omega arith
form_matches x labels (data_forms.Data t n i) = omega arith

item_matches : (x : List ℕ) (procs labels : ℕ) (i : Item) → item_hits x i ≤ matches x (item_entries procs labels i)
item_matches x procs labels (items.Decl d) = omega arith
item_matches x procs labels (items.Proc p) = omega arith
item_matches x procs labels (items.Datum d) = form_matches x labels d.form
item_matches x procs labels (items.Span' first key value size inner) = omega arith

hits_match : (x : List ℕ) (procs labels : ℕ) (is : List (Within Item)) → sum_of (item_hits x) is ≤ matches x (entries_from procs labels is)
hits_match x procs labels [] = omega arith
hits_match x procs labels (i ∷ is) =
    let more = entries_from (procs + procs_in i.what) (labels + labels_in i.what) is in
    omega (
      arith,
      item_matches x procs labels i.what,
      matches_append x (item_entries procs labels i.what) more,
      hits_match x (procs + procs_in i.what) (labels + labels_in i.what) is,
    )

-- ---- the names under which labels are exported

abbrev pub links : List Label → ℕ
links ls = sum_by (λ l. length l.links) ls

abbrev exported_as : List Export → List ℕ → List Export
exported_as es name = filter (λ e. bytes_eq e.name.name name) es

links_more : (e : Export) (es : List Export) (name : List ℕ) → length (links_of (e ∷ es) name) ≡ bit (bytes_eq e.name.name name) + length (links_of es name)
links_more e es name = by (bytes_eq e.name.name name)
  where
    by : (b : Bool) → length (map export_link (cond b (e ∷ exported_as es name) (exported_as es name))) ≡ bit b + length (map export_link (exported_as es name))
    by true = omega arith
    by false = omega arith

form_more : (e : Export) (es : List Export) (number : ℕ) (form : DatumForm) (token : ℕ) (rest : List (Within Item)) →
    links (item_labels (e ∷ es) number (items.Datum record { token = token; form = form }) rest)
    ≡ form_hits e.name.name form + links (item_labels es number (items.Datum record { token = token; form = form }) rest)
form_more e es number (data_forms.Label name) token rest = omega (arith, links_more e es name.name)
form_more e es number (data_forms.Align k) token rest = refl
form_more e es number (data_forms.Data t n i) token rest = refl

item_more : (e : Export) (es : List Export) (number : ℕ) (i : Item) (rest : List (Within Item)) →
    links (item_labels (e ∷ es) number i rest) ≡ item_hits e.name.name i + links (item_labels es number i rest)
item_more e es number (items.Decl d) rest = refl
item_more e es number (items.Proc p) rest = refl
item_more e es number (items.Datum d) rest = form_more e es number d.form d.token rest
item_more e es number (items.Span' first key value size inner) rest = refl

abbrev count : Label → ℕ
count l = length l.links

section_more : (e : Export) (es : List Export) (number : ℕ) (is : List (Within Item)) →
    links (section_labels (e ∷ es) number is) ≡ sum_of (item_hits e.name.name) is + links (section_labels es number is)
section_more e es number [] = refl
section_more e es number (i ∷ is) =
    omega (
      arith,
      sum_by-append count (item_labels (e ∷ es) number i.what is) (section_labels (e ∷ es) (number + datums_in i.what) is),
      sum_by-append count (item_labels es number i.what is) (section_labels es (number + datums_in i.what) is),
      item_more e es number i.what is,
      section_more e es (number + datums_in i.what) is,
    )

unit_more : (e : Export) (es : List Export) (number : ℕ) (ts : List TopLevel) →
    links (unit_labels (e ∷ es) number ts) ≡ sum_of (item_hits e.name.name) (flat_map top_items ts) + links (unit_labels es number ts)
unit_more e es number [] = refl
unit_more e es number (t ∷ ts) =
    let here = top_items t in
    omega (
      arith,
      sum_by-append count (section_labels (e ∷ es) number here) (unit_labels (e ∷ es) (number + datums_among here) ts),
      sum_by-append count (section_labels es number here) (unit_labels es (number + datums_among here) ts),
      section_more e es number here,
      unit_more e es (number + datums_among here) ts,
      sum_append (item_hits e.name.name) here (flat_map top_items ts),
    )

-- where nothing is exported
form_none : (number : ℕ) (form : DatumForm) (token : ℕ) (rest : List (Within Item)) → links (item_labels [] number (items.Datum record { token = token; form = form }) rest) ≡ 0
form_none number (data_forms.Label name) token rest = refl
form_none number (data_forms.Align k) token rest = refl
form_none number (data_forms.Data t n i) token rest = refl

item_none : (number : ℕ) (i : Item) (rest : List (Within Item)) → links (item_labels [] number i rest) ≡ 0
item_none number (items.Decl d) rest = refl
item_none number (items.Proc p) rest = refl
item_none number (items.Datum d) rest = form_none number d.form d.token rest
item_none number (items.Span' first key value size inner) rest = refl

section_none : (number : ℕ) (is : List (Within Item)) → links (section_labels [] number is) ≡ 0
section_none number [] = refl
section_none number (i ∷ is) =
    omega (
      arith,
      sum_by-append count (item_labels [] number i.what is) (section_labels [] (number + datums_in i.what) is),
      item_none number i.what is,
      section_none (number + datums_in i.what) is,
    )

unit_none : (number : ℕ) (ts : List TopLevel) → links (unit_labels [] number ts) ≡ 0
unit_none number [] = refl
unit_none number (t ∷ ts) =
    omega (
      arith,
      sum_by-append count (section_labels [] number (top_items t)) (unit_labels [] (number + datums_among (top_items t)) ts),
      section_none number (top_items t),
      unit_none (number + datums_among (top_items t)) ts,
    )

unit_few : (es : List Export) (number : ℕ) (ts : List TopLevel) → ((x : List ℕ) → sum_of (item_hits x) (flat_map top_items ts) ≤ 1) → links (unit_labels es number ts) ≤ length es
unit_few [] number ts once = omega (arith, unit_none number ts)
unit_few (e ∷ es) number ts once = omega (arith, unit_more e es number ts, once e.name.name, unit_few es number ts once)

-- ---- all units

-- how many exports stand in an item
abbrev pub export_count : Item → ℕ
export_count i = length (item_exports i)

exports_count : (is : List (Within Item)) → length (flat_map (λ i. item_exports i.what) is) ≡ sum_of export_count is
exports_count [] = refl
exports_count (i ∷ is) =
    omega (arith, length-append (item_exports i.what) (flat_map (λ (i : Within Item). item_exports i.what) is), exports_count is)

units_few : (number procs before : ℕ) (us : List UnitTree) → EachUnit (λ u. again [] u.entries ≡ []) (units_from procs before us) →
    links (labels_from number (units_from procs before us)) ≤ counted_in export_count (units_from procs before us)
units_few number procs before [] each = omega arith
units_few number procs before (u ∷ us) each =
    let is = items_of u in
    let es = exports_of record { tree = u; items = is; entries = entries_from procs before is } in
    let rest = units_from (procs + sum_of procs_in is) (before + sum_of labels_in is) us in
    let once : (x : List ℕ) → sum_of (item_hits x) is ≤ 1 = λ x. omega (arith, hits_match x procs before is, matches_few x [] (entries_from procs before is) each.0) in
    omega (
      arith,
      sum_by-append count (unit_labels es number u.parts) (labels_from (number + datums_among is) rest),
      unit_few es number u.parts once,
      exports_count is,
      units_few (number + datums_among is) (procs + sum_of procs_in is) (before + sum_of labels_in is) us each.1,
    )

each_once : (all earlier : List NamedUnit) (number : ℕ) (us : List NamedUnit) → each_unit (name_spots all) earlier number us ≡ [] → EachUnit (λ u. again [] u.entries ≡ []) us
each_once all earlier number [] none = tt
each_once all earlier number (u ∷ us) none = (
  no_left _ _ (no_left _ _ (no_left _ _ (no_left _ _ (no_left _ _ (no_left _ _ (first_unit (name_spots all) earlier number u us none)))))),
  each_once all (earlier ++ u ∷ []) (number + 1) us (subst (λ n. each_unit (name_spots all) (earlier ++ u ∷ []) n us ≡ []) (omega arith) (other_units (name_spots all) earlier number u us none)),
)

-- labels have at most as many names to be exported under as units export
pub links_few : (us : List UnitTree) → AreAccepted us → links (labels_from 0 (named_units us)) ≤ counted_in export_count (named_units us)
links_few us accepted =
    let ns = named_units us in units_few 0 0 0 us (each_once ns [] 0 ns (names_kept ns (unbroken us accepted).nowhere))
