-- What accepted units declare has names of at most 255 bytes, so the registers of their program have. The registers of any units are in the order of their names.
use Rattle.std.proofs.Common.{◌≡◌, ℕ, ◌+◌, refl, sym, ap, subst, ◌∙◌, Bool, true, false, List, [], ◌∷◌, ◌++◌}
use Rattle.std.specs.Prelude.{map, flat_map, ◌||◌}
use Rattle.std.specs.List.{AllByRecursion, list_all}
use Rattle.std.specs.List.Sorted.{IsStrictlySortedBy}
use Rattle.std.specs.Cmp.Lexicographic.{slice_cmp}
use Rattle.std.specs.Ordering.{nat_cmp}
use Rattle.std.proofs.lemmas.Bool.{and_parts, and_from}
use Rattle.std.proofs.lemmas.List.{map-append}
use Rattle.std.proofs.lemmas.List.Folds.{list_all-append}
use Rattle.cmm_ast.specs.declared.token.Ident.{Ident}
use Rattle.cmm_ast.specs.declared.declaration.DeclForm.{DeclForm}
use Rattle.cmm_ast.specs.declared.declaration.DeclForm.TheVariants as decls
use Rattle.cmm_ast.specs.declared.declaration.Import.{Import as ImportTree}
use Rattle.cmm_ast.specs.declared.unit.DatumForm.{DatumForm}
use Rattle.cmm_ast.specs.declared.unit.DatumForm.TheVariants as data_forms
use Rattle.cmm_ast.specs.declared.unit.Item.{Item}
use Rattle.cmm_ast.specs.declared.unit.Item.TheVariants as items
use Rattle.cmm_ast.specs.declared.unit.Unit.{Unit as UnitTree}
use Rattle.cmm_program.specs.InRange.{is_name}
use Rattle.cmm_static_semantics.specs.Senses.{is_there, is_host}
use Rattle.cmm_static_semantics.specs.Items.{Within, items_of, parts_of}
use Rattle.cmm_static_semantics.specs.Mentions.{listed, type_names}
use Rattle.cmm_static_semantics.specs.LongNames.{of_text, of_expr, of_formal, of_part, of_item, names_in}
use Rattle.cmm_static_semantics.specs.Declarations.{Declared, Entry, Typedef, Const, Register, Import, DataLabel, Procedure, NamedUnit, named_units, units_from, each_as, import_entry, decl_entries, datum_entries, found, firsts, item_entries, entries_from, procs_in, labels_in, sum_of}
use Rattle.cmm_static_semantics.specs.Linking.{register_entry, registers_of, register_names}
use Rattle.cmm_static_semantics.proofs.Shared.{all_in_order, in_order_ascends}
use Rattle.cmm_elaboration.specs.Meaning.{global_of}
use Rattle.cmm_elaboration.specs.Laws.{RegisterNamesAreShort, RegistersAscend}
use Rattle.cmm_elaboration.proofs.Nothing.{unbroken, names_kept}
use Rattle.cmm_elaboration.proofs.Entries.{EachUnit}
use Rattle.cmm_elaboration.proofs.Short.{Short, short_left, short_right, short_first, short_rest, each_short}

-- ---- what a unit declares

abbrev NamedShort : List (Declared Entry) → Type 0
NamedShort ds = list_all (λ d. is_name d.name.name) ds ≡ true

all_named : (e : Entry) (is : List Ident) → Short is → NamedShort (each_as e is)
all_named e [] h = refl
all_named e (i ∷ is) h = and_from (is_name i.name) _ (short_first i is h) (all_named e is (short_rest i is h))

imports_named : (is : List ImportTree) → Short (map (λ i. i.name) is) → NamedShort (map import_entry is)
imports_named [] h = refl
imports_named (i ∷ is) h =
    and_from (is_name i.name.name) _ (short_first i.name (map (λ j. j.name) is) h) (imports_named is (short_rest i.name (map (λ j. j.name) is) h))

decl_named : (form : DeclForm) (token : ℕ) → Short (of_item (items.Decl record { token = token; form = form })) → NamedShort (decl_entries form)
decl_named (decls.Import width imports) token h = imports_named imports (short_right (flat_map type_names (listed width)) (map (λ i. i.name) imports) h)
decl_named (decls.Export width exports) token h = refl
decl_named (decls.Const width name value) token h =
    and_from (is_name name.name) true (short_first name (of_expr value) (short_right (flat_map type_names (listed width)) (name ∷ of_expr value) h)) refl
decl_named (decls.Typedef width names) token h = all_named (Typedef width) names (short_right (type_names width) names h)
decl_named (decls.Register invariant kind width names) token h =
    all_named (Register width) names (short_right (map of_text (listed kind) ++ type_names width) names h)
decl_named (decls.Target properties) token h = refl

datum_named : (labels : ℕ) (form : DatumForm) (token : ℕ) → Short (of_item (items.Datum record { token = token; form = form })) → NamedShort (datum_entries labels form)
datum_named labels (data_forms.Label name) token h = and_from (is_name name.name) true (short_first name [] h) refl
datum_named labels (data_forms.Align k) token h = refl
datum_named labels (data_forms.Data width count initial) token h = refl

item_named : (procs labels : ℕ) (i : Item) → Short (of_item i) → NamedShort (item_entries procs labels i)
item_named procs labels (items.Decl d) h = decl_named d.form d.token h
item_named procs labels (items.Proc p) h =
    and_from (is_name p.name.name) true (short_first p.name (flat_map of_formal p.formals ++ flat_map of_part (parts_of p.body)) h) refl
item_named procs labels (items.Datum d) h = datum_named labels d.form d.token h
item_named procs labels (items.Span' first key value size inside) h = refl

entries_named : (procs labels : ℕ) (is : List (Within Item)) → Short (names_in is) → NamedShort (entries_from procs labels is)
entries_named procs labels [] h = refl
entries_named procs labels (i ∷ is) h =
    list_all-append (λ d. is_name d.name.name) (item_entries procs labels i.what) (entries_from (procs + procs_in i.what) (labels + labels_in i.what) is)
    ∙ and_from (list_all (λ d. is_name d.name.name) (item_entries procs labels i.what)) _ (item_named procs labels i.what (short_left (of_item i.what) (names_in is) h))
    (entries_named (procs + procs_in i.what) (labels + labels_in i.what) is (short_right (of_item i.what) (names_in is) h))

-- ---- its registers

kept_named : (known : Bool) (d : Declared Entry) (skip next : List (Declared Entry)) → is_name d.name.name ≡ true → NamedShort skip → NamedShort next →
    NamedShort (elim known as (λ b. List (Declared Entry)) [ true ↦ skip | false ↦ d ∷ next ])
kept_named true d skip next h a b = a
kept_named false d skip next h a b = and_from (is_name d.name.name) _ h b

firsts_named : (earlier ds : List (Declared Entry)) → NamedShort ds → NamedShort (firsts earlier ds)
firsts_named earlier [] h = refl
firsts_named earlier (d ∷ ds) h = let both = and_parts (is_name d.name.name) (list_all (λ x. is_name x.name.name) ds) h in
    kept_named (is_host d.name.name || is_there (found d.name.name earlier)) d (firsts earlier ds) (firsts (earlier ++ d ∷ []) ds) both.0
    (firsts_named earlier ds both.1) (firsts_named (earlier ++ d ∷ []) ds both.1)

abbrev AllShort : List (List ℕ) → Type 0
AllShort names = AllByRecursion (λ n. is_name n ≡ true) names

both_short : (xs ys : List (List ℕ)) → AllShort xs → AllShort ys → AllShort (xs ++ ys)
both_short [] ys h k = k
both_short (x ∷ xs) ys h k = (h.0, both_short xs ys h.1 k)

entry_short : (i : Ident) (e : Entry) → is_name i.name ≡ true → AllShort (map (λ d. d.name.name) (register_entry record { name = i; as_what = e }))
entry_short i (Register t) h = (h, tt)
entry_short i (Typedef t) h = tt
entry_short i (Const t x) h = tt
entry_short i (Import link) h = tt
entry_short i (DataLabel n) h = tt
entry_short i (Procedure n p) h = tt

registers_short : (ds : List (Declared Entry)) → NamedShort ds → AllShort (map (λ d. d.name.name) (flat_map register_entry ds))
registers_short [] h = tt
registers_short (d ∷ ds) h = let both = and_parts (is_name d.name.name) (list_all (λ x. is_name x.name.name) ds) h in
    subst AllShort (sym (map-append (λ x. x.name.name) (register_entry d) (flat_map register_entry ds)))
    (both_short (map (λ x. x.name.name) (register_entry d)) (map (λ x. x.name.name) (flat_map register_entry ds)) (entry_short d.name d.as_what both.0) (registers_short ds both.1))

units_short : (procs labels : ℕ) (us : List UnitTree) → EachUnit (λ u. Short (names_in u.items)) (units_from procs labels us) →
    AllShort (flat_map (λ u. map (λ d. d.name.name) (registers_of u)) (units_from procs labels us))
units_short procs labels [] each = tt
units_short procs labels (u ∷ us) each =
    let is = items_of u in let named : NamedUnit = record { tree = u; items = is; entries = entries_from procs labels is } in
    both_short (map (λ d. d.name.name) (registers_of named)) _ (registers_short (firsts [] named.entries) (firsts_named [] named.entries (entries_named procs labels is each.0)))
    (units_short (procs + sum_of procs_in is) (labels + sum_of labels_in is) us each.1)

globals_short : (us : List NamedUnit) (ns : List (List ℕ)) → AllShort ns → list_all (λ g. is_name g.name) (map (global_of us) ns) ≡ true
globals_short us [] h = refl
globals_short us (n ∷ ns) h = and_from (is_name n) _ h.0 (globals_short us ns h.1)

pub register_names_are_short : RegisterNamesAreShort
register_names_are_short us accepted = let ns = named_units us in
    globals_short ns (register_names ns) (all_in_order (λ n. is_name n ≡ true) (flat_map (λ u. map (λ d. d.name.name) (registers_of u)) ns)
    (units_short 0 0 us (each_short ns [] 0 ns (names_kept ns (unbroken us accepted).nowhere))))

-- ---- their order

names_of_globals : (us : List NamedUnit) (ns : List (List ℕ)) → map (λ g. g.name) (map (global_of us) ns) ≡ ns
names_of_globals us [] = refl
names_of_globals us (n ∷ ns) = ap (λ t. n ∷ t) (names_of_globals us ns)

pub registers_ascend : RegistersAscend
registers_ascend us = let ns = named_units us in
    subst (IsStrictlySortedBy (slice_cmp nat_cmp)) (sym (names_of_globals ns (register_names ns)))
    (in_order_ascends (flat_map (λ u. map (λ d. d.name.name) (registers_of u)) ns))
