-- The data of accepted units takes at most 64 MiB, from where data begins.
use Rattle.std.proofs.Common.{◌≡◌, ℕ, ◌+◌, ◌≤◌, refl, sym, ap, ◌∙◌, subst, true, List, [], ◌∷◌, ◌++◌, arith, length, take}
use Rattle.std.specs.Prelude.{map, flat_map}
use Rattle.std.proofs.lemmas.Bool.{and_parts, leb-true}
use Rattle.std.proofs.lemmas.List.{map-append, length-map, take_all}
use Rattle.cmm_ast.specs.declared.unit.DatumForm.{DatumForm}
use Rattle.cmm_ast.specs.declared.unit.DatumForm.TheVariants as data_forms
use Rattle.cmm_ast.specs.declared.unit.Item.{Item}
use Rattle.cmm_ast.specs.declared.unit.Item.TheVariants as items
use Rattle.cmm_program.specs.Layout.{Piece, aligned_up, end_of, datum_piece}
use Rattle.cmm_program.specs.Typing.{is_alignment}
use Rattle.cmm_static_semantics.specs.Senses.{Senses}
use Rattle.cmm_static_semantics.specs.Items.{Within}
use Rattle.cmm_static_semantics.specs.Declarations.{NamedUnit, named_units}
use Rattle.cmm_static_semantics.specs.Linking.{Program as Linked, program_of}
use Rattle.cmm_static_semantics.specs.Limits.{datum_pieces, item_pieces, data_pieces}
use Rattle.cmm_static_semantics.specs.Scopes.{unit_senses}
use Rattle.cmm_static_semantics.specs.Judging.{if_ok}
use Rattle.cmm_static_semantics.specs.Typing.{type_width}
use Rattle.cmm_elaboration.specs.Data.{form_datums, item_datums}
use Rattle.cmm_elaboration.specs.Meaning.{unit_datums, meaning_of}
use Rattle.cmm_elaboration.specs.Laws.{DataFits}
use Rattle.cmm_elaboration.proofs.Aligning.{up_behind}
use Rattle.cmm_elaboration.proofs.Keeping.{own_alignment, bytes_alignment}
use Rattle.cmm_elaboration.proofs.Nothing.{unbroken}

-- ---- the datums of a program are the pieces that its limit is on

datum_is : (names : Senses) (form : DatumForm) → map datum_piece (form_datums names form) ≡ datum_pieces names form
datum_is names (data_forms.Label name) = refl
datum_is names (data_forms.Align k) = refl
datum_is names (data_forms.Data t count initial) = refl

item_is : (names : Senses) (i : Item) → map datum_piece (item_datums names i) ≡ item_pieces names i
item_is names (items.Decl d) = refl
item_is names (items.Proc p) = refl
item_is names (items.Datum d) = datum_is names d.form
item_is names (items.Span' first key value size inside) = refl

items_are : (names : Senses) (is : List (Within Item)) → map datum_piece (flat_map (λ i. item_datums names i.what) is) ≡ flat_map (λ i. item_pieces names i.what) is
items_are names [] = refl
items_are names (i ∷ is) = let rest = flat_map (λ j. item_datums names j.what) is in
    map-append datum_piece (item_datums names i.what) rest ∙ ap (λ xs. xs ++ map datum_piece rest) (item_is names i.what)
    ∙ ap (λ ys. item_pieces names i.what ++ ys) (items_are names is)

pieces_are : (program : Linked) (us : List NamedUnit) → map datum_piece (flat_map (unit_datums program) us) ≡ data_pieces program us
pieces_are program [] = refl
pieces_are program (u ∷ us) = let rest = flat_map (unit_datums program) us in
    map-append datum_piece (unit_datums program u) rest ∙ ap (λ xs. xs ++ map datum_piece rest) (items_are (unit_senses program u.entries) u.items)
    ∙ ap (λ ys. flat_map (λ i. item_pieces (unit_senses program u.entries) i.what) u.items ++ ys) (pieces_are program us)

-- ---- they have alignments of the language

abbrev AreAligned : List Piece → Type 0
AreAligned [] = Unit {0}
AreAligned (p ∷ ps) = (is_alignment p.align ≡ true) × AreAligned ps

aligned_append : (xs ys : List Piece) → AreAligned xs → AreAligned ys → AreAligned (xs ++ ys)
aligned_append [] ys h k = k
aligned_append (x ∷ xs) ys h k = (h.0, aligned_append xs ys h.1 k)

datum_aligned : (names : Senses) (form : DatumForm) → AreAligned (datum_pieces names form)
datum_aligned names (data_forms.Label name) = tt
datum_aligned names (data_forms.Align k) = (own_alignment (is_alignment k.value) k.value refl, tt)
datum_aligned names (data_forms.Data t count initial) = (bytes_alignment (if_ok (type_width names t)), tt)

item_aligned : (names : Senses) (i : Item) → AreAligned (item_pieces names i)
item_aligned names (items.Decl d) = tt
item_aligned names (items.Proc p) = tt
item_aligned names (items.Datum d) = datum_aligned names d.form
item_aligned names (items.Span' first key value size inside) = tt

items_aligned : (names : Senses) (is : List (Within Item)) → AreAligned (flat_map (λ i. item_pieces names i.what) is)
items_aligned names [] = tt
items_aligned names (i ∷ is) = aligned_append (item_pieces names i.what) (flat_map (λ j. item_pieces names j.what) is) (item_aligned names i.what) (items_aligned names is)

pieces_aligned : (program : Linked) (us : List NamedUnit) → AreAligned (data_pieces program us)
pieces_aligned program [] = tt
pieces_aligned program (u ∷ us) =
    aligned_append (flat_map (λ i. item_pieces (unit_senses program u.entries) i.what) u.items) (data_pieces program us) (items_aligned (unit_senses program u.entries) u.items)
    (pieces_aligned program us)

-- ---- so they end as far behind where data begins as they do behind 0

ends_behind : (place : ℕ) (ps : List Piece) → AreAligned ps → end_of (1073741824 + place) ps ≡ 1073741824 + end_of place ps
ends_behind place [] h = refl
ends_behind place (p ∷ ps) h =
    ap (λ n. end_of (n + p.length) ps) (up_behind p.align place h.0)
    ∙ ap (λ n. end_of n ps) (let e : 1073741824 + aligned_up p.align place + p.length ≡ 1073741824 + (aligned_up p.align place + p.length) = omega arith in e)
    ∙ ends_behind (aligned_up p.align place + p.length) ps h.1

pub data_fits : DataFits
data_fits us accepted =
    let ns = named_units us in let program = program_of ns in let p = meaning_of us in
    let whole : take (length p.datums) (map datum_piece p.datums) ≡ data_pieces program ns =
    take_all (length p.datums) (map datum_piece p.datums) (let e : length (map datum_piece p.datums) ≡ length p.datums = length-map p.datums datum_piece in omega arith) ∙ pieces_are program ns in
    let sums = (unbroken us accepted).sums in
    let few : end_of 0 (data_pieces program ns) ≤ 67108864 = leb-true (end_of 0 (data_pieces program ns)) 67108864 (and_parts _ _ (and_parts _ _ (and_parts _ _ (and_parts _ _ sums).0).0).0).1 in
    let ends : end_of (1073741824 + 0) (data_pieces program ns) ≡ 1073741824 + end_of 0 (data_pieces program ns) = ends_behind 0 (data_pieces program ns) (pieces_aligned program ns) in
    let within : end_of 1073741824 (data_pieces program ns) ≤ 1073741824 + 67108864 = omega arith in
    subst (λ ps. end_of 1073741824 ps ≤ 1073741824 + 67108864) (sym whole) within
