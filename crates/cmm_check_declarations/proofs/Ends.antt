-- Where data ends: more of it never ends sooner.
use Rattle.std.proofs.Common.{◌≡◌, ℕ, ◌+◌, ◌<◌, ◌≤◌, suc, length, map, take, drop, get_or, refl, ap, sym, ◌∙◌, subst, true, false, Bool, List, [], ◌∷◌, ◌++◌, Option, Some, None, arith}
use Rattle.std.specs.Prelude.{zero, flat_map}
use Rattle.std.specs.Option.{SomeIff}
use Rattle.std.proofs.lemmas.List.{take-append-drop, map-append}
use Rattle.std.proofs.lemmas.Grind.{flat_map-append}
use Rattle.std.proofs.lemmas.List.Folds.{flat_map-map}
use Rattle.cmm_words.specs.declared.width.Width.{Width}
use Rattle.cmm_words.specs.declared.width.Width.TheVariants.{W8, W16, W32, W64}
use Rattle.cmm_words.specs.Widths.{bytes}
use Rattle.cmm_ast.specs.declared.expression.TypeName.{TypeName}
use Rattle.cmm_ast.specs.declared.unit.Item.{Item}
use Rattle.cmm_ast.specs.declared.unit.Item.TheVariants as items
use Rattle.cmm_ast.specs.declared.unit.DatumForm.{DatumForm}
use Rattle.cmm_ast.specs.declared.unit.DatumForm.TheVariants as data_forms
use Rattle.cmm_program.specs.Layout.{Piece, aligned_up, end_of}
use Rattle.cmm_program.specs.Typing.{is_alignment}
use Rattle.cmm_program.proofs.Shared.{aligned_up-grows}
use Rattle.cmm_static_semantics.specs.Senses.{Senses}
use Rattle.cmm_static_semantics.specs.Judging.{if_ok}
use Rattle.cmm_static_semantics.specs.Typing.{type_width}
use Rattle.cmm_static_semantics.specs.Limits.{align_piece, bytes_of, data_pieces, datum_pieces, item_pieces}
use Rattle.cmm_static_semantics.specs.Items.{Within}
use Rattle.cmm_static_semantics.specs.Declarations.{NamedUnit}
use Rattle.cmm_static_semantics.specs.Linking.{Program}
use Rattle.cmm_static_semantics.specs.Scopes.{unit_senses}
use Rattle.cmm_symbols.specs.Shown.{whats}
use Rattle.cmm_static_semantics.proofs.Shared.{flat_next}
use Rattle.cmm_check_declarations.specs.DataEnds.{data_of}

-- ---- sizes and alignments

width_bounds : (o : Option Width) → (0 < elim o [ Some width ↦ bytes width | None ↦ 1 ]) × (elim o [ Some width ↦ bytes width | None ↦ 1 ] ≤ 16)
width_bounds None = (omega arith, omega arith)
width_bounds (Some W8) = (omega arith, omega arith)
width_bounds (Some W16) = (omega arith, omega arith)
width_bounds (Some W32) = (omega arith, omega arith)
width_bounds (Some W64) = (omega arith, omega arith)

pub bytes_bounds : (names : Senses) (t : TypeName) → (0 < bytes_of names t) × (bytes_of names t ≤ 16)
bytes_bounds names t = width_bounds (if_ok (type_width names t))

-- ---- pieces

pub end_append : (place : ℕ) (ps qs : List Piece) → end_of place (ps ++ qs) ≡ end_of (end_of place ps) qs
end_append place [] qs = refl
end_append place (p ∷ ps) qs = end_append (aligned_up p.align place + p.length) ps qs

one_grows : (place : ℕ) (p : Piece) → 0 < p.align → place ≤ end_of place (p ∷ [])
one_grows place p aligned = omega (arith, aligned_up-grows p.align place aligned)

pub aligned_by : (b : Bool) (k : ℕ) → is_alignment k ≡ b → 0 < elim b [ true ↦ k | false ↦ 1 ]
aligned_by true zero is = absurd cc
aligned_by true (suc k) is = omega arith
aligned_by false k is = omega arith

datum_grows : (names : Senses) (place : ℕ) (f : DatumForm) → place ≤ end_of place (datum_pieces names f)
datum_grows names place (data_forms.Label name) = omega arith
datum_grows names place (data_forms.Align k) = one_grows place (align_piece k.value) (aligned_by (is_alignment k.value) k.value refl)
datum_grows names place (data_forms.Data width count initial) = one_grows place _ (bytes_bounds names width).0

item_grows : (names : Senses) (place : ℕ) (i : Item) → place ≤ end_of place (item_pieces names i)
item_grows names place (items.Datum d) = datum_grows names place d.form
item_grows names place (items.Decl d) = omega arith
item_grows names place (items.Proc p) = omega arith
item_grows names place (items.Span' first key value _ inside) = omega arith

-- ---- what stands in a unit

pub data_append : (names : Senses) (place : ℕ) (xs ys : List Item) → end_of place (data_of names (xs ++ ys)) ≡ end_of (end_of place (data_of names xs)) (data_of names ys)
data_append names place xs ys = ap (end_of place) (flat_map-append (item_pieces names) xs ys) ∙ end_append place (data_of names xs) (data_of names ys)

pub data_grows : (names : Senses) (place : ℕ) (xs : List Item) → place ≤ end_of place (data_of names xs)
data_grows names place [] = omega arith
data_grows names place (x ∷ xs) =
    omega (
      arith,
      end_append place (item_pieces names x) (data_of names xs),
      item_grows names place x,
      data_grows names (end_of place (item_pieces names x)) xs,
    )

-- the data of all units, one after another
unit_data : (program : Program) (u : NamedUnit) → flat_map (λ (i : Within Item). item_pieces (unit_senses program u.entries) i.what) u.items ≡ data_of (unit_senses program u.entries) (whats u.items)
unit_data program u = sym (flat_map-map (item_pieces (unit_senses program u.entries)) (λ (i : Within Item). i.what) u.items)

pub units_next : (program : Program) (place : ℕ) (u : NamedUnit) (us : List NamedUnit) →
    end_of place (data_pieces program (u ∷ us)) ≡ end_of (end_of place (data_of (unit_senses program u.entries) (whats u.items))) (data_pieces program us)
units_next program place u us =
    ap (λ (ps : List Piece). end_of place (ps ++ data_pieces program us)) (unit_data program u)
    ∙ end_append place (data_of (unit_senses program u.entries) (whats u.items)) (data_pieces program us)

pub units_grow : (program : Program) (place : ℕ) (us : List NamedUnit) → place ≤ end_of place (data_pieces program us)
units_grow program place [] = omega arith
units_grow program place (u ∷ us) =
    let end = end_of place (data_of (unit_senses program u.entries) (whats u.items)) in
    omega (arith, units_next program place u us, data_grows (unit_senses program u.entries) place (whats u.items), units_grow program end us)

-- ---- a walk over what stands in a unit

module _ {A : Type 0} (h : A → Item) (names : Senses) (place : ℕ) (xs : List A) where
  -- where the data of some of what stands in a unit ends
  abbrev pub end_at : ℕ → ℕ
  end_at i = end_of place (data_of names (map h (take i xs)))

  pub end_turn : (i : ℕ) (x : A) → i < length xs → x ≡ get_or xs i x → end_of (end_at i) (item_pieces names (h x)) ≡ end_at (i + 1)
  end_turn i x within is =
      sym (end_append place (data_of names (map h (take i xs))) (item_pieces names (h x))) ∙ ap (end_of place) (sym (flat_next h (item_pieces names) xs i x within is))

  pub end_within : (i : ℕ) → end_at i ≤ end_of place (data_of names (map h xs))
  end_within i =
      let rest = map h (drop i xs) in
      let joined : map h (take i xs) ++ rest ≡ map h xs = sym (map-append h (take i xs) (drop i xs)) ∙ ap (map h) (take-append-drop i xs) in
      let whole : end_of (end_at i) (data_of names rest) ≡ end_of place (data_of names (map h xs)) =
      sym (data_append names place (map h (take i xs)) rest) ∙ ap (λ q. end_of place (data_of names q)) joined
      in omega (arith, whole, data_grows names (end_at i) rest)

  -- the data of one more of them ends where that ends, or past the limit, and then all ends past it
  module _ (i : ℕ) (x : A) (within : i < length xs) (is : x ≡ get_or xs i x) (here : ℕ) (here-is : here ≡ end_at i) where
    abbrev next : ℕ
    next = end_of here (item_pieces names (h x))

    next_is : next ≡ end_at (i + 1)
    next_is = ap (λ (q : ℕ). end_of q (item_pieces names (h x))) here-is ∙ end_turn i x within is

    pub some_next : (r : Option ℕ) (y : ℕ) → r ≡ Some y → SomeIff r (next ≤ 67108864) next → (y ≡ end_at (i + 1)) × (y ≤ 67108864)
    some_next r y r-is ends =
        let both : (next ≤ 67108864) × (y ≡ next) = subst (λ (o : Option ℕ). SomeIff o (next ≤ 67108864) next) r-is ends in
        (both.1 ∙ next_is, omega (arith, both.0, both.1))

    pub none_next : (r : Option ℕ) → r ≡ None → SomeIff r (next ≤ 67108864) next → end_of place (data_of names (map h xs)) ≤ 67108864 → ⊥
    none_next r r-is ends all =
        let past : next ≤ 67108864 → ⊥ = subst (λ (o : Option ℕ). SomeIff o (next ≤ 67108864) next) r-is ends in
        past (omega (arith, next_is, end_within (i + 1), all))
