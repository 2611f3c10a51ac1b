-- A whole section: its labels are those of what stands in it, whatever spans are around that.
use Rattle.std.proofs.Common.{◌≡◌, refl, sym, ap, ◌∙◌, ℕ, suc, ◌+◌, true, false, List, [], ◌∷◌, ◌++◌, map, append-nil}
use Rattle.std.proofs.lemmas.Simd.{map-map}
use Rattle.cmm_ast.specs.declared.declaration.Export.{Export}
use Rattle.cmm_ast.specs.declared.token.Ident.{Ident}
use Rattle.cmm_ast.specs.declared.unit.DatumForm.{DatumForm}
use Rattle.cmm_ast.specs.declared.unit.DatumForm.TheVariants as forms
use Rattle.cmm_ast.specs.declared.unit.Item.{Item}
use Rattle.cmm_ast.specs.declared.unit.Item.TheVariants as items
use Rattle.cmm_program.specs.declared.program.Label.{Label}
use Rattle.cmm_static_semantics.specs.Items.{Within, within}
use Rattle.cmm_elaboration.specs.Data.{Standing, datums_among, datums_in, item_labels, label_at, section_labels, standing}
use Rattle.cmm_symbols.specs.Shown.{alone, thing_item, whats}
use Rattle.cmm_symbols.specs.declared.thing.Thing.{Thing}
use Rattle.cmm_lower_parts.specs.declared.labels.Passed.{Passed}
use Rattle.cmm_lower_parts.specs.Held.{held, label_held}
use Rattle.cmm_lower_parts.specs.inside.Passing.{Passes, labels_after, waiting_in}

-- ---- spans make no difference

abbrev plain : List Item → List (Within Item)
plain is = map (λ i. within [] i) is

abbrev stands : Item → ℕ → Standing → Standing → Standing
stands w n here next = elim w as (λ _. Standing) [
  | items.Datum d ↦ elim d.form as (λ _. Standing) [
    | forms.Label name ↦ here
    | forms.Align k ↦ next
    | forms.Data t count initial ↦ record { datum = n; at_end = false }
  ]
  | _ ↦ here
]

standing_plain : (n : ℕ) (is : List (Within Item)) → standing n is ≡ standing n (plain (whats is))
standing_plain n [] = refl
standing_plain n (i ∷ is) =
    ap (λ a. stands i.what n a (standing (suc n) is)) (standing_plain n is) ∙ ap (λ b. stands i.what n (standing n (plain (whats is))) b) (standing_plain (suc n) is)

labels_plain : (es : List Export) (n : ℕ) (w : Item) (is js : List (Within Item)) → standing n is ≡ standing n js → item_labels es n w is ≡ item_labels es n w js
labels_plain es n (items.Datum d) is js same = by d.form
  where
    by : (form : DatumForm) → elim form as (λ _. List Label) [ forms.Label name ↦ label_at es name (standing n is) ∷ [] | _ ↦ [] ] ≡ elim form as (λ _. List Label) [ forms.Label name ↦ label_at es name (standing n js) ∷ [] | _ ↦ [] ]
    by (forms.Label name) = ap (λ s. label_at es name s ∷ []) same
    by (forms.Align k) = refl
    by (forms.Data t count initial) = refl
labels_plain es n (items.Decl d) is js same = refl
labels_plain es n (items.Proc p) is js same = refl
labels_plain es n (items.Span' first key value size inside) is js same = refl

section_plain : (es : List Export) (n : ℕ) (is : List (Within Item)) → section_labels es n is ≡ section_labels es n (plain (whats is))
section_plain es n [] = refl
section_plain es n (i ∷ is) =
    ap (λ q. q ++ section_labels es (n + datums_in i.what) is) (labels_plain es n i.what is (plain (whats is)) (standing_plain n is))
    ∙ ap (λ q. item_labels es n i.what (plain (whats is)) ++ q) (section_plain es (n + datums_in i.what) is)

among_plain : (is : List (Within Item)) → datums_among is ≡ datums_among (plain (whats is))
among_plain [] = refl
among_plain (i ∷ is) = ap (λ k. datums_in i.what + k) (among_plain is)

alone_plain : (ts : List Thing) (is : List (Within Item)) → map thing_item ts ≡ whats is → map alone ts ≡ plain (whats is)
alone_plain ts is same = sym (map-map (λ i. within [] i) thing_item ts) ∙ ap plain same

pub section_is : (es : List Export) (n : ℕ) (ts : List Thing) (is : List (Within Item)) → map thing_item ts ≡ whats is → section_labels es n (map alone ts) ≡ section_labels es n is
section_is es n ts is same = ap (section_labels es n) (alone_plain ts is same) ∙ sym (section_plain es n is)

pub among_is : (ts : List Thing) (is : List (Within Item)) → map thing_item ts ≡ whats is → datums_among (map alone ts) ≡ datums_among is
among_is ts is same = ap datums_among (alone_plain ts is same) ∙ sym (among_plain is)

-- ---- what still waits at the end of a section stands there

at_end_held : (es : List Export) (m : ℕ) (names : List Ident) →
    map label_held (labels_after es names m []) ≡ map (λ i. label_at es i record { datum = held m; at_end = true }) names
at_end_held es m names =
    ap (map label_held) (append-nil (map (λ i. label_at es i record { datum = m; at_end = true }) names))
    ∙ map-map label_held (λ i. label_at es i record { datum = m; at_end = true }) names

pub section_done : (es : List Export) (ts : List Thing) (is : List (Within Item)) (none end_ : Passed) (before middle after : List Label) (n : ℕ) → map thing_item ts ≡ whats is →
    none.waiting ≡ [] → none.datum ≡ held n → Passes es (map alone ts) none end_ before middle →
    after ≡ middle ++ map (λ i. label_at es i.now record { datum = end_.datum; at_end = true }) end_.waiting →
    after ≡ before ++ map label_held (section_labels es n is)
section_done es ts is none end_ before middle after n same empty first passes added =
    let m = n + datums_among (map alone ts) in
    added
    ∙ ap (λ d. middle ++ map (λ i. label_at es i.now record { datum = d; at_end = true }) end_.waiting) (passes.datum n first)
    ∙ ap (λ ls. middle ++ ls) (sym (map-map (λ i. label_at es i record { datum = held m; at_end = true }) (λ i. i.now) end_.waiting) ∙ sym (at_end_held es m (waiting_in end_)))
    ∙ passes.labels n [] first
    ∙ ap (λ w. before ++ map label_held (labels_after es (map (λ i. i.now) w) n (map alone ts ++ []))) empty
    ∙ ap (λ q. before ++ map label_held (section_labels es n q)) (append-nil (map alone ts))
    ∙ ap (λ q. before ++ map label_held q) (section_is es n ts is same)
