-- The labels of a unit, section by section, and that their numbers have 32 bits where those of its datums do.
use Rattle.std.proofs.Common.{◌≡◌, refl, sym, ap, ◌∙◌, ℕ, suc, ◌+◌, ◌^◌, ◌<◌, ◌≤◌, List, [], ◌∷◌, ◌++◌, length, get_or, map, take, append_assoc, append-nil, arith}
use Rattle.std.specs.Prelude.{flat_map}
use Rattle.std.proofs.lemmas.List.{map-append}
use Rattle.std.proofs.lemmas.Grind.{flat_map-append}
use Rattle.cmm_ast.specs.declared.declaration.Export.{Export}
use Rattle.cmm_ast.specs.declared.unit.DatumForm.{DatumForm}
use Rattle.cmm_ast.specs.declared.unit.DatumForm.TheVariants as forms
use Rattle.cmm_ast.specs.declared.unit.Item.{Item}
use Rattle.cmm_ast.specs.declared.unit.Item.TheVariants as items
use Rattle.cmm_ast.specs.declared.unit.TopLevel.{TopLevel}
use Rattle.cmm_program.specs.declared.program.Label.{Label}
use Rattle.cmm_static_semantics.specs.Items.{SpanTree, Within, top_items, within}
use Rattle.cmm_elaboration.specs.Data.{datums_among, datums_in, item_labels, label_at, section_labels, standing, unit_labels}
use Rattle.cmm_elaboration.proofs.Shared.{among_append}
use Rattle.cmm_static_semantics.proofs.Shared.{grown, taken}
use Rattle.cmm_lower_parts.specs.Held.{held, label_held}
use Rattle.cmm_lower_parts.proofs.Holding.{held_same}

-- ---- sections, one after the other

abbrev all_items : List TopLevel → List (Within Item)
all_items ts = flat_map top_items ts

pub items_last : (ts : List TopLevel) (t : TopLevel) → datums_among (all_items (ts ++ t ∷ [])) ≡ datums_among (all_items ts) + datums_among (top_items t)
items_last ts t = ap datums_among (flat_map-append top_items ts (t ∷ []) ∙ ap (λ q. all_items ts ++ q) (append-nil (top_items t))) ∙ among_append (all_items ts) (top_items t)

pub labels_last : (es : List Export) (n : ℕ) (ts : List TopLevel) (t : TopLevel) →
    unit_labels es n (ts ++ t ∷ []) ≡ unit_labels es n ts ++ section_labels es (n + datums_among (all_items ts)) (top_items t)
labels_last es n [] t = append-nil (section_labels es n (top_items t)) ∙ ap (λ m. section_labels es m (top_items t)) (let z : n ≡ n + 0 = omega arith in z)
labels_last es n (s ∷ ts) t =
    let m = n + datums_among (top_items s) in
    let e = among_append (top_items s) (all_items ts) in
    let same : m + datums_among (all_items ts) ≡ n + datums_among (top_items s ++ all_items ts) = omega (arith, e) in
    ap (λ q. section_labels es n (top_items s) ++ q) (labels_last es m ts t ∙ ap (λ k. unit_labels es m ts ++ section_labels es k (top_items t)) same)
    ∙ sym (append_assoc (section_labels es n (top_items s)) (unit_labels es m ts) (section_labels es (n + datums_among (top_items s ++ all_items ts)) (top_items t)))

-- ---- numbers

-- a label stands on a datum of the rest of its section, or behind the last one
standing_within : (n : ℕ) (is : List (Within Item)) → (standing n is).datum ≤ n + datums_among is
standing_within n [] = omega arith
standing_within n (i ∷ is) = by i.spans i.what (standing_within n is) (standing_within (suc n) is)
  where
    by_form : (spans : List SpanTree) (token : ℕ) (form : DatumForm) → (standing n is).datum ≤ n + datums_among is → (standing (suc n) is).datum ≤ suc n + datums_among is →
        (standing n (within spans (items.Datum record { token = token; form = form }) ∷ is)).datum ≤ n + datums_among (within spans (items.Datum record { token = token; form = form }) ∷ is)
    by_form spans token (forms.Label name) here next = omega (arith, here)
    by_form spans token (forms.Align k) here next = omega (arith, next)
    by_form spans token (forms.Data t count initial) here next = omega arith

    by : (spans : List SpanTree) (i : Item) → (standing n is).datum ≤ n + datums_among is → (standing (suc n) is).datum ≤ suc n + datums_among is →
        (standing n (within spans i ∷ is)).datum ≤ n + datums_among (within spans i ∷ is)
    by spans (items.Datum d) here next = by_form spans d.token d.form here next
    by spans (items.Decl d) here next = omega (arith, here)
    by spans (items.Proc p) here next = omega (arith, here)
    by spans (items.Span' first key value size inside) here next = omega (arith, here)

item_same : (es : List Export) (n : ℕ) (i : Item) (is : List (Within Item)) → n + datums_among is < 2 ^ 32 → map label_held (item_labels es n i is) ≡ item_labels es n i is
item_same es n (items.Datum d) is small = by d.token d.form
  where
    by : (token : ℕ) (form : DatumForm) → map label_held (item_labels es n (items.Datum record { token = token; form = form }) is) ≡ item_labels es n (items.Datum record { token = token; form = form }) is
    by token (forms.Label name) =
        let w = standing_within n is in
        ap (λ m. record (label_at es name (standing n is)) { datum = m } ∷ []) (held_same (standing n is).datum (omega (arith, w, small)))
    by token (forms.Align k) = refl
    by token (forms.Data t count initial) = refl
item_same es n (items.Decl d) is small = refl
item_same es n (items.Proc p) is small = refl
item_same es n (items.Span' first key value size inside) is small = refl

section_same : (es : List Export) (n : ℕ) (is : List (Within Item)) → n + datums_among is < 2 ^ 32 → map label_held (section_labels es n is) ≡ section_labels es n is
section_same es n [] small = refl
section_same es n (i ∷ is) small =
    map-append label_held (item_labels es n i.what is) (section_labels es (n + datums_in i.what) is)
    ∙ ap (λ q. q ++ map label_held (section_labels es (n + datums_in i.what) is)) (item_same es n i.what is (omega (arith, small)))
    ∙ ap (λ q. item_labels es n i.what is ++ q) (section_same es (n + datums_in i.what) is (omega (arith, small)))

pub labels_same : (es : List Export) (n : ℕ) (ts : List TopLevel) → n + datums_among (all_items ts) < 2 ^ 32 → map label_held (unit_labels es n ts) ≡ unit_labels es n ts
labels_same es n [] small = refl
labels_same es n (t ∷ ts) small =
    let e = among_append (top_items t) (all_items ts) in
    map-append label_held (section_labels es n (top_items t)) (unit_labels es (n + datums_among (top_items t)) ts)
    ∙ ap (λ q. q ++ map label_held (unit_labels es (n + datums_among (top_items t)) ts)) (section_same es n (top_items t) (omega (arith, small, e)))
    ∙ ap (λ q. section_labels es n (top_items t) ++ q) (labels_same es (n + datums_among (top_items t)) ts (omega (arith, small, e)))

-- ---- a turn of the loop over the sections of a unit

pub unit_next : (es : List Export) (first : ℕ) (ts : List TopLevel) (k : ℕ) (t : TopLevel) (number next : ℕ) (base old new : List Label) → k < length ts → t ≡ get_or ts k t →
    ((n : ℕ) → number ≡ held n → next ≡ held (n + datums_among (top_items t))) →
    ((n : ℕ) → number ≡ held n → new ≡ old ++ map label_held (section_labels es n (top_items t))) →
    (number ≡ held (first + datums_among (all_items (take k ts)))) × (old ≡ base ++ map label_held (unit_labels es first (take k ts))) →
    (next ≡ held (first + datums_among (all_items (take (k + 1) ts)))) × (new ≡ base ++ map label_held (unit_labels es first (take (k + 1) ts)))
unit_next es first ts k t number next base old new within is counts adds so_far = (
  counts n so_far.0 ∙ ap held (let e = items_last (take k ts) t in let z : n + datums_among (top_items t) ≡ first + datums_among (all_items (take k ts ++ t ∷ [])) = omega (arith, e) in z)
      ∙ ap (λ q. held (first + datums_among (all_items q))) (sym whole),
  grown old base (map label_held (unit_labels es first (take k ts))) (map label_held (section_labels es n (top_items t))) (adds n so_far.0) so_far.1
      (ap (λ q. map label_held (unit_labels es first q)) whole ∙ ap (map label_held) (labels_last es first (take k ts) t) ∙ map-append label_held (unit_labels es first (take k ts)) (section_labels es n (top_items t))),
)
  where
    n : ℕ
    n = first + datums_among (all_items (take k ts))

    whole : take (k + 1) ts ≡ take k ts ++ t ∷ []
    whole = taken ts k t within is
