-- Units laid flat one after the other, with the numbers of their procedures and data labels.
use Rattle.std.proofs.Common.{◌≡◌, ℕ, zero, suc, ◌+◌, ◌<◌, length, map, take, drop, get_or, refl, ap, sym, ◌∙◌, List, [], ◌∷◌, ◌++◌, append_assoc, arith}
use Rattle.std.specs.Prelude.{flat_map}
use Rattle.std.proofs.Math.Seq.{drop-cons}
use Rattle.std.proofs.lemmas.List.{length-map}
use Rattle.std.proofs.lemmas.List.Folds.{flat_map-map}
use Rattle.cmm_ast.specs.declared.declaration.Export.{Export}
use Rattle.cmm_ast.specs.declared.unit.Unit.{Unit as UnitTree}
use Rattle.cmm_static_semantics.specs.Items.{items_of}
use Rattle.cmm_static_semantics.specs.Declarations.{Declared, Entry, NamedUnit, procs_in, labels_in, entries_from, sum_of, units_from}
use Rattle.cmm_static_semantics.specs.Linking.{item_exports}
use Rattle.cmm_symbols.specs.Shown.{alone, thing_item, whats}
use Rattle.cmm_symbols.specs.declared.thing.Thing.{Thing}
use Rattle.cmm_symbols.proofs.Shared.{entries_are, sum_is}
use Rattle.cmm_check_units.specs.inside.Flat.{Flat, flat_unit, numbered_unit}

-- a unit laid flat, from what stands in it
pub flat_of : (p l : ℕ) (u t : UnitTree) (ts es : List Thing) (entries : List (Declared Entry)) (exports : List Export) → t ≡ u → map thing_item ts ≡ whats (items_of t) →
    map thing_item es ≡ whats (items_of t) → entries ≡ entries_from p l (map alone ts) → exports ≡ flat_map item_exports (map thing_item es) →
    let f : Flat = record { tree = t; entries = entries; exports = exports; items = whats (items_of t) } in f ≡ flat_unit (numbered_unit p l u)
flat_of p l u t ts es entries exports is stand listed declared exported =
    ap (λ (q : List (Declared Entry)). let f : Flat = record { tree = t; entries = q; exports = exports; items = whats (items_of t) } in f) (declared ∙ entries_are p l ts (items_of t) stand)
    ∙ ap (λ (q : List Export). let f : Flat = record { tree = t; entries = entries_from p l (items_of t); exports = q; items = whats (items_of t) } in f)
    (exported ∙ ap (flat_map item_exports) listed ∙ flat_map-map item_exports (λ w. w.what) (items_of t))
    ∙ ap (λ q. flat_unit (numbered_unit p l q)) is

-- a turn of the loop: the units that are laid flat, and then the rest, are all
pub units_next : (before : List Flat) (f : Flat) (whole : List Flat) (p l p' l' : ℕ) (ts : List Thing) (us : List UnitTree) (k : ℕ) (u : UnitTree) → k < length us → u ≡ get_or us k u →
    f ≡ flat_unit (numbered_unit p l u) → f.items ≡ map thing_item ts → p' ≡ p + sum_of procs_in (map alone ts) → l' ≡ l + sum_of labels_in (map alone ts) →
    before ++ map flat_unit (units_from p l (drop k us)) ≡ whole → (before ++ f ∷ []) ++ map flat_unit (units_from p' l' (drop (k + 1) us)) ≡ whole
units_next before f whole p l p' l' ts us k u within is flat items procs labels so_far =
    let same : map thing_item ts ≡ whats (items_of u) = sym items ∙ ap (λ g. g.items) flat in
    let e : k + 1 ≡ suc k = omega arith in
    let rest : drop k us ≡ u ∷ drop (k + 1) us = drop-cons us k u within ∙ rw (e, sym is) refl in
    let p_is : p' ≡ p + sum_of procs_in (items_of u) = procs ∙ ap (λ n. p + n) (sum_is procs_in ts (items_of u) same) in
    let l_is : l' ≡ l + sum_of labels_in (items_of u) = labels ∙ ap (λ n. l + n) (sum_is labels_in ts (items_of u) same) in
    append_assoc before (f ∷ []) (map flat_unit (units_from p' l' (drop (k + 1) us)))
    ∙ ap (λ g. before ++ g ∷ map flat_unit (units_from p' l' (drop (k + 1) us))) flat
    ∙ ap (λ q. before ++ flat_unit (numbered_unit p l u) ∷ map flat_unit (units_from q l' (drop (k + 1) us))) p_is
    ∙ ap (λ q. before ++ flat_unit (numbered_unit p l u) ∷ map flat_unit (units_from (p + sum_of procs_in (items_of u)) q (drop (k + 1) us))) l_is
    ∙ sym (ap (λ q. before ++ map flat_unit (units_from p l q)) rest) ∙ so_far

pub units_are_as_many : (p l : ℕ) (us : List UnitTree) → length (units_from p l us) ≡ length us
units_are_as_many p l [] = refl
units_are_as_many p l (u ∷ us) = ap (λ n. suc n) (units_are_as_many (p + sum_of procs_in (items_of u)) (l + sum_of labels_in (items_of u)) us)

-- as many units as are laid flat
pub as_many : {A : Type 0} (h : A → Flat) (xs : List A) (us : List NamedUnit) → map h xs ≡ map flat_unit us → length us ≡ length xs
as_many h xs us same = sym (length-map us flat_unit) ∙ ap length (sym same) ∙ length-map xs h

-- where two lists show the same, so do their items at one place
pub same_at : {A B C : Type 0} (f : A → C) (g : B → C) (xs : List A) (ys : List B) (k : ℕ) (x : A) → map f xs ≡ map g ys → k < length xs → x ≡ get_or xs k x →
    (y : B) × ((f x ≡ g y) × (take (k + 1) ys ≡ take k ys ++ y ∷ []))
same_at f g [] ys k x same within is = absurd (omega arith)
same_at f g (a ∷ xs) [] k x same within is = cc
same_at f g (a ∷ xs) (b ∷ ys) zero x same within is = (b, (ap f is ∙ heads, refl))
  where
    heads : f a ≡ g b
    heads = cc
same_at f g (a ∷ xs) (b ∷ ys) (suc k) x same within is =
    let tails : map f xs ≡ map g ys = cc in
    let e : suc k + 1 ≡ suc (k + 1) = omega arith in
    let rest : (y : _) × ((f x ≡ g y) × (take (k + 1) ys ≡ take k ys ++ y ∷ [])) = same_at f g xs ys k x tails (omega arith) is in (
      rest.0,
      (rest.1.0, ap (λ n. take n (b ∷ ys)) e ∙ ap (λ t. b ∷ t) rest.1.1),
    )
