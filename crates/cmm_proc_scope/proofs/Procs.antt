-- The procedures of what stands in a unit, as a walk over its tree meets them.
use Rattle.std.proofs.Common.{◌≡◌, ℕ, suc, ◌+◌, ◌<◌, length, map, take, drop, get_or, refl, sym, ap, ◌∙◌, subst, List, [], ◌∷◌, ◌++◌, append-nil, append_assoc, arith}
use Rattle.std.specs.Prelude.{flat_map}
use Rattle.std.proofs.Math.Seq.{drop-cons}
use Rattle.std.proofs.lemmas.List.{take-append-drop}
use Rattle.std.proofs.lemmas.Grind.{flat_map-append}
use Rattle.cmm_ast.specs.declared.expression.Expr.{Expr}
use Rattle.cmm_ast.specs.declared.expression.Primary.{Primary}
use Rattle.cmm_ast.specs.declared.procedure.Proc.{Proc}
use Rattle.cmm_ast.specs.declared.unit.Item.{Item, Row_of-Item, end_of-Item, more_of-Item}
use Rattle.cmm_ast.specs.declared.unit.Item.TheVariants as items
use Rattle.cmm_static_semantics.specs.Items.{SpanTree, Within, within, item_within, items_within}
use Rattle.cmm_static_semantics.proofs.Shared.{span_item_inside, flat_plain}
use Rattle.cmm_symbols.specs.Shown.{whats}
use Rattle.cmm_proc_scope.specs.Procs.{item_procs, procs_of_items, BeginWith}

pub procs_append : (xs ys : List (Within Item)) → procs_of_items (xs ++ ys) ≡ procs_of_items xs ++ procs_of_items ys
procs_append xs ys = flat_map-append (λ i. item_procs i.what) xs ys

-- the spans around them left out
pub procs_of_whats : (is : List (Within Item)) → flat_map item_procs (whats is) ≡ procs_of_items is
procs_of_whats [] = refl
procs_of_whats (i ∷ is) = ap (λ ps. item_procs i.what ++ ps) (procs_of_whats is)

-- something of each item that is a procedure, and nothing of others, is so of the procedures
pub over_procs_of : {B : Type 0} (f : Item → List B) → ((i : Item) → f i ≡ flat_map (λ p. f (items.Proc p)) (item_procs i)) → (is : List (Within Item)) →
    flat_map f (whats is) ≡ flat_map (λ p. f (items.Proc p)) (procs_of_items is)
over_procs_of f alone [] = refl
over_procs_of f alone (i ∷ is) =
    ap (λ t. t ++ flat_map f (whats is)) (alone i.what) ∙ ap (λ t. flat_map (λ p. f (items.Proc p)) (item_procs i.what) ++ t) (over_procs_of f alone is)
    ∙ sym (flat_map-append (λ p. f (items.Proc p)) (item_procs i.what) (procs_of_items is))

-- ---- the spans around items have no part in which procedures they are

mutual
  item_alike : (s t : List SpanTree) (i : Item) → procs_of_items (item_within s i) ≡ procs_of_items (item_within t i)
  item_alike s t (items.Span' first key value size inside) = rows_alike (record { key = key; value = value } ∷ s) (record { key = key; value = value } ∷ t) inside
  item_alike s t (items.Decl d) = refl
  item_alike s t (items.Proc p) = refl
  item_alike s t (items.Datum d) = refl

  rows_alike : {n : _} (s t : List SpanTree) (row : Row_of-Item n) → procs_of_items (items_within s row) ≡ procs_of_items (items_within t row)
  rows_alike s t end_of-Item = refl
  rows_alike s t (more_of-Item i rest) =
      procs_append (item_within s i) (items_within s rest)
      ∙ ap (λ ps. ps ++ procs_of_items (items_within s rest)) (item_alike s t i)
      ∙ ap (λ ps. procs_of_items (item_within t i) ++ ps) (rows_alike s t rest)
      ∙ sym (procs_append (item_within t i) (items_within t rest))

inside_alike : (s t : List SpanTree) (is : List Item) → procs_of_items (flat_map (item_within s) is) ≡ procs_of_items (flat_map (item_within t) is)
inside_alike s t [] = refl
inside_alike s t (i ∷ is) =
    procs_append (item_within s i) (flat_map (item_within s) is)
    ∙ ap (λ ps. ps ++ procs_of_items (flat_map (item_within s) is)) (item_alike s t i)
    ∙ ap (λ ps. procs_of_items (item_within t i) ++ ps) (inside_alike s t is)
    ∙ sym (procs_append (item_within t i) (flat_map (item_within t) is))

-- the procedures of a span are those inside it
pub procs_of_span : (i : Item) (t : ℕ) (key : Primary) (value : Expr) (inside : List Item) → i ≡ items.Span t key value inside →
    procs_of_items (item_within [] i) ≡ procs_of_items (flat_map (item_within []) inside)
procs_of_span i t key value inside is =
    ap (λ j. procs_of_items (item_within [] j)) is ∙ ap procs_of_items (span_item_inside [] t key value inside)
    ∙ inside_alike (record { key = key; value = value } ∷ []) [] inside

-- ---- what is next

front : {A : Type 0} (xs ys l : List A) → take (length (xs ++ ys)) l ≡ xs ++ ys → take (length xs) l ≡ xs
front [] ys l e = refl
front (x ∷ xs) ys [] e = cc
front (x ∷ xs) ys (y ∷ l) e =
    let first : y ≡ x = cc in
    let rest : take (length (xs ++ ys)) l ≡ xs ++ ys = cc in
    let more : take (length xs) l ≡ xs = front xs ys l rest in cc

back : {A : Type 0} (xs ys l : List A) → take (length (xs ++ ys)) (xs ++ l) ≡ xs ++ ys → take (length ys) l ≡ ys
back [] ys l e = e
back (x ∷ xs) ys l e = let rest : take (length (xs ++ ys)) (xs ++ l) ≡ xs ++ ys = cc in back xs ys l rest

-- what begins with more begins with less; and what is left then begins with the rest
pub begin_first : (left : List Proc) (xs ys whole : List (Within Item)) → whole ≡ xs ++ ys → BeginWith left whole → BeginWith left xs
begin_first left xs ys whole is e =
    front (procs_of_items xs) (procs_of_items ys) left (subst (λ ps. take (length ps) left ≡ ps) (ap procs_of_items is ∙ procs_append xs ys) e)

pub begin_rest : (all left : List Proc) (xs ys whole : List (Within Item)) → whole ≡ xs ++ ys → all ≡ procs_of_items xs ++ left → BeginWith all whole → BeginWith left ys
begin_rest all left xs ys whole is split e =
    back (procs_of_items xs) (procs_of_items ys) left
    (subst (λ l. take (length (procs_of_items xs ++ procs_of_items ys)) l ≡ procs_of_items xs ++ procs_of_items ys) split
    (subst (λ ps. take (length ps) all ≡ ps) (ap procs_of_items is ∙ procs_append xs ys) e))

-- ---- a turn of a loop that walks

parted : {A B : Type 0} (f : A → List B) (xs : List A) (i : ℕ) (x : A) → i < length xs → x ≡ get_or xs i x →
    flat_map f xs ≡ flat_map f (take i xs) ++ (f x ++ flat_map f (drop (suc i) xs))
parted f xs i x within is =
    ap (flat_map f) (sym (take-append-drop i xs) ∙ ap (λ t. take i xs ++ t) (drop-cons xs i x within ∙ ap (λ y. y ∷ drop (suc i) xs) (sym is)))
    ∙ flat_map-append f (take i xs) (x ∷ drop (suc i) xs)

pub begin_turn : {A : Type 0} (f : A → List (Within Item)) (all left : List Proc) (xs : List A) (i : ℕ) (x : A) → i < length xs → x ≡ get_or xs i x →
    BeginWith all (flat_map f xs) → all ≡ procs_of_items (flat_map f (take i xs)) ++ left → BeginWith left (f x)
begin_turn f all left xs i x within is e split =
    begin_first left (f x) (flat_map f (drop (suc i) xs)) (f x ++ flat_map f (drop (suc i) xs)) refl
    (begin_rest all left (flat_map f (take i xs)) (f x ++ flat_map f (drop (suc i) xs)) (flat_map f xs) (parted f xs i x within is) split e)

pub left_turn : {A : Type 0} (f : A → List (Within Item)) (all left next : List Proc) (xs : List A) (i : ℕ) (x : A) → i < length xs → x ≡ get_or xs i x →
    all ≡ procs_of_items (flat_map f (take i xs)) ++ left → left ≡ procs_of_items (f x) ++ next → all ≡ procs_of_items (flat_map f (take (i + 1) xs)) ++ next
left_turn f all left next xs i x within is split more =
    split ∙ ap (λ ps. procs_of_items (flat_map f (take i xs)) ++ ps) more
    ∙ sym (append_assoc (procs_of_items (flat_map f (take i xs))) (procs_of_items (f x)) next)
    ∙ ap (λ ps. ps ++ next) (sym (procs_append (flat_map f (take i xs)) (f x)) ∙ ap procs_of_items (sym (flat_plain f xs i x within is)))

-- ---- what is next of an item

pub begin_all : (left : List Proc) (is : List (Within Item)) → left ≡ procs_of_items is → BeginWith left is
begin_all left is e = subst (λ l. take (length (procs_of_items is)) l ≡ procs_of_items is) (sym e) (take_whole (procs_of_items is))
  where
    take_whole : (ps : List Proc) → take (length ps) ps ≡ ps
    take_whole [] = refl
    take_whole (p ∷ ps) = ap (λ t. p ∷ t) (take_whole ps)

pub begin_as : (left : List Proc) (xs ys : List (Within Item)) → procs_of_items xs ≡ procs_of_items ys → BeginWith left xs → BeginWith left ys
begin_as left xs ys same e = subst (λ ps. take (length ps) left ≡ ps) same e

-- where a procedure is next, it is the first that is left
pub next_of_one : (left : List Proc) (is : List (Within Item)) (p : Proc) → procs_of_items is ≡ p ∷ [] → BeginWith left is → (rest : List Proc) × (left ≡ p ∷ rest)
next_of_one [] is p one e = let f : take (length (p ∷ [])) [] ≡ p ∷ [] = subst (λ ps. take (length ps) [] ≡ ps) one e in cc
next_of_one (q ∷ rest) is p one e =
    let f : take (length (p ∷ [])) (q ∷ rest) ≡ p ∷ [] = subst (λ ps. take (length ps) (q ∷ rest) ≡ ps) one e in
    let same : q ≡ p = cc in (rest, ap (λ r. r ∷ rest) same)

pub left_of_one : (old new rest : List Proc) (is : List (Within Item)) (p : Proc) → procs_of_items is ≡ p ∷ [] → old ≡ p ∷ rest → new ≡ rest → old ≡ procs_of_items is ++ new
left_of_one old new rest is p one split same = split ∙ ap (λ r. p ∷ r) (sym same) ∙ ap (λ ps. ps ++ new) (sym one)
