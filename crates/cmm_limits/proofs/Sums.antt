-- Sums that are capped, and sums over the procedures of a unit.
use Rattle.std.proofs.Common.{◌≡◌, ℕ, ◌+◌, ◌-◌, ◌^◌, ◌<◌, length, min, take, get_or, refl, sym, ap, ◌∙◌, arith, List, [], ◌∷◌, ◌++◌}
use Rattle.std.proofs.Math.Nat.{zero-add}
use Rattle.std.specs.Prelude.{flat_map}
use Rattle.cmm_ast.specs.declared.expression.Expr.{Expr}
use Rattle.cmm_ast.specs.declared.expression.Primary.{Primary}
use Rattle.cmm_ast.specs.declared.procedure.Proc.{Proc}
use Rattle.cmm_ast.specs.declared.unit.Item.{Item}
use Rattle.cmm_ast.specs.declared.unit.Item.TheVariants as items
use Rattle.cmm_ast.specs.declared.unit.Unit.{Unit as UnitTree}
use Rattle.cmm_static_semantics.specs.Declarations.{NamedUnit}
use Rattle.cmm_static_semantics.specs.Items.{SpanTree, Within, item_within, items_of, parts_in}
use Rattle.cmm_static_semantics.specs.Limits.{over_procs, site_tokens, site_variables, tokens_of}
use Rattle.cmm_static_semantics.specs.Senses.{Senses}
use Rattle.cmm_static_semantics.specs.Statements.{scope_of}
use Rattle.cmm_static_semantics.proofs.Shared.{span_item_inside, flat_plain, taken}
use Rattle.cmm_proc_scope.specs.Procs.{item_procs, procs_of_items}
use Rattle.cmm_limits.specs.Capped.{capped}
use Rattle.cmm_limits.specs.inside.OfUnits.{proc_variables, procs_variables, spans_in}

regrouped : (a b c : ℕ) → a + (b + c) ≡ (a + b) + c
regrouped a b c = omega arith

procs_append : (count : List SpanTree → Proc → ℕ) (xs ys : List (Within Item)) → over_procs count (xs ++ ys) ≡ over_procs count xs + over_procs count ys
procs_append count [] ys = omega arith
procs_append count (x ∷ xs) ys = ap (λ n. elim x.what [ items.Proc p ↦ count x.spans p | _ ↦ 0 ] + n) (procs_append count xs ys) ∙ regrouped _ (over_procs count xs) (over_procs count ys)

one_sum : (n : ℕ) → n ≡ n + 0
one_sum n = omega arith

-- ---- what is capped

pub capped_sum : (a b c d : ℕ) → c ≡ capped a → d ≡ capped b → capped (c + d) ≡ capped (a + b)
capped_sum a b c d e f = under (2 ^ 64 - 1) a b c d e f
  where
    under : (m a b c d : ℕ) → c ≡ min a m → d ≡ min b m → min (c + d) m ≡ min (a + b) m
    under m a b c d e f = omega arith

-- a sum over what stands in two places
pub capped_more : {B : Type 0} (sum : List B → ℕ) → ((xs ys : List B) → sum (xs ++ ys) ≡ sum xs + sum ys) → (xs ys whole : List B) (a b : ℕ) → whole ≡ xs ++ ys →
    a ≡ capped (sum xs) → b ≡ capped (sum ys) → capped (a + b) ≡ capped (sum whole)
capped_more sum appended xs ys whole a b is e f = capped_sum (sum xs) (sum ys) a b e f ∙ ap capped (sym (appended xs ys) ∙ ap sum (sym is))

-- ---- turns of loops

pub spans_next : {A : Type 0} (names : Senses) (f : A → List (Within Item)) (xs : List A) (i : ℕ) (x : A) (so_far more : ℕ) → i < length xs → x ≡ get_or xs i x →
    so_far ≡ capped (spans_in names (flat_map f (take i xs))) → more ≡ capped (spans_in names (f x)) → capped (so_far + more) ≡ capped (spans_in names (flat_map f (take (i + 1) xs)))
spans_next names f xs i x so_far more within is e g =
    capped_more (spans_in names) (procs_append _) (flat_map f (take i xs)) (f x) (flat_map f (take (i + 1) xs)) so_far more (flat_plain f xs i x within is) e g

procs_variables_append : (xs ys : List Proc) → procs_variables (xs ++ ys) ≡ procs_variables xs + procs_variables ys
procs_variables_append [] ys = omega arith
procs_variables_append (x ∷ xs) ys = ap (λ n. proc_variables x + n) (procs_variables_append xs ys) ∙ regrouped (proc_variables x) (procs_variables xs) (procs_variables ys)

pub variables_next : (ps : List Proc) (i : ℕ) (p : Proc) (so_far more : ℕ) → i < length ps → p ≡ get_or ps i p →
    so_far ≡ capped (procs_variables (take i ps)) → more ≡ capped (proc_variables p) → capped (so_far + more) ≡ capped (procs_variables (take (i + 1) ps))
variables_next ps i p so_far more within is e g =
    capped_more procs_variables procs_variables_append (take i ps) (p ∷ []) (take (i + 1) ps) so_far more (taken ps i p within is) e (g ∙ ap capped (one_sum (proc_variables p)))

-- ---- the items of a section

span_is : (names : Senses) (spans : List SpanTree) (t : ℕ) (key : Primary) (value : Expr) (inside : List Item) →
    spans_in names (item_within spans (items.Span t key value inside)) ≡ spans_in names (flat_map (item_within (record { key = key; value = value } ∷ spans)) inside)
span_is names spans t key value inside =
    ap (spans_in names) (span_item_inside spans t key value inside) ∙ zero-add (spans_in names (flat_map (item_within (record { key = key; value = value } ∷ spans)) inside))

pub span_item : (names : Senses) (spans : List SpanTree) (i : Item) (t : ℕ) (key : Primary) (value : Expr) (inside : List Item) → i ≡ items.Span t key value inside →
    spans_in names (item_within spans i) ≡ spans_in names (flat_map (item_within (record { key = key; value = value } ∷ spans)) inside)
span_item names spans i t key value inside is = ap (λ j. spans_in names (item_within spans j)) is ∙ span_is names spans t key value inside

pub proc_item : (names : Senses) (spans : List SpanTree) (i : Item) (p : Proc) → i ≡ items.Proc p →
    spans_in names (item_within spans i) ≡ site_tokens (scope_of names p) (tokens_of names spans) (parts_in [] p.body)
proc_item names spans i p is = ap (λ j. spans_in names (item_within spans j)) is ∙ no_more (site_tokens (scope_of names p) (tokens_of names spans) (parts_in [] p.body))
  where
    no_more : (n : ℕ) → n + 0 ≡ n
    no_more n = omega arith

-- ---- a whole unit

variables_are : (is : List (Within Item)) → procs_variables (procs_of_items is) ≡ over_procs (λ spans p. proc_variables p) is
variables_are [] = refl
variables_are (i ∷ is) = procs_variables_append (item_procs i.what) (procs_of_items is) ∙ item_more i.what (procs_variables (procs_of_items is)) (over_procs (λ spans p. proc_variables p) is) (variables_are is)
  where
    item_more : (x : Item) (a b : ℕ) → a ≡ b → procs_variables (item_procs x) + a ≡ elim x [ items.Proc p ↦ proc_variables p | _ ↦ 0 ] + b
    item_more (items.Proc p) a b e = ap (λ n. n + a) (sym (one_sum (proc_variables p))) ∙ ap (λ n. proc_variables p + n) e
    item_more (items.Decl d) a b e = ap (λ n. 0 + n) e
    item_more (items.Datum d) a b e = ap (λ n. 0 + n) e
    item_more (items.Span' t key value size inside) a b e = ap (λ n. 0 + n) e

pub unit_variables : (names : Senses) (u : NamedUnit) (tree : UnitTree) → u.items ≡ items_of tree → procs_variables (procs_of_items (items_of tree)) ≡ site_variables names u
unit_variables names u tree is = variables_are (items_of tree) ∙ ap (over_procs (λ spans p. proc_variables p)) (sym is)
