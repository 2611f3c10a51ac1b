-- What stands in a section, an item after the other.
use Rattle.std.proofs.Common.{◌≡◌, ℕ, ◌+◌, ◌<◌, length, take, get_or, List, [], ◌∷◌, ◌++◌, sym, ap, ◌∙◌, append_assoc}
use Rattle.std.proofs.lemmas.List.{map-append}
use Rattle.std.specs.Prelude.{flat_map}
use Rattle.cmm_ast.specs.declared.expression.Expr.{Expr}
use Rattle.cmm_ast.specs.declared.expression.Primary.{Primary}
use Rattle.cmm_ast.specs.declared.unit.Item.{Item}
use Rattle.cmm_ast.specs.declared.unit.Item.TheVariants as items
use Rattle.cmm_static_semantics.specs.Items.{SpanTree, Within, item_within}
use Rattle.cmm_static_semantics.proofs.Shared.{span_item_inside, flat_plain}
use Rattle.cmm_symbols.specs.Shown.{whats}

-- what stands in a span
pub span_law : (spans : List SpanTree) (i : Item) (t : ℕ) (key : Primary) (value : Expr) (inside : List Item) → i ≡ items.Span t key value inside →
    whats (item_within spans i) ≡ i ∷ whats (flat_map (item_within (record { key = key; value = value } ∷ spans)) inside)
span_law spans i t key value inside is =
    ap (λ j. whats (item_within spans j)) is ∙ ap whats (span_item_inside spans t key value inside)
    ∙ ap (λ j. j ∷ whats (flat_map (item_within (record { key = key; value = value } ∷ spans)) inside)) (sym is)

-- one item more
pub whats_next : {A B : Type 0} (f : A → List (Within B)) (xs : List A) (i : ℕ) (x : A) → i < length xs → x ≡ get_or xs i x →
    whats (flat_map f (take (i + 1) xs)) ≡ whats (flat_map f (take i xs)) ++ whats (f x)
whats_next f xs i x within is = ap whats (flat_plain f xs i x within is) ∙ map-append (λ w. w.what) (flat_map f (take i xs)) (f x)

-- something, and then what stands inside it
pub nested : {B : Type 0} (b : B) (inside whole start first last : List B) → whole ≡ b ∷ inside → first ≡ start ++ b ∷ [] → last ≡ first ++ inside → last ≡ start ++ whole
nested b inside whole start first last is e f = f ∙ ap (λ q. q ++ inside) e ∙ append_assoc start (b ∷ []) inside ∙ ap (λ q. start ++ q) (sym is)

pub nested_twice : {B : Type 0} (b : B) (inside more whole start first second last : List B) → whole ≡ b ∷ (inside ++ more) → first ≡ start ++ b ∷ [] →
    second ≡ first ++ inside → last ≡ second ++ more → last ≡ start ++ whole
nested_twice b inside more whole start first second last is e f g =
    nested b (inside ++ more) whole start first last is e (g ∙ ap (λ q. q ++ more) f ∙ append_assoc first inside more)
