-- The procedures of a section, item by item.
use Rattle.std.proofs.Common.{◌≡◌, ℕ, suc, ◌+◌, ◌<◌, length, take, drop, get_or, refl, sym, ap, ◌∙◌, subst, List, [], ◌∷◌, ◌++◌, append_assoc}
use Rattle.std.specs.Prelude.{flat_map, map}
use Rattle.std.specs.List.{All}
use Rattle.std.proofs.Math.Seq.{drop-cons}
use Rattle.std.proofs.lemmas.List.{take-append-drop}
use Rattle.std.proofs.lemmas.List.Elements.{All-head, All-tail}
use Rattle.std.proofs.lemmas.Grind.{flat_map-append}
use Rattle.cmm_ast.specs.declared.expression.Expr.{Expr}
use Rattle.cmm_ast.specs.declared.expression.Primary.{Primary}
use Rattle.cmm_ast.specs.declared.procedure.Proc.{Proc as ProcTree}
use Rattle.cmm_ast.specs.declared.unit.Item.{Item}
use Rattle.cmm_ast.specs.declared.unit.Item.TheVariants as items
use Rattle.cmm_ast.specs.declared.unit.Section.{Section}
use Rattle.cmm_ast.specs.declared.unit.TopLevel.{TopLevel}
use Rattle.cmm_ast.specs.declared.unit.TopLevel.TheVariants as tops
use Rattle.cmm_program.specs.declared.procedure.Proc.{Proc}
use Rattle.cmm_static_semantics.specs.Items.{SpanTree, Within, within, item_within, top_items}
use Rattle.cmm_static_semantics.proofs.Shared.{span_item_inside, flat_plain}
use Rattle.cmm_static_semantics.specs.Senses.{Senses}
use Rattle.cmm_elaboration.specs.Meaning.{item_procedures}
use Rattle.cmm_elaboration.specs.Procedures.{procedure_of}
use Rattle.cmm_elaboration.specs.Sites.{SpanValue, innermost, span_value, with_span}
use Rattle.cmm_typing.proofs.Shared.{all_left, all_right}
use Rattle.cmm_lower.specs.Fitting.{ItemFits, ProcFits}
use Rattle.cmm_lower.specs.inside.Sections.{ItemAdded, ItemsAdded}

module _ (names : Senses) (unit : ℕ) where
  abbrev made : Within Item → List Proc
  made = item_procedures names unit

  abbrev Fits : Within Item → Type 0
  Fits w = ItemFits names w.what

  span_is : (around inner : List SpanValue) (x : SpanValue) (t : ℕ) (key : Primary) (value : Expr) (inside : List Item) (old new : List Proc) →
      x ≡ span_value names record { key = key; value = value } → inner ≡ with_span x around → ItemsAdded names unit inner inside inside old new →
      ItemAdded names unit around (items.Span t key value inside) old new
  span_is around inner x t key value inside old new is entered added spans force fit =
      let tree : SpanTree = record { key = key; value = value } in let whole = span_item_inside spans t key value inside in
      added (tree ∷ spans) (entered ∙ ap (λ y. with_span y around) is ∙ ap (with_span (span_value names tree)) force)
      (All-tail Fits (within spans (items.Span t key value inside)) (flat_map (item_within (tree ∷ spans)) inside) (subst (All Fits) whole fit))
      ∙ ap (λ ws. old ++ flat_map made ws) (sym whole)

  pub span_added : (around inner ws : List SpanValue) (x : SpanValue) (i : Item) (t : ℕ) (key : Primary) (value : Expr) (inside xs : List Item) (old new : List Proc) →
      i ≡ items.Span t key value inside → x ≡ span_value names record { key = key; value = value } → inner ≡ with_span x around → xs ≡ inside → ws ≡ inner →
      ItemsAdded names unit ws xs xs old new → ItemAdded names unit around i old new
  span_added around inner ws x i t key value inside xs old new is one entered same held added =
      subst (λ j. ItemAdded names unit around j old new) (sym is)
      (span_is around inner x t key value inside old new one entered
      (subst (λ ys. ItemsAdded names unit inner ys ys old new) same (subst (λ vs. ItemsAdded names unit vs xs xs old new) held added)))

  proc_is : (around : List SpanValue) (p : ProcTree) (old new : List Proc) →
      ((spans : List SpanTree) → around ≡ innermost (map (span_value names) spans) → ProcFits names p → new ≡ old ++ procedure_of names unit spans p ∷ []) →
      ItemAdded names unit around (items.Proc p) old new
  proc_is around p old new added spans force fit = added spans force (All-head Fits (within spans (items.Proc p)) [] fit)

  pub proc_added : (around : List SpanValue) (i : Item) (p : ProcTree) (old new : List Proc) → i ≡ items.Proc p →
      ((spans : List SpanTree) → around ≡ innermost (map (span_value names) spans) → ProcFits names p → new ≡ old ++ procedure_of names unit spans p ∷ []) →
      ItemAdded names unit around i old new
  proc_added around i p old new is added = subst (λ j. ItemAdded names unit around j old new) (sym is) (proc_is around p old new added)

  -- what stands in a section, or alone
  section_is : (section : Section) (old new : List Proc) → ItemsAdded names unit [] section.items section.items old new →
      All Fits (top_items (tops.Section section)) → new ≡ old ++ flat_map made (top_items (tops.Section section))
  section_is section old new added fit = added [] refl fit

  pub section_added : (part : TopLevel) (section : Section) (xs : List Item) (old new : List Proc) → part ≡ tops.Section section → xs ≡ section.items →
      ItemsAdded names unit [] xs xs old new → All Fits (top_items part) → new ≡ old ++ flat_map made (top_items part)
  section_added part section xs old new is same added =
      subst (λ q. All Fits (top_items q) → new ≡ old ++ flat_map made (top_items q)) (sym is)
      (section_is section old new (subst (λ ys. ItemsAdded names unit [] ys ys old new) same added))

  alone_is : (p : ProcTree) (old new : List Proc) →
      ((spans : List SpanTree) → [] ≡ innermost (map (span_value names) spans) → ProcFits names p → new ≡ old ++ procedure_of names unit spans p ∷ []) →
      All Fits (top_items (tops.Proc p)) → new ≡ old ++ flat_map made (top_items (tops.Proc p))
  alone_is p old new added fit = added [] refl (All-head Fits (within [] (items.Proc p)) [] fit)

  pub alone_added : (part : TopLevel) (p : ProcTree) (old new : List Proc) → part ≡ tops.Proc p →
      ((spans : List SpanTree) → [] ≡ innermost (map (span_value names) spans) → ProcFits names p → new ≡ old ++ procedure_of names unit spans p ∷ []) →
      All Fits (top_items part) → new ≡ old ++ flat_map made (top_items part)
  alone_added part p old new is added = subst (λ q. All Fits (top_items q) → new ≡ old ++ flat_map made (top_items q)) (sym is) (alone_is p old new added)

  -- a turn of a loop that adds the procedures of each of some things
  pub part_next : {A : Type 0} (f : A → List (Within Item)) (all : List A) (i : ℕ) (x : A) (base old new : List Proc) → i < length all → x ≡ get_or all i x →
      (All Fits (flat_map f all) → old ≡ base ++ flat_map made (flat_map f (take i all))) → (All Fits (f x) → new ≡ old ++ flat_map made (f x)) →
      All Fits (flat_map f all) → new ≡ base ++ flat_map made (flat_map f (take (i + 1) all))
  part_next f all i x base old new inside is before one fit =
      let front = flat_map f (take i all) in
      let split : all ≡ take i all ++ (x ∷ drop (suc i) all) =
      sym (take-append-drop i all) ∙ ap (λ t. take i all ++ t) (drop-cons all i x inside ∙ ap (λ y. y ∷ drop (suc i) all) (sym is)) in
      let whole : flat_map f all ≡ front ++ (f x ++ flat_map f (drop (suc i) all)) = ap (flat_map f) split ∙ flat_map-append f (take i all) (x ∷ drop (suc i) all) in
      let rest = all_right Fits front (f x ++ flat_map f (drop (suc i) all)) (subst (All Fits) whole fit) in
      one (all_left Fits (f x) (flat_map f (drop (suc i) all)) rest) ∙ ap (λ t. t ++ flat_map made (f x)) (before fit)
      ∙ append_assoc base (flat_map made front) (flat_map made (f x)) ∙ ap (λ t. base ++ t) (sym (flat_map-append made front (f x)))
      ∙ ap (λ ws. base ++ flat_map made ws) (sym (flat_plain f all i x inside is))
