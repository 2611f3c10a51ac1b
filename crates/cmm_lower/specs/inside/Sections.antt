-- Procedures that are added behind others, with the spans around them.
use Rattle.std.specs.Prelude.{◌≡◌, ℕ, List, ◌++◌, flat_map, map}
use Rattle.std.specs.List.{All}
use Rattle.cmm_ast.specs.declared.unit.Item.{Item}
use Rattle.cmm_program.specs.declared.procedure.Proc.{Proc}
use Rattle.cmm_static_semantics.specs.Items.{SpanTree, item_within}
use Rattle.cmm_static_semantics.specs.Senses.{Senses}
use Rattle.cmm_elaboration.specs.Meaning.{item_procedures}
use Rattle.cmm_elaboration.specs.Sites.{SpanValue, innermost, span_value}
use Rattle.cmm_lower.specs.Fitting.{ItemFits}

module _ (names : Senses) (unit : ℕ) (around : List SpanValue) where
  abbrev pub ItemAdded : Item → List Proc → List Proc → Type 0
  ItemAdded i old new = (spans : List SpanTree) → around ≡ innermost (map (span_value names) spans) → All (λ w. ItemFits names w.what) (item_within spans i) →
      new ≡ old ++ flat_map (item_procedures names unit) (item_within spans i)

  -- of some items those that are done
  abbrev pub ItemsAdded : List Item → List Item → List Proc → List Proc → Type 0
  ItemsAdded all done old new = (spans : List SpanTree) → around ≡ innermost (map (span_value names) spans) → All (λ w. ItemFits names w.what) (flat_map (item_within spans) all) →
      new ≡ old ++ flat_map (item_procedures names unit) (flat_map (item_within spans) done)
