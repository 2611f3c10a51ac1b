-- The labels of a section as a walk finds them: some wait for what they stand on.
use Rattle.std.specs.Prelude.{◌≡◌, ℕ, ◌+◌, List, map, ◌++◌}
use Rattle.cmm_ast.specs.declared.declaration.Export.{Export}
use Rattle.cmm_ast.specs.declared.token.Ident.{Ident}
use Rattle.cmm_ast.specs.declared.unit.Item.{Item}
use Rattle.cmm_program.specs.declared.program.Label.{Label}
use Rattle.cmm_static_semantics.specs.Items.{Within}
use Rattle.cmm_elaboration.specs.Data.{datums_among, label_at, section_labels, standing}
use Rattle.cmm_lower_parts.specs.declared.labels.Passed.{Passed}
use Rattle.cmm_lower_parts.specs.Held.{held, label_held}

-- those that wait, and those of the rest of the section
abbrev pub labels_after : List Export → List Ident → ℕ → List (Within Item) → List Label
labels_after es waiting number rest = map (λ i. label_at es i (standing number rest)) waiting ++ section_labels es number rest

abbrev pub waiting_in : Passed → List Ident
waiting_in p = map (λ i. i.now) p.waiting

-- some items of a section are passed
pub record Passes (es : List Export) (is : List (Within Item)) (old new : Passed) (before after : List Label) : Type 0 where
  pub datum : (n : ℕ) → old.datum ≡ held n → new.datum ≡ held (n + datums_among is)
  pub labels : (n : ℕ) (rest : List (Within Item)) → old.datum ≡ held n →
      after ++ map label_held (labels_after es (waiting_in new) (n + datums_among is) rest) ≡ before ++ map label_held (labels_after es (waiting_in old) n (is ++ rest))
