-- The procedures among what stands in a unit, and which of them a walk meets next.
use Rattle.std.specs.Prelude.{◌≡◌, List, [], ◌∷◌, flat_map, length, take}
use Rattle.cmm_ast.specs.declared.procedure.Proc.{Proc}
use Rattle.cmm_ast.specs.declared.unit.Item.{Item}
use Rattle.cmm_ast.specs.declared.unit.Item.TheVariants as items
use Rattle.cmm_static_semantics.specs.Items.{Within}

abbrev pub item_procs : Item → List Proc
item_procs (items.Proc p) = p ∷ []
item_procs _ = []

-- in textual order
abbrev pub procs_of_items : List (Within Item) → List Proc
procs_of_items is = flat_map (λ i. item_procs i.what) is

-- the first of some procedures are those of these items
abbrev pub BeginWith : List Proc → List (Within Item) → Type 0
BeginWith left is = take (length (procs_of_items is)) left ≡ procs_of_items is
