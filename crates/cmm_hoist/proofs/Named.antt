-- Constants that are operands of a node are operands of its graph.
use Rattle.std.proofs.Common.{◌≡◌, ℕ, zero, suc, ◌<◌, subst, arith, List, [], ◌∷◌, length, get_or}
use Rattle.std.specs.Prelude.{Contains, flat_map}
use Rattle.std.proofs.lemmas.List.Concat.{flat_map-cons}
use Rattle.std.proofs.lemmas.List.Elements.{Contains-append_left, Contains-append_right}
use Rattle.cmm_graph.specs.declared.graph.Graph.{Graph}
use Rattle.cmm_graph.specs.declared.node.Node.{Node}
use Rattle.cmm_graph.specs.Paths.{operands}
use Rattle.cmm_hoist.specs.Graphs.{all_operands}
use Rattle.cmm_hoist.specs.inside.Worth.{IsWithin}

contains_part : {A B : Type 0} (f : A → List B) (xs : List A) (i : ℕ) (d : A) (y : B) → i < length xs → Contains (f (get_or xs i d)) y →
    Contains (flat_map f xs) y
contains_part f [] i d y less there = absurd (omega arith)
contains_part f (x ∷ xs) zero d y less there = rw flat_map-cons (Contains-append_left (f x) (flat_map f xs) y there)
contains_part f (x ∷ xs) (suc i) d y less there =
    rw flat_map-cons (Contains-append_right (f x) (flat_map f xs) y (contains_part f xs i d y (omega arith) there))

-- what a node of a graph has its graph has
pub node_is_within : (g : Graph) (i : ℕ) (node : Node) → i < length g.nodes → node ≡ get_or g.nodes i node → IsWithin (operands node.kind) (all_operands g)
node_is_within g i node less is o there =
    contains_part (λ (n : Node). operands n.kind) g.nodes i node o less (subst (λ (n : Node). Contains (operands n.kind) o) is there)
