-- What a node that stands for another has of it, and the nodes of graphs that stand for others.
use Rattle.std.proofs.Common.{◌≡◌, ℕ, zero, suc, inl, inr, refl, sym, ◌∙◌, ap, subst, List, [], ◌∷◌}
use Rattle.std.proofs.lemmas.Bool.{and_parts}
use Rattle.std.proofs.lemmas.List.Elements.{All-cons, All-head, All-nil, All-tail}
use Rattle.std.specs.Prelude.{◌&&◌, slice_get, Bool, true, false, IsTrue, Option, Some, None}
use Rattle.std.specs.List.{All, AllZip, list_all}
use Rattle.cmm_graph.specs.declared.graph.Graph.{Graph}
use Rattle.cmm_graph.specs.declared.node.Node.{Node}
use Rattle.cmm_graph.specs.declared.node.NodeKind.{NodeKind}
use Rattle.cmm_graph.specs.declared.node.NodeKind.TheVariants.{Assign}
use Rattle.cmm_graph.specs.declared.number.NodeId.{NodeId}
use Rattle.cmm_graph.specs.declared.operand.Destination.{Destination}
use Rattle.cmm_graph.specs.declared.operand.Rvalue.{Rvalue}
use Rattle.cmm_graph.specs.Paths.{node_of, reads}
use Rattle.cmm_fold.specs.Graphs.{GraphStandsFor, KindStandsFor, NodeStandsFor}

-- what looks at no right side
abbrev pub IsBlind : {A : Type 0} → (NodeKind → A) → Type 0
IsBlind f = (to : Destination) (value folded : Rvalue) (next : NodeId) → f (Assign to folded next) ≡ f (Assign to value next)

-- is the same of a node that stands for another
pub kind_same : {A : Type 0} (f : NodeKind → A) → IsBlind f → (old new : NodeKind) → KindStandsFor old new → f new ≡ f old
kind_same f blind old new (inl e) = ap f e
kind_same f blind old new (inr a) = ap f a.is ∙ (blind a.to a.value a.folded a.next ∙ sym (ap f a.was))

pub reads_same : (old new : NodeKind) → KindStandsFor old new → reads new ≡ reads old
reads_same old new (inl e) = ap reads e
reads_same old new (inr a) = ap reads a.is ∙ (a.stands.reads ∙ sym (ap reads a.was))

-- ---- the nodes of a graph

-- there is none in either, or the one stands for the other
abbrev pub MayStand : {A : Type 0} → (A → A → Type 0) → Option A → Option A → Type 0
MayStand R None None = Unit {0}
MayStand R (Some a) (Some b) = R a b
MayStand R _ _ = ⊥

pub stand_at : {A : Type 0} (R : A → A → Type 0) (old new : List A) → AllZip R old new → (n : ℕ) → MayStand R (slice_get old n) (slice_get new n)
stand_at R [] [] all n = tt
stand_at R [] (b ∷ new) all n = absurd all
stand_at R (a ∷ old) [] all n = absurd all
stand_at R (a ∷ old) (b ∷ new) all zero = all.0
stand_at R (a ∷ old) (b ∷ new) all (suc n) = stand_at R old new all.1 n

pub node_stands : (old new : Graph) → GraphStandsFor old new → (n : NodeId) → MayStand NodeStandsFor (node_of old n) (node_of new n)
node_stands old new stands n = stand_at NodeStandsFor old.nodes new.nodes stands.nodes n.number

-- in both directions
pub record NewNode (old new : Graph) (n : NodeId) (node : Node) : Type 0 where
  pub other : Node
  pub is_there : node_of new n ≡ Some other
  pub stands : NodeStandsFor node other

pub new_node : (old new : Graph) → GraphStandsFor old new → (n : NodeId) (node : Node) → node_of old n ≡ Some node → NewNode old new n node
new_node old new stands n node is = by (node_of old n) (node_of new n) refl is (node_stands old new stands n)
  where
    by : (x y : Option Node) → node_of new n ≡ y → x ≡ Some node → MayStand NodeStandsFor x y → NewNode old new n node
    by None y there same may = absurd (cc)
    by (Some a) None there same may = absurd may
    by (Some a) (Some b) there same may = let equal : a ≡ node = cc in record { other = b; is_there = there; stands = subst (λ (z : Node). NodeStandsFor z b) equal may }

pub record OldNode (old new : Graph) (n : NodeId) (node : Node) : Type 0 where
  pub other : Node
  pub is_there : node_of old n ≡ Some other
  pub stands : NodeStandsFor other node

pub old_node : (old new : Graph) → GraphStandsFor old new → (n : NodeId) (node : Node) → node_of new n ≡ Some node → OldNode old new n node
old_node old new stands n node is = by (node_of old n) (node_of new n) refl is (node_stands old new stands n)
  where
    by : (x y : Option Node) → node_of old n ≡ x → y ≡ Some node → MayStand NodeStandsFor x y → OldNode old new n node
    by x None there same may = absurd (cc)
    by None (Some b) there same may = absurd may
    by (Some a) (Some b) there same may = let equal : b ≡ node = cc in record { other = a; is_there = there; stands = subst (λ (z : Node). NodeStandsFor a z) equal may }

-- ---- what holds of all nodes

pub tests_through : (f h : Node → Bool) → ((a b : Node) → NodeStandsFor a b → IsTrue (f a) → IsTrue (h b)) → (old new : List Node) → AllZip NodeStandsFor old new →
    IsTrue (list_all f old) → IsTrue (list_all h new)
tests_through f h each [] [] all holds = refl
tests_through f h each [] (b ∷ new) all holds = absurd all
tests_through f h each (a ∷ old) [] all holds = absurd all
tests_through f h each (a ∷ old) (b ∷ new) all holds =
    let parts = and_parts (f a) (list_all f old) holds in
    both (h b) (list_all h new) (each a b all.0 parts.0) (tests_through f h each old new all.1 parts.1)
  where
    both : (x y : Bool) → IsTrue x → IsTrue y → IsTrue (x && y)
    both true y one two = two
    both false y one two = absurd (cc)

pub facts_through : (P Q : Node → Type 0) → ((a b : Node) → NodeStandsFor a b → P a → Q b) → (old new : List Node) → AllZip NodeStandsFor old new → All P old → All Q new
facts_through P Q each [] [] all holds = All-nil Q
facts_through P Q each [] (b ∷ new) all holds = absurd all
facts_through P Q each (a ∷ old) [] all holds = absurd all
facts_through P Q each (a ∷ old) (b ∷ new) all holds =
    All-cons Q b new (each a b all.0 (All-head P a old holds)) (facts_through P Q each old new all.1 (All-tail P a old holds))

-- a test that looks at no right side
pub tests_same : (test : NodeKind → Bool) → IsBlind test → (old new : List Node) → AllZip NodeStandsFor old new → IsTrue (list_all (λ node. test node.kind) old) →
    IsTrue (list_all (λ node. test node.kind) new)
tests_same test blind =
    tests_through (λ node. test node.kind) (λ node. test node.kind) (λ a b stands holds. kind_same test blind a.kind b.kind stands.kind ∙ holds)
