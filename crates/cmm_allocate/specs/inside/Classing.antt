-- Sets of the locals that suit registers of either kind.
use Rattle.std.specs.Prelude.{◌≡◌, ℕ, ◌<◌, ◌≤◌, ◌||◌, not, Bool, false, List, length}
use Rattle.std.specs.List.{list_any}
use Rattle.cmm_bitset.specs.Sets.{has}
use Rattle.cmm_graph.specs.declared.graph.Graph.{Graph}
use Rattle.cmm_graph.specs.declared.node.Node.{Node}
use Rattle.cmm_graph.specs.declared.number.NodeId.{NodeId}
use Rattle.cmm_live.specs.Exact.{set_at}
use Rattle.cmm_live.specs.declared.live_sets.LiveSets.{LiveSets}
use Rattle.cmm_live.specs.Locals.{local_count}
use Rattle.cmm_allocate.specs.Classes.{is_in_some, leads_past_cut, suits_callee_saves, suits_temporary}

-- a set of numbers below a size has what is in one of some sets
pub record IsUnionOf (sets : List (List Bool)) (size : ℕ) (all : List Bool) : Type 0 where
  pub size_is : length all ≡ size
  pub members : (v : ℕ) → has all v ≡ is_in_some sets v

-- of the numbers below a count, a set has those that another one of its size has not
pub record IsComplementTo (count : ℕ) (set others : List Bool) : Type 0 where
  pub size_is : length others ≡ length set
  pub below : (v : ℕ) → v < count → has others v ≡ not (has set v)
  pub past : (v : ℕ) → count ≤ v → has others v ≡ false

-- a set took in what passes a test
pub record HasTaken (test : ℕ → Bool) (old all : List Bool) : Type 0 where
  pub size_is : length all ≡ length old
  pub members : (v : ℕ) → has all v ≡ (has old v || test v)

-- what is live before one of some nodes
abbrev pub is_before_some : List (List Bool) → List NodeId → ℕ → Bool
is_before_some before nodes v = list_any (λ m. has (set_at before m.number) v) nodes

-- what is live where one of some nodes leads as a cut statement
abbrev pub is_past_some : Graph → List (List Bool) → List Node → ℕ → Bool
is_past_some g before nodes v = list_any (λ node. leads_past_cut g before node v) nodes

-- a set has just the locals that pass a test
pub record IsClass (g : Graph) (test : ℕ → Bool) (set : List Bool) : Type 0 where
  pub size : length set ≡ local_count g
  pub exact : (v : ℕ) → v < local_count g → has set v ≡ test v

pub record AreClasses (g : Graph) (live : LiveSets) (temporaries kept : List Bool) : Type 0 where
  pub temporary : IsClass g (suits_temporary g live) temporaries
  pub callee_saves : IsClass g (suits_callee_saves live) kept
