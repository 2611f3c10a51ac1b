-- Nodes that have their place in code: behind the label of each stands its code.
use Rattle.std.specs.Prelude.{◌≡◌, ◌⊎◌, ℕ, suc, ◌+◌, ◌*◌, ◌<◌, ◌≤◌, ◌==◌, ◌||◌, not, Bool, true, false, List, [], ◌∷◌, ◌++◌, length, slice_get, slice_set, Option, Some, None}
use Rattle.cmm_bitset.specs.Sets.{has}
use Rattle.cmm_program.specs.State.{Setting}
use Rattle.cmm_graph.specs.declared.number.NodeId.{NodeId}
use Rattle.cmm_graph.specs.declared.number.SiteId.{SiteId}
use Rattle.cmm_graph.specs.declared.node.Node.{Node}
use Rattle.cmm_graph.specs.declared.node.NodeKind.{NodeKind}
use Rattle.cmm_graph.specs.declared.graph.Graph.{Graph}
use Rattle.cmm_live.specs.Sites.{site_of}
use Rattle.rv_asm.specs.Appending.{Appends, Codes}
use Rattle.rv_asm.specs.Parts.{Code}
use Rattle.rv_asm.specs.Sizes.{all_longest}
use Rattle.rv_asm.specs.declared.part.Meaning.{Meaning}
use Rattle.rv_asm.specs.declared.part.Meaning.TheVariants.{Inner}
use Rattle.rv_asm.specs.declared.part.Part.{Part}
use Rattle.rv_asm.specs.declared.part.Part.TheVariants.{Place}
use Rattle.cmm_select.specs.Switches.{MakesInner}
use Rattle.cmm_image_machine.specs.Machine.{Launch}
use Rattle.cmm_located.specs.Compiled.{Compiled}
use Rattle.cmm_emit_laws.specs.Finished.{Finished, code_of}
use Rattle.cmm_emit.specs.declared.context.Context.{Context}
use Rattle.cmm_emit.specs.declared.context.Targets.{Targets}
use Rattle.cmm_emit.specs.Costs.{cost_of}
use Rattle.cmm_emit.specs.Naming.{label_at}
use Rattle.cmm_emit.specs.Standing.{CanWait, HasCode, IsContextOf, IsReady, SiteStands, inner_count, labels_with}

-- nodes have labels of their own, which are placed for just the nodes of a set
pub record AreLaid (labels : List Meaning) (p : Context) (placed : List Bool) : Type 0 where
  pub size : length placed ≡ length p.nodes
  pub each : (k : ℕ) → k < length p.nodes → slice_get labels (label_at p.nodes k).number ≡ Some (Inner (has placed k))
  pub apart : (j k : ℕ) → j < length p.nodes → k < length p.nodes → (label_at p.nodes j).number ≡ (label_at p.nodes k).number → j ≡ k

-- sites have labels of their own too
pub record HaveSites (p : Context) : Type 0 where
  pub apart : (j k : ℕ) → j < length p.sites → k < length p.sites → (label_at p.sites j).number ≡ (label_at p.sites k).number → j ≡ k
  pub of_none : (j k : ℕ) → j < length p.sites → k < length p.nodes → (label_at p.sites j).number ≡ (label_at p.nodes k).number → ⊥

-- the number of a label of a node or of a site
abbrev pub IsOwn : Context → ℕ → Type 0
IsOwn p n = ((k : ℕ) × (k < length p.nodes) × ((label_at p.nodes k).number ≡ n)) ⊎ ((k : ℕ) × (k < length p.sites) × ((label_at p.sites k).number ≡ n))

-- labels of nodes and of sites may have come to places, and all others that were there stay as they are; those made since have places
pub record PlacesOwn (p : Context) (old new : List Meaning) : Type 0 where
  pub count : length old ≤ length new
  pub each : (n : ℕ) → (slice_get new n ≡ slice_get old n) ⊎ ((IsOwn p n ⊎ (length old ≤ n)) × (slice_get new n ≡ Some (Inner true)))

-- none of them has a place yet
abbrev pub AreUnplaced : List Meaning → Context → Type 0
AreUnplaced labels p = (k : ℕ) → k < length p.sites → slice_get labels (label_at p.sites k).number ≡ Some (Inner false)

-- no two nodes wait at one site
abbrev pub WaitApart : Graph → Type 0
WaitApart g =
    (site : SiteId) (j k : ℕ) (a b : Node) → slice_get g.nodes j ≡ Some a → slice_get g.nodes k ≡ Some b → site_of a.kind ≡ Some site →
    site_of b.kind ≡ Some site → j ≡ k

-- the labels once a node has its place, if one has
abbrev pub labels_behind : Context → Option NodeId → List Meaning → List Meaning
labels_behind p there labels = elim there [ Some n ↦ slice_set labels (label_at p.nodes n.number).number (Inner true) | None ↦ labels ]

-- So they are behind the code of a node, which may have made labels of its own.
abbrev pub AreLabelsBehind : Context → NodeKind → Option NodeId → List Meaning → List Meaning → Type 0
AreLabelsBehind p kind there old new =
    (mid : List Meaning) × MakesInner (inner_count kind) (labels_with p kind old) mid × (new ≡ labels_behind p there mid)

-- code ends where a node has its place, which it had not before
pub record EndsAt (p : Context) (n : NodeId) (old new : List Bool) (parts : List Part) : Type 0 where
  pub front : List Part
  pub is : parts ≡ front ++ Place (label_at p.nodes n.number) ∷ []
  pub within : n.number < length p.nodes
  pub fresh : has old n.number ≡ false
  pub placed : new ≡ slice_set old n.number true

-- a node's code with what leads on behind it, wherever finished code has it
abbrev pub CodesAlone : Context → Targets → NodeKind → Code → ℕ → ℕ → Type 0
CodesAlone p y kind x from to =
    (s : Setting) (c : Compiled) (l : Launch) (f : Finished) (q : ℕ) (n : NodeId) → x ≡ code_of l f q → IsContextOf s c l f q p y →
    f.node_at q n ≡ from → HasCode s c l f q n kind (cost_of p y kind)

-- of the node with a number
abbrev pub CodesNumbered : Context → Targets → ℕ → NodeKind → Code → ℕ → ℕ → Type 0
CodesNumbered p y k kind x from to =
    (s : Setting) (c : Compiled) (l : Launch) (f : Finished) (q : ℕ) → x ≡ code_of l f q → IsContextOf s c l f q p y →
    f.node_at q (record { number = k }) ≡ from → HasCode s c l f q (record { number = k }) kind (cost_of p y kind)

-- a node's code is still to come: the node has no place yet, or is the one that is next
abbrev pub IsToCome : List Bool → Option NodeId → ℕ → Type 0
IsToCome placed (Some n) k = (has placed k ≡ false) ⊎ (k ≡ n.number)
IsToCome placed None k = has placed k ≡ false

-- as a test
abbrev pub is_to_come : List Bool → Option NodeId → ℕ → Bool
is_to_come placed (Some n) k = not (has placed k) || (k == n.number)
is_to_come placed None k = not (has placed k)

-- the sites of such nodes have no place yet
abbrev pub SitesWait : Context → Graph → List Meaning → List Bool → Option NodeId → Type 0
SitesWait p g labels placed next = (k : ℕ) (node : Node) → slice_get g.nodes k ≡ Some node → IsToCome placed next k → CanWait p node.kind labels

-- the code of a node is there: the node has its place, and is not the one that is next
abbrev pub HasCome : List Bool → Option NodeId → ℕ → Type 0
HasCome placed (Some n) k = (has placed k ≡ true) × (k ≡ n.number → ⊥)
HasCome placed None k = has placed k ≡ true

-- the sites of such nodes stand behind the instructions by which these wait
abbrev pub SitesStand : Context → Graph → List Bool → Option NodeId → List Part → Type 0
SitesStand p g placed next parts = (k : ℕ) (node : Node) → slice_get g.nodes k ≡ Some node → HasCome placed next k → SiteStands false p node.kind parts

module _ (p : Context) (y : Targets) where
  -- the most instructions of those nodes of a list, numbered from one on, whose numbers pass a test
  abbrev pub cost_where : (ℕ → Bool) → ℕ → List Node → ℕ
  cost_where test k [] = 0
  cost_where test k (node ∷ nodes) = elim (test k) [ true ↦ cost_of p y node.kind | false ↦ 0 ] + cost_where test (suc k) nodes

  -- of those whose code is still to come
  abbrev pub cost_to_come : List Bool → Option NodeId → List Node → ℕ
  cost_to_come placed next nodes = cost_where (is_to_come placed next) 0 nodes

  -- the most bytes of some parts, with the code of a graph that is still to come
  abbrev pub size_with : Graph → List Part → List Bool → Option NodeId → ℕ
  size_with g parts placed next = all_longest parts + 4 * cost_to_come placed next g.nodes

module _ (p : Context) (y : Targets) (g : Graph) where
  -- the code of the node with a number
  abbrev pub StandsHere : ℕ → Code → ℕ → ℕ → Type 0
  StandsHere k x from to = (node : Node) → slice_get g.nodes k ≡ Some node → CodesNumbered p y k node.kind x from to

  -- so it is for each node of a set, behind its label, but for one that may still come
  abbrev pub HaveCode : List Bool → Option NodeId → List Part → Type 0
  HaveCode placed (Some n) parts = (k : ℕ) → has placed k ≡ true → (k ≡ n.number → ⊥) → Codes parts (label_at p.nodes k) (StandsHere k)
  HaveCode placed None parts = (k : ℕ) → has placed k ≡ true → Codes parts (label_at p.nodes k) (StandsHere k)

  -- code ends where a node has its place, whose code is still to come, while each other node of the set has its own
  pub record IsPending (labels : List Meaning) (placed : List Bool) (n : NodeId) (parts : List Part) : Type 0 where
    pub ready : IsReady labels p y
    pub laid : AreLaid labels p placed
    pub waits : SitesWait p g labels placed (Some n)
    pub within : n.number < length p.nodes
    pub member : has placed n.number ≡ true
    pub front : List Part
    pub ends : parts ≡ front ++ Place (label_at p.nodes n.number) ∷ []
    pub have : HaveCode placed (Some n) parts
    pub stand : SitesStand p g placed (Some n) parts

  -- between two nodes: labels are ready, and each node that has its place has its code
  pub record IsBetween (labels : List Meaning) (placed : List Bool) (parts : List Part) : Type 0 where
    pub ready : IsReady labels p y
    pub laid : AreLaid labels p placed
    pub waits : SitesWait p g labels placed None
    pub have : HaveCode placed None parts
    pub stand : SitesStand p g placed None parts

  -- Since then more was laid behind, where this node had been next, if one had: nodes keep their places, of the labels that were there just those of the procedure may have come to
  -- places, and with what is still to come the code is no longer than it was to be.
  pub record IsLaidBehind (next : Option NodeId) (labels now : List Meaning) (placed more : List Bool) (parts longer : List Part) : Type 0 where
    pub grows : (k : ℕ) → has placed k ≡ true → has more k ≡ true
    pub added : Appends parts longer (λ x from to. Unit {0})
    pub places : PlacesOwn p labels now
    pub size : size_with p y g longer more None ≤ size_with p y g parts placed next
