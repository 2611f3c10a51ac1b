-- A set for each local: with which others it is live at a site, and which are live after a node that writes it.
use Rattle.std.specs.Prelude.{◌≡◌, ℕ, ◌<◌, ◌==◌, ◌&&◌, ◌||◌, not, Bool, List, length}
use Rattle.std.specs.List.{list_any}
use Rattle.cmm_bitset.specs.Sets.{has}
use Rattle.cmm_colour.specs.Graphs.{adjacent}
use Rattle.cmm_graph.specs.declared.operand.Local.{Local}
use Rattle.cmm_graph.specs.declared.node.Node.{Node}
use Rattle.cmm_graph.specs.declared.graph.Graph.{Graph}
use Rattle.cmm_graph.specs.Paths.{successors, writes}
use Rattle.cmm_graph.specs.Ranges.{is_local}
use Rattle.cmm_live.specs.declared.live_sets.LiveSets.{LiveSets}
use Rattle.cmm_live.specs.Exact.{set_at}
use Rattle.cmm_live.specs.Locals.{local_count, local_number}

-- so many sets of as many numbers
pub record AreRows (count : ℕ) (rows : List (List Bool)) : Type 0 where
  pub size : length rows ≡ count
  pub sized : (a : ℕ) → a < count → length (set_at rows a) ≡ count

-- whether the set of a number has another
abbrev pub row_has : List (List Bool) → ℕ → ℕ → Bool
row_has rows a b = has (set_at rows a) b

-- whether a number is one of a list
abbrev pub is_one_of : List ℕ → ℕ → Bool
is_one_of numbers a = list_any (λ n. n == a) numbers

-- the sets have what they had, and some of them another set's numbers
pub record TakeIn (count : ℕ) (takes : ℕ → Bool) (set : List Bool) (old new : List (List Bool)) : Type 0 where
  pub are_rows : AreRows count new
  pub each : (a b : ℕ) → a < count → row_has new a b ≡ (row_has old a b || (takes a && has set b))

-- ---- what writes bring

-- whether a number is that of one of some locals
abbrev pub is_number_of : Graph → List Local → ℕ → Bool
is_number_of g locals a = list_any (λ l. is_local g l && (local_number g l == a)) locals

-- whether a number is in the set of a successor of a node
abbrev pub is_behind : Graph → List (List Bool) → Node → ℕ → Bool
is_behind g before node b = list_any (λ m. has (set_at before m.number) b) (successors g node.kind)

-- the sets have what is live after nodes that write
pub record HaveWrites (g : Graph) (count : ℕ) (before : List (List Bool)) (nodes : List Node) (rows : List (List Bool)) : Type 0 where
  pub are_rows : AreRows count rows
  pub each : (a b : ℕ) → a < count → row_has rows a b ≡ list_any (λ node. is_number_of g (writes node.kind) a && is_behind g before node b) nodes

-- ---- what sites bring

-- the sets have what they had, and what they have to do with others at sites
pub record HaveSites (count : ℕ) (sites old new : List (List Bool)) : Type 0 where
  pub are_rows : AreRows count new
  pub each : (a b : ℕ) → a < count → row_has new a b ≡ (row_has old a b || list_any (λ set. has set a && has set b) sites)

-- both: the set of each local has what is live after the nodes that write it, and what is live at the sites at which it is
pub record AreConflictSets (g : Graph) (found : LiveSets) (rows : List (List Bool)) : Type 0 where
  pub written : List (List Bool)
  pub writes_in : HaveWrites g (local_count g) found.before g.nodes written
  pub sites_in : HaveSites (local_count g) found.sites written rows

-- ---- pairs

-- whether a set has a number of a class that is not the given one
abbrev pub is_other : List Bool → List Bool → ℕ → ℕ → Bool
is_other class set a b = not (b == a) && (has class b && has set b)

-- whether a number of a class is to be joined to another, by its set
abbrev pub is_pair : List Bool → List (List Bool) → ℕ → ℕ → Bool
is_pair class rows a b = has class a && is_other class (set_at rows a) a b

-- so are all pairs
pub record HavePairs (class : List Bool) (rows : List (List Bool)) (graph : List (List ℕ)) : Type 0 where
  pub size : length graph ≡ length class
  pub each : (v w : ℕ) → adjacent graph v w ≡ (is_pair class rows v w || is_pair class rows w v)

-- some numbers were joined to one
pub record JoinedTo (a : ℕ) (others : List ℕ) (old new : List (List ℕ)) : Type 0 where
  pub size : length new ≡ length old
  pub each : (v w : ℕ) → adjacent new v w ≡ (adjacent old v w || (((v == a) && is_one_of others w) || ((w == a) && is_one_of others v)))
