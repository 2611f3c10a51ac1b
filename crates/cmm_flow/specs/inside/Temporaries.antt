-- How many temporaries nodes name.
use Rattle.std.specs.Prelude.{ℕ, ◌≤◌, ◌↔◌, ◌&&◌, nat_lt, Bool, true, IsTrue, List}
use Rattle.std.specs.List.{list_all}
use Rattle.cmm_graph.specs.declared.node.Node.{Node}
use Rattle.cmm_graph.specs.declared.operand.Local.{Local}
use Rattle.cmm_graph.specs.declared.operand.Local.TheVariants.{Variable, Temporary}
use Rattle.cmm_graph.specs.Paths.{reads, writes}

-- a local is a variable, or one of n temporaries
abbrev pub is_below : ℕ → Local → Bool
is_below limit (Variable v) = true
is_below limit (Temporary t) = nat_lt t.number limit

-- so are those that a node reads and writes
abbrev pub names_below : ℕ → Node → Bool
names_below limit node = list_all (is_below limit) (reads node.kind) && list_all (is_below limit) (writes node.kind)

-- a count is the least with which all elements of a list pass a test
abbrev pub IsLeast : {A : Type 0} → (ℕ → A → Bool) → List A → ℕ → Type 0
IsLeast passes xs count = (limit : ℕ) → (count ≤ limit) ↔ IsTrue (list_all (passes limit) xs)
