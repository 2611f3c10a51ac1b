-- What hoisting does to a graph (Aho, Lam, Sethi and Ullman, Compilers, code motion): constants are kept in temporaries, which nodes behind the Entry write.
use Rattle.std.specs.Prelude.{◌≡◌, ◌⊎◌, ℕ, suc, ◌+◌, ◌*◌, ◌≤◌, nat_le, IsTrue, Contains, List, [], ◌∷◌, ◌++◌, flat_map, length, slice_set, Some}
use Rattle.std.specs.List.{All, AllZip, list_all}
use Rattle.cmm_words.specs.declared.constant.Constant.{Constant}
use Rattle.cmm_graph.specs.declared.number.NodeId.{NodeId}
use Rattle.cmm_graph.specs.declared.number.Variable.{Variable}
use Rattle.cmm_graph.specs.declared.operand.Destination.TheVariants.{Temporary}
use Rattle.cmm_graph.specs.declared.operand.Operand.{Operand}
use Rattle.cmm_graph.specs.declared.operand.Operand.TheVariants as operand
use Rattle.cmm_graph.specs.declared.operand.Rvalue.TheVariants as rvalue
use Rattle.cmm_graph.specs.declared.node.Node.{Node}
use Rattle.cmm_graph.specs.declared.node.NodeKind.TheVariants.{Assign, Entry}
use Rattle.cmm_graph.specs.declared.graph.Graph.{Graph}
use Rattle.cmm_graph.specs.Paths.{node_of, operands}
use Rattle.cmm_hoist.specs.Keeping.{NodeStandsFor}

-- ---- the chain

-- a node that gives a temporary, by its number, a constant to keep
abbrev pub keeping_node : ℕ → Constant → NodeId → Node
keeping_node number constant next = record { tokens = 1; kind = Assign (Temporary (record { number = number })) (rvalue.Copy (operand.Constant constant)) next }

-- The nodes that do so for temporaries from a number on. They have the numbers from `at` on, and each leads to the one before it, the first one to `next`.
abbrev pub chain : ℕ → ℕ → NodeId → List Constant → List Node
chain first at next [] = []
chain first at next (constant ∷ kept) = keeping_node first constant next ∷ chain (suc first) (suc at) (record { number = at }) kept

-- where control comes to the last of them, which is done first; where there is none, it goes on at once
abbrev pub chain_start : ℕ → NodeId → List Constant → NodeId
chain_start at next [] = next
chain_start at next (constant ∷ kept) = chain_start (suc at) (record { number = at }) kept

-- ---- a graph

-- how many words of a frame its locals and the pairs of its continuations take
abbrev pub frame_words : Graph → ℕ
frame_words g = g.variables + g.temporaries + 2 * length g.continuations

-- An Entry has tokens for its formals and three more, and one for each of these words.
pub record EntryIsCovered (g : Graph) (tokens : ℕ) (variables : List Variable) : Type 0 where
  pub words : frame_words g ≤ tokens
  pub formals : length variables + 3 ≤ tokens
  pub some : 5 ≤ tokens

-- all operands of all its nodes
abbrev pub all_operands : Graph → List Operand
all_operands g = flat_map (λ node. operands node.kind) g.nodes

-- A graph has another's constants hoisted: the temporaries behind all others keep constants that its nodes name, and nodes have these temporaries in place of such
-- constants. The Entry leads to the chain of the nodes that write the temporaries, which leads to where the Entry led; it has left each of these nodes a token of its own.
pub record IsHoistedFrom (old new : Graph) : Type 0 where
  pub kept : List Constant
  pub variables : new.variables ≡ old.variables
  pub temporaries : new.temporaries ≡ old.temporaries + length kept
  pub first : new.first ≡ old.first
  pub continuations : new.continuations ≡ old.continuations
  pub named : All (λ constant. Contains (all_operands old) (operand.Constant constant)) kept
  -- the Entry
  pub formals : List Variable
  pub next : NodeId
  pub before : ℕ
  pub tokens : ℕ
  pub was : node_of old old.first ≡ Some record { tokens = before; kind = Entry formals next }
  pub shared : tokens + length kept ≤ before
  pub covered : ((tokens ≡ before) × (kept ≡ [])) ⊎ EntryIsCovered new tokens formals
  -- all nodes
  pub others : List Node
  pub stand : AllZip (NodeStandsFor old.temporaries kept) old.nodes others
  pub nodes : new.nodes ≡ slice_set others old.first.number record { tokens = tokens; kind = Entry formals (chain_start (length old.nodes) next kept) }
      ++ chain old.temporaries (length old.nodes) next kept

-- ---- the graphs of a program

-- no node of a graph has more tokens
abbrev pub HasTokensWithin : ℕ → Graph → Type 0
HasTokensWithin most g = IsTrue (list_all (λ node. nat_le node.tokens most) g.nodes)

-- A graph is hoisted from another, and no node has more than so many tokens: two for each constant fewer than the longest procedure. A step that enters a
-- procedure has these for the chain there, and the first step of a run, which enters `main`, too.
pub record IsHoistedWithin (most longest : ℕ) (old new : Graph) : Type 0 where
  pub hoisted : IsHoistedFrom old new
  pub tokens : HasTokensWithin most new
  pub spared : most + 2 * length hoisted.kept ≤ longest

pub record AreHoistedWithin (longest : ℕ) (old new : List Graph) : Type 0 where
  pub most : ℕ
  pub all : AllZip (IsHoistedWithin most longest) old new

-- the Entry of a graph is its first node
pub record BeginsAtEntry (g : Graph) : Type 0 where
  pub tokens : ℕ
  pub formals : List Variable
  pub next : NodeId
  pub node : node_of g g.first ≡ Some record { tokens = tokens; kind = Entry formals next }
