-- What a node has in place of the constants that temporaries keep.
use Rattle.std.specs.Prelude.{◌≡◌, ◌⊎◌, ℕ, ◌+◌, Bool, true, false, List, slice_get, Some}
use Rattle.cmm_words.specs.declared.constant.Constant.{Constant}
use Rattle.cmm_words.specs.declared.operators.Op2.{Op2}
use Rattle.cmm_words.specs.declared.width.Width.{Width}
use Rattle.cmm_graph.specs.declared.number.NodeId.{NodeId}
use Rattle.cmm_graph.specs.declared.number.Temporary.{Temporary}
use Rattle.cmm_graph.specs.declared.operand.Comparison.{Comparison}
use Rattle.cmm_graph.specs.declared.operand.Destination.{Destination}
use Rattle.cmm_graph.specs.declared.operand.Local.TheVariants as local
use Rattle.cmm_graph.specs.declared.operand.Operand.{Operand}
use Rattle.cmm_graph.specs.declared.operand.Operand.TheVariants as operand
use Rattle.cmm_graph.specs.declared.operand.Rvalue.{Rvalue}
use Rattle.cmm_graph.specs.declared.operand.Rvalue.TheVariants as rvalue
use Rattle.cmm_graph.specs.declared.node.Node.{Node}
use Rattle.cmm_graph.specs.declared.node.NodeKind.{NodeKind}
use Rattle.cmm_graph.specs.declared.node.NodeKind.TheVariants.{Assign, Branch, Store}

-- a node that names no constant in whose place a temporary may stand: what it passes or tests by ranges stays
abbrev pub is_left : NodeKind → Bool
is_left (Assign to value next) = false
is_left (Store width aligned address value next) = false
is_left (Branch test then_ otherwise) = false
is_left _ = true

-- the temporary that keeps the constant with this number among those that are kept, where the first of these temporaries is known
abbrev pub keeper : ℕ → ℕ → Temporary
keeper first index = record { number = first + index }

module _ (first : ℕ) (kept : List Constant) where
  -- an operand is a constant that is kept, and the other one the temporary that keeps it
  pub record IsKept (old new : Operand) : Type 0 where
    pub index : ℕ
    pub constant : Constant
    pub is_kept : slice_get kept index ≡ Some constant
    pub was : old ≡ operand.Constant constant
    pub is : new ≡ operand.Local (local.Temporary (keeper first index))

  -- an operand stands for another: it is the same, or the temporary that keeps it
  abbrev pub OperandStandsFor : Operand → Operand → Type 0
  OperandStandsFor old new = (new ≡ old) ⊎ IsKept old new

  -- so do comparisons, right sides and nodes, which are the same but for some operands
  pub data TestStandsFor : Comparison → Comparison → Type 0 where
    Compares : (old : Comparison) (left right : Operand) → OperandStandsFor old.left left → OperandStandsFor old.right right →
        TestStandsFor old (record old { left = left; right = right })

  pub data RvalueStandsFor : Rvalue → Rvalue → Type 0 where
    Copies : (old new : Operand) → OperandStandsFor old new → RvalueStandsFor (rvalue.Copy old) (rvalue.Copy new)
    Loads : (width : Width) (aligned : ℕ) (old new : Operand) → OperandStandsFor old new →
        RvalueStandsFor (rvalue.Load width aligned old) (rvalue.Load width aligned new)
    Computes : (operator : Op2) (width : Width) (left right first second : Operand) → OperandStandsFor left first → OperandStandsFor right second →
        RvalueStandsFor (rvalue.Binary operator width left right) (rvalue.Binary operator width first second)
    Tests : (old new : Comparison) → TestStandsFor old new → RvalueStandsFor (rvalue.Compare old) (rvalue.Compare new)
    SameRvalue : (value : Rvalue) → RvalueStandsFor value value

  pub data KindStandsFor : NodeKind → NodeKind → Type 0 where
    Assigns : (to : Destination) (old new : Rvalue) (next : NodeId) → RvalueStandsFor old new → KindStandsFor (Assign to old next) (Assign to new next)
    Stores : (width : Width) (aligned : ℕ) (address value place stored : Operand) (next : NodeId) → OperandStandsFor address place → OperandStandsFor value stored →
        KindStandsFor (Store width aligned address value next) (Store width aligned place stored next)
    Branches : (old new : Comparison) (then_ otherwise : NodeId) → TestStandsFor old new → KindStandsFor (Branch old then_ otherwise) (Branch new then_ otherwise)
    SameKind : (kind : NodeKind) → KindStandsFor kind kind

  pub record NodeStandsFor (old new : Node) : Type 0 where
    pub tokens : new.tokens ≡ old.tokens
    pub kind : KindStandsFor old.kind new.kind
