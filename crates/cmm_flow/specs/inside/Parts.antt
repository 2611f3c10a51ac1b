-- The outermost operator of an expression, apart from its operands.
use Rattle.std.specs.Prelude.{◌≡◌, ℕ, suc, Bool, true, false, List, [], ◌∷◌}
use mathlib.Core.Former.{one_more}
use Rattle.cmm_program.specs.declared.expression.Expression.{Expression, Row_of-Expression, more_of-Expression}
use Rattle.cmm_program.specs.declared.expression.Expression.TheVariants.{Known, Variable, Register, Stackdata, Continuation, Load', Unary', Binary', SignExtend', ZeroExtend', LowBits'}
use Rattle.cmm_graph.specs.declared.number.NodeId.{NodeId}
use Rattle.cmm_graph.specs.declared.node.Node.{Node}
use Rattle.cmm_graph.specs.declared.operand.Rvalue.{Rvalue}
use Rattle.cmm_graph.specs.declared.operand.Rvalue.TheVariants as rvalue
use Rattle.cmm_program.specs.declared.statement.Lvalue.{Lvalue}
use Rattle.cmm_program.specs.declared.statement.Lvalue.TheVariants as lvalue
use Rattle.cmm_graph.specs.declared.operand.Operand.{Operand}
use Rattle.cmm_graph.specs.declared.operand.Destination.TheVariants as destination
use Rattle.cmm_graph.specs.declared.node.NodeKind.{NodeKind}
use Rattle.cmm_graph.specs.declared.node.NodeKind.TheVariants.{Assign, Store}
use Rattle.cmm_graph.specs.Covering.{access_tokens}
use Rattle.cmm_flow.specs.Operands.{operand_in, operand_of}
use Rattle.cmm_flow.specs.Code.{OperandCode, PartCode, ValueCode, to_temporary}

-- the node that stores a value
abbrev pub store_node : Lvalue → Operand → Operand → NodeId → NodeKind
store_node (lvalue.Target target) address value next = Assign (destination.Target target) (rvalue.Copy value) next
store_node (lvalue.Memory width aligned _) address value next = Store width aligned address value next

-- its tokens
abbrev pub store_tokens : Lvalue → ℕ
store_tokens (lvalue.Target target) = 1
store_tokens (lvalue.Memory width aligned _) = access_tokens width aligned

-- one value for one place
abbrev pub is_single : List Lvalue → List Expression → Bool
is_single (l ∷ []) (e ∷ []) = true
is_single _ _ = false

abbrev mutual
  -- what the last node of an expression computes
  pub rvalue_of : ℕ → Expression → Rvalue
  rvalue_of base (Register number width) = rvalue.Register record { number = number }
  rvalue_of base (Load' width aligned _ address) = rvalue.Load width aligned (operand_in base address)
  rvalue_of base (Unary' op width _ a) = rvalue.Unary op width (operand_in base a)
  rvalue_of base (Binary' op width _ a _ b) = rvalue.Binary op width (operand_in base a) (operand_in (suc base) b)
  rvalue_of base (SignExtend' from to _ a) = rvalue.SignExtend from to (operand_in base a)
  rvalue_of base (ZeroExtend' from to _ a) = rvalue_in base a
  rvalue_of base (LowBits' from to _ a) = rvalue.LowBits from to (operand_in base a)
  rvalue_of base (Known value) = rvalue.Copy (operand_of base (Known value))
  rvalue_of base (Variable number width) = rvalue.Copy (operand_of base (Variable number width))
  rvalue_of base (Stackdata number) = rvalue.Copy (operand_of base (Stackdata number))
  rvalue_of base (Continuation number) = rvalue.Copy (operand_of base (Continuation number))

  pub rvalue_in : {n : _} → ℕ → Row_of-Expression (one_more n) → Rvalue
  rvalue_in base (more_of-Expression a rest) = rvalue_of base a

module _ (nodes : List Node) where
  -- two expressions, which leave their values at the bases 0 and 1
  abbrev pub TwoCode : Expression → Expression → NodeId → NodeId → Type 0
  TwoCode a b n k = (m : NodeId) × OperandCode nodes a 0 n m × OperandCode nodes b 1 m k

  -- the address of what is assigned to, where it is one of memory, into a temporary
  abbrev pub AddressCode : Lvalue → ℕ → NodeId → NodeId → Type 0
  AddressCode (lvalue.Target target) base n k = n ≡ k
  AddressCode (lvalue.Memory width aligned address) base n k = ValueCode nodes address base (to_temporary base) n k

  abbrev mutual
    -- The nodes from n on are the code of its operands, and lead to k.
    pub PartsCode : Expression → ℕ → NodeId → NodeId → Type 0
    PartsCode (Load' width aligned _ address) base n k = PartCode nodes address base n k
    PartsCode (Unary' op width _ a) base n k = PartCode nodes a base n k
    PartsCode (Binary' op width _ a _ b) base n k = (m : NodeId) × PartCode nodes a base n m × PartCode nodes b (suc base) m k
    PartsCode (SignExtend' from to _ a) base n k = PartCode nodes a base n k
    PartsCode (ZeroExtend' from to _ a) base n k = PartsCodeIn a base n k
    PartsCode (LowBits' from to _ a) base n k = PartCode nodes a base n k
    PartsCode _ base n k = n ≡ k

    pub PartsCodeIn : {n : _} → Row_of-Expression (one_more n) → ℕ → NodeId → NodeId → Type 0
    PartsCodeIn (more_of-Expression a rest) base n k = PartsCode a base n k
