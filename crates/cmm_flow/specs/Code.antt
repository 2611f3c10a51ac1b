-- Which nodes are the code of an expression and of a condition: a relation of the node where control comes to it and of that
-- where it goes on. It is required of the nodes that are passed, wherever they stand.
use Rattle.std.specs.Prelude.{◌≡◌, ℕ, suc, true, false, List, [], ◌∷◌, slice_get, Some}
use Rattle.cmm_words.specs.declared.operators.Cmp.{Cmp}
use Rattle.cmm_words.specs.declared.width.Width.{Width}
use Rattle.cmm_program.specs.declared.expression.Expression.{Expression, Row_of-Expression, more_of-Expression}
use Rattle.cmm_program.specs.declared.expression.Expression.TheVariants.{Known, Variable, Register, Stackdata, Continuation, Load', Unary', Binary', SignExtend', ZeroExtend', LowBits'}
use Rattle.cmm_program.specs.declared.expression.Condition.{Condition, Row_of-Condition, more_of-Condition}
use Rattle.cmm_program.specs.declared.expression.Condition.TheVariants.{Compare, Not', Both', Either'}
use mathlib.Core.Former.{one_more}
use Rattle.cmm_graph.specs.declared.number.NodeId.{NodeId}
use Rattle.cmm_graph.specs.declared.operand.Rvalue.{Rvalue}
use Rattle.cmm_graph.specs.declared.operand.Rvalue.TheVariants as rvalue
use Rattle.cmm_graph.specs.declared.operand.Destination.{Destination}
use Rattle.cmm_graph.specs.declared.operand.Destination.TheVariants.{Temporary}
use Rattle.cmm_graph.specs.declared.node.Node.{Node}
use Rattle.cmm_graph.specs.declared.node.NodeKind.{NodeKind}
use Rattle.cmm_graph.specs.declared.node.NodeKind.TheVariants.{Assign, Branch}
use Rattle.cmm_graph.specs.Covering.{least_for}
use Rattle.cmm_flow.specs.Operands.{is_plain, operand_in, operand_of}

-- the temporary at a base, as what a node writes
abbrev pub to_temporary : ℕ → Destination
to_temporary base = Temporary record { number = base }

module _ (nodes : List Node) where
  -- a node of n tokens
  abbrev pub IsNode : NodeId → ℕ → NodeKind → Type 0
  IsNode n tokens kind = slice_get nodes n.number ≡ Some record { tokens = tokens; kind = kind }

  -- one node that writes the value of a right side, of the least tokens for that
  abbrev pub Assigns : Destination → Rvalue → NodeId → NodeId → Type 0
  Assigns to value n k = IsNode n (least_for value) (Assign to value k)

  abbrev mutual
    -- The nodes from n on write the value of an expression, the last of them to a destination, and lead to k. The others write
    -- temporaries from the base on.
    pub ValueCode : Expression → ℕ → Destination → NodeId → NodeId → Type 0
    ValueCode (Known value) base to n k = Assigns to (rvalue.Copy (operand_of base (Known value))) n k
    ValueCode (Variable number width) base to n k = Assigns to (rvalue.Copy (operand_of base (Variable number width))) n k
    ValueCode (Register number width) base to n k = Assigns to (rvalue.Register record { number = number }) n k
    ValueCode (Stackdata number) base to n k = Assigns to (rvalue.Copy (operand_of base (Stackdata number))) n k
    ValueCode (Continuation number) base to n k = Assigns to (rvalue.Copy (operand_of base (Continuation number))) n k
    ValueCode (Load' width aligned _ address) base to n k =
        (m : NodeId) × PartCode address base n m × Assigns to (rvalue.Load width aligned (operand_in base address)) m k
    ValueCode (Unary' op width _ a) base to n k = (m : NodeId) × PartCode a base n m × Assigns to (rvalue.Unary op width (operand_in base a)) m k
    ValueCode (Binary' op width _ a _ b) base to n k =
        (m : NodeId) × (j : NodeId) × PartCode a base n m × PartCode b (suc base) m j
        × Assigns to (rvalue.Binary op width (operand_in base a) (operand_in (suc base) b)) j k
    ValueCode (SignExtend' from to' _ a) base to n k =
        (m : NodeId) × PartCode a base n m × Assigns to (rvalue.SignExtend from to' (operand_in base a)) m k
    ValueCode (ZeroExtend' from to' _ a) base to n k = SameCode a base to n k
    ValueCode (LowBits' from to' _ a) base to n k =
        (m : NodeId) × PartCode a base n m × Assigns to (rvalue.LowBits from to' (operand_in base a)) m k

    -- an operand of an operator
    pub PartCode : {n : _} → Row_of-Expression (one_more n) → ℕ → NodeId → NodeId → Type 0
    PartCode (more_of-Expression a rest) base n k = elim (is_plain a) [ true ↦ n ≡ k | false ↦ ValueCode a base (to_temporary base) n k ]

    -- what is the value of its operand
    pub SameCode : {n : _} → Row_of-Expression (one_more n) → ℕ → Destination → NodeId → NodeId → Type 0
    SameCode (more_of-Expression a rest) base to n k = ValueCode a base to n k

  -- The nodes from n on lead to k, where the operand of an expression at the base has its value. Where it is an operand itself there is no
  -- node.
  abbrev pub OperandCode : Expression → ℕ → NodeId → NodeId → Type 0
  OperandCode e base n k = elim (is_plain e) [ true ↦ n ≡ k | false ↦ ValueCode e base (to_temporary base) n k ]

  -- so for several expressions, one after the other
  abbrev pub OperandsCode : List Expression → ℕ → NodeId → NodeId → Type 0
  OperandsCode [] base n k = n ≡ k
  OperandsCode (e ∷ es) base n k = (m : NodeId) × OperandCode e base n m × OperandsCode es (suc base) m k

  -- the values of several expressions into temporaries from the base on
  abbrev pub ValuesCode : List Expression → ℕ → NodeId → NodeId → Type 0
  ValuesCode [] base n k = n ≡ k
  ValuesCode (e ∷ es) base n k = (m : NodeId) × ValueCode e base (to_temporary base) n m × ValuesCode es (suc base) m k

  -- a comparison of two values
  abbrev pub CompareCode : Cmp → Width → Expression → Expression → NodeId → NodeId → NodeId → Type 0
  CompareCode operator width a b n held failed =
      (m : NodeId) × (j : NodeId) × OperandCode a 0 n m × OperandCode b 1 m j
      × IsNode j 1 (Branch record { operator = operator; width = width; left = operand_of 0 a; right = operand_of 1 b } held failed)

  abbrev mutual
    -- The nodes from n on lead to one node where a condition holds, and to another where it does not. Where the first part of a
    -- condition decides it, the second is passed over: no expression has an effect.
    pub TestCode : Condition → NodeId → NodeId → NodeId → Type 0
    TestCode (Compare operator width a b) n held failed = CompareCode operator width a b n held failed
    TestCode (Not' _ a) n held failed = TestPart a n failed held
    TestCode (Both' _ a _ b) n held failed = (m : NodeId) × TestPart a n m failed × TestPart b m held failed
    TestCode (Either' _ a _ b) n held failed = (m : NodeId) × TestPart a n held m × TestPart b m held failed

    pub TestPart : {n : _} → Row_of-Condition (one_more n) → NodeId → NodeId → NodeId → Type 0
    TestPart (more_of-Condition a rest) n held failed = TestCode a n held failed
