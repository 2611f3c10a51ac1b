-- Statements without blocks, and blocks as lists.
use Rattle.std.specs.Prelude.{Bool, true, false, List}
use Rattle.cmm_program.specs.declared.expression.Expression.{Expression}
use Rattle.cmm_program.specs.declared.statement.Form.{Form}
use Rattle.cmm_program.specs.declared.statement.Form.TheVariants as form
use Rattle.cmm_graph.specs.declared.number.NodeId.{NodeId}
use Rattle.cmm_graph.specs.declared.node.HostCall.TheVariants.{PutByte}
use Rattle.cmm_graph.specs.declared.node.Node.{Node}
use Rattle.cmm_graph.specs.declared.node.NodeKind.TheVariants.{Host}
use Rattle.cmm_flow.specs.Operands.{operand_of}
use Rattle.cmm_flow.specs.Code.{IsNode, OperandCode}

-- a statement without blocks, that is no label, no `goto` and no continuation
abbrev pub is_simple : Form → Bool
is_simple (form.Assign to values) = true
is_simple (form.Call site callee actuals) = true
is_simple (form.Yield site values) = true
is_simple (form.Checked site op width left right) = true
is_simple (form.PutByte value) = true
is_simple (form.GetByte target) = true
is_simple (form.Jump callee actuals) = true
is_simple (form.Return exit alternates values) = true
is_simple (form.Cut to values own) = true
is_simple _ = false

abbrev pub PutCode : List Node → Expression → NodeId → NodeId → Type 0
PutCode nodes value n k = (j : NodeId) × OperandCode nodes value 0 n j × IsNode nodes j 1 (Host (PutByte (operand_of 0 value)) k)
