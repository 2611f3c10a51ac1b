-- Which graphs are in range: each number names what the graph has, a node leads only to nodes where a run may stand, and
-- landings are Entries and CopyIns.
use Rattle.std.specs.Prelude.{◌^◌, ◌&&◌, nat_le, nat_lt, Bool, true, false, IsTrue, length, Option, Some, None}
use Rattle.std.specs.List.{list_all}
use Rattle.cmm_words.specs.declared.constant.Constant.{Constant}
use Rattle.cmm_words.specs.declared.constant.Constant.TheVariants.{Number, Code, Address}
use Rattle.cmm_words.specs.Widths.{bits}
use Rattle.cmm_program.specs.declared.procedure.Target.{Target}
use Rattle.cmm_program.specs.declared.procedure.Target.TheVariants as target
use Rattle.cmm_program.specs.Typing.{is_alignment}
use Rattle.cmm_graph.specs.declared.number.NodeId.{NodeId}
use Rattle.cmm_graph.specs.declared.number.ContinuationId.{ContinuationId}
use Rattle.cmm_graph.specs.declared.number.Variable.{Variable}
use Rattle.cmm_graph.specs.declared.number.Temporary.{Temporary}
use Rattle.cmm_graph.specs.declared.operand.Local.{Local}
use Rattle.cmm_graph.specs.declared.operand.Local.TheVariants as local
use Rattle.cmm_graph.specs.declared.operand.Operand.{Operand}
use Rattle.cmm_graph.specs.declared.operand.Operand.TheVariants as operand
use Rattle.cmm_graph.specs.declared.operand.Argument.{Argument}
use Rattle.cmm_graph.specs.declared.operand.Comparison.{Comparison}
use Rattle.cmm_graph.specs.declared.operand.Rvalue.{Rvalue}
use Rattle.cmm_graph.specs.declared.operand.Rvalue.TheVariants as rvalue
use Rattle.cmm_graph.specs.declared.operand.Destination.{Destination}
use Rattle.cmm_graph.specs.declared.operand.Destination.TheVariants as destination
use Rattle.cmm_graph.specs.declared.node.Arm.{Arm}
use Rattle.cmm_graph.specs.declared.node.Exits.{Exits}
use Rattle.cmm_graph.specs.declared.node.HostCall.{HostCall}
use Rattle.cmm_graph.specs.declared.node.HostCall.TheVariants.{PutByte, GetByte}
use Rattle.cmm_graph.specs.declared.node.Node.{Node}
use Rattle.cmm_graph.specs.declared.node.NodeKind.{NodeKind}
use Rattle.cmm_graph.specs.declared.node.NodeKind.TheVariants.{Entry, CopyIn, Assign, Store, Branch, Switch, Call, Yield, Jump, Cut, Return, Host, Goto}
use Rattle.cmm_graph.specs.declared.graph.Graph.{Graph}
use Rattle.cmm_graph.specs.Paths.{node_of}

-- ---- kinds of nodes

abbrev pub is_entry : NodeKind → Bool
is_entry (Entry formals next) = true
is_entry _ = false

abbrev pub is_copy_in : NodeKind → Bool
is_copy_in (CopyIn to next) = true
is_copy_in _ = false

-- a run may stand at any other node
abbrev pub is_landing : NodeKind → Bool
is_landing (Entry formals next) = true
is_landing (CopyIn to next) = true
is_landing _ = false

abbrev pub is_step : NodeKind → Bool
is_step kind = elim (is_landing kind) [ true ↦ false | false ↦ true ]

-- ---- parts of nodes

-- a number is a word of its width
abbrev pub is_constant : Constant → Bool
is_constant (Number word width) = nat_lt word (2 ^ bits width)
is_constant (Code proc plus) = true
is_constant (Address label plus) = true

module _ (g : Graph) where
  -- there is a node with this number, and it passes a test
  abbrev pub leads_to : (NodeKind → Bool) → NodeId → Bool
  leads_to test n = elim (node_of g n) [ Some node ↦ test node.kind | None ↦ false ]

  abbrev pub is_variable : Variable → Bool
  is_variable v = nat_lt v.number g.variables

  abbrev pub is_temporary : Temporary → Bool
  is_temporary t = nat_lt t.number g.temporaries

  abbrev pub is_local : Local → Bool
  is_local (local.Variable v) = is_variable v
  is_local (local.Temporary t) = is_temporary t

  abbrev pub is_continuation : ContinuationId → Bool
  is_continuation k = nat_lt k.number (length g.continuations)

  abbrev pub is_operand : Operand → Bool
  is_operand (operand.Constant c) = is_constant c
  is_operand (operand.Local l) = is_local l
  is_operand (operand.Stackdata label) = true
  is_operand (operand.Continuation k) = is_continuation k

  abbrev pub is_argument : Argument → Bool
  is_argument a = is_operand a.value

  abbrev pub is_test : Comparison → Bool
  is_test c = is_operand c.left && is_operand c.right

  abbrev pub is_rvalue : Rvalue → Bool
  is_rvalue (rvalue.Copy o) = is_operand o
  is_rvalue (rvalue.Register r) = true
  is_rvalue (rvalue.Load width aligned address) = is_alignment aligned && is_operand address
  is_rvalue (rvalue.Unary operator width o) = is_operand o
  is_rvalue (rvalue.Binary operator width left right) = is_operand left && is_operand right
  is_rvalue (rvalue.Compare c) = is_test c
  is_rvalue (rvalue.SignExtend from to o) = nat_le (bits from) (bits to) && is_operand o
  is_rvalue (rvalue.LowBits from to o) = nat_le (bits to) (bits from) && is_operand o

  abbrev pub is_target : Target → Bool
  is_target (target.Variable number width) = nat_lt number g.variables
  is_target (target.Register number width) = true

  abbrev pub is_destination : Destination → Bool
  is_destination (destination.Target t) = is_target t
  is_destination (destination.Temporary t) = is_temporary t

  abbrev pub is_arm : Arm → Bool
  is_arm arm = leads_to is_step arm.to

  -- the normal exit leads to a CopyIn
  abbrev pub is_normal : Option NodeId → Bool
  is_normal (Some n) = leads_to is_copy_in n
  is_normal None = true

  abbrev pub are_exits : Exits → Bool
  are_exits exits =
      is_normal exits.normal && list_all is_continuation exits.returns && list_all is_continuation exits.unwinds
      && list_all is_continuation exits.cuts

  abbrev pub is_host : HostCall → Bool
  is_host (PutByte value) = is_operand value
  is_host (GetByte to) = is_target to

  -- ---- nodes

  -- one that leaves its procedure or waits at a site
  abbrev pub is_transfer : NodeKind → Bool
  is_transfer (Call site callee arguments exits) = is_operand callee && list_all is_argument arguments && are_exits exits
  is_transfer (Yield site values exits) = list_all is_operand values && are_exits exits
  is_transfer (Jump callee arguments) = is_operand callee && list_all is_argument arguments
  is_transfer (Cut to arguments own) = is_operand to && list_all is_argument arguments && list_all is_continuation own
  is_transfer (Return exit alternates results) = nat_le exit alternates && list_all is_argument results
  is_transfer _ = true

  abbrev pub is_kind : NodeKind → Bool
  is_kind (Entry formals next) = list_all is_variable formals && leads_to is_step next
  is_kind (CopyIn to next) = list_all is_target to && leads_to is_step next
  is_kind (Assign to value next) = is_destination to && is_rvalue value && leads_to is_step next
  is_kind (Store width aligned address value next) =
      is_alignment aligned && is_operand address && is_operand value && leads_to is_step next
  is_kind (Branch test then_ otherwise) = is_test test && leads_to is_step then_ && leads_to is_step otherwise
  is_kind (Switch value arms otherwise) = is_operand value && list_all is_arm arms && leads_to is_step otherwise
  is_kind (Host call next) = is_host call && leads_to is_step next
  is_kind (Goto next) = leads_to is_step next
  is_kind kind = is_transfer kind

  abbrev pub is_node : Node → Bool
  is_node node = nat_lt 0 node.tokens && is_kind node.kind

-- a graph in range
pub record IsValid (g : Graph) : Type 0 where
  -- it begins at an Entry
  pub first : IsTrue (leads_to g is_entry g.first)
  -- each node has a token, and names what is there
  pub nodes : IsTrue (list_all (is_node g) g.nodes)
  -- each continuation is landed at in a CopyIn
  pub continuations : IsTrue (list_all (leads_to g is_copy_in) g.continuations)
