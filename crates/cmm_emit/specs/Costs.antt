-- How many instructions the code of nodes has at most. A jump may follow it.
use Rattle.std.specs.Prelude.{ℕ, ◌+◌, ◌-◌, ◌*◌, List, length, sum_by}
use Rattle.cmm_words.specs.declared.width.Width.{Width}
use Rattle.cmm_program.specs.declared.procedure.Target.{Target}
use Rattle.cmm_graph.specs.declared.number.Variable.{Variable}
use Rattle.cmm_graph.specs.declared.operand.Argument.{Argument}
use Rattle.cmm_graph.specs.declared.operand.Comparison.{Comparison}
use Rattle.cmm_graph.specs.declared.operand.Operand.{Operand}
use Rattle.cmm_graph.specs.declared.operand.Rvalue.{Rvalue}
use Rattle.cmm_graph.specs.declared.operand.Rvalue.TheVariants as rvalue
use Rattle.cmm_graph.specs.declared.node.Arm.{Arm}
use Rattle.cmm_graph.specs.declared.node.Exits.{Exits}
use Rattle.cmm_graph.specs.declared.node.HostCall.{HostCall}
use Rattle.cmm_graph.specs.declared.node.HostCall.TheVariants as host
use Rattle.cmm_graph.specs.declared.node.Node.{Node}
use Rattle.cmm_graph.specs.declared.node.NodeKind.{NodeKind}
use Rattle.cmm_graph.specs.declared.node.NodeKind.TheVariants.{Entry, CopyIn, Assign, Store, Branch, Switch, Call, Yield, Jump, Cut, Return, Host, Goto, Stop}
use Rattle.cmm_select.specs.Memory.{accesses}
use Rattle.cmm_select.specs.Operands.{most_for}
use Rattle.cmm_select.specs.Operators.{shifts_of}
use Rattle.cmm_select.specs.Switches.{ranges_in}
use Rattle.cmm_calls.specs.Calls.{exits_cost}
use Rattle.cmm_calls.specs.Frames.{entry_cost}
use Rattle.cmm_calls.specs.Values.{parting_cost}
use Rattle.cmm_emit.specs.declared.context.Context.{Context}
use Rattle.cmm_emit.specs.declared.context.Targets.{Targets}
use Rattle.cmm_emit.specs.Naming.{argument_operands, code_operand}

-- the most that leads on to the node that follows
abbrev pub jump_cost : ℕ
jump_cost = 2

-- the most that brings a callee's address and goes there
abbrev pub callee_cost : ℕ
callee_cost = 12

-- the most behind a node's own code: a jump, or behind a return what goes on from a site or ends the run
abbrev pub jump_of : NodeKind → ℕ
jump_of (Return exit alternates results) = 3
jump_of (Jump callee arguments) = 0
jump_of (Cut to arguments own) = 0
jump_of Stop = 0
jump_of _ = 2

module _ (p : Context) (y : Targets) where
  abbrev pub operand_cost : Operand → ℕ
  operand_cost o = most_for (code_operand p y o)

  abbrev pub both_cost : Operand → Operand → ℕ
  both_cost left right = operand_cost left + operand_cost right

  abbrev pub rvalue_cost : Rvalue → ℕ
  rvalue_cost (rvalue.Copy o) = operand_cost o + 4
  rvalue_cost (rvalue.Register r) = 8
  rvalue_cost (rvalue.Load width aligned o) = operand_cost o + (3 * accesses width aligned - 2) + 4
  rvalue_cost (rvalue.Unary operator width o) = operand_cost o + shifts_of width + 5
  rvalue_cost (rvalue.Binary operator width left right) = both_cost left right + 3 * shifts_of width + 10
  rvalue_cost (rvalue.Compare test) = both_cost test.left test.right + 2 * shifts_of test.width + 7
  rvalue_cost (rvalue.SignExtend narrow width o) = operand_cost o + shifts_of narrow + shifts_of width + 4
  rvalue_cost (rvalue.LowBits wide width o) = operand_cost o + shifts_of width + 4

  abbrev pub store_cost : Width → ℕ → Operand → Operand → ℕ
  store_cost width aligned address value = both_cost address value + (2 * accesses width aligned - 1)

  abbrev pub branch_cost : Comparison → ℕ
  branch_cost test = both_cost test.left test.right + (2 * shifts_of test.width + 3)

  abbrev pub switch_cost : Operand → List Arm → ℕ
  switch_cost value arms = operand_cost value + 27 * ranges_in arms

  abbrev pub host_cost : HostCall → ℕ
  host_cost (host.PutByte value) = operand_cost value + 3
  host_cost (host.GetByte to) = 7

  abbrev pub begin_cost : List Variable → ℕ
  begin_cost formals = entry_cost p.frame p.zeroed + 4 * length formals

  abbrev pub copy_cost : List Target → ℕ
  copy_cost to = 5 * length to

  abbrev pub return_cost : List Argument → ℕ
  return_cost results = parting_cost p.frame (argument_operands p y results) + 1

  abbrev pub jump_to_cost : List Argument → ℕ
  jump_to_cost arguments = parting_cost p.frame (argument_operands p y arguments) + callee_cost

  -- with the jumps of the exits, which stand behind the call, and what leads on behind them
  abbrev pub call_cost : List Argument → Exits → ℕ
  call_cost arguments exits = 12 * length arguments + callee_cost + (exits_cost (length exits.returns) + 1)

  -- with one that leads to the ECALL which calls the client
  abbrev pub yield_cost : List Operand → Exits → ℕ
  yield_cost values exits = 12 * length values + 3 + (exits_cost (length exits.returns) + 1)

  abbrev pub cut_cost : Operand → List Argument → ℕ
  cut_cost to arguments = operand_cost to + (12 * length arguments + 3)

  -- the most of a node, with what leads on behind it; behind a return control may go on from a site, or the end of the run is requested, by three instructions
  abbrev pub cost_of : NodeKind → ℕ
  cost_of (Entry formals next) = begin_cost formals + jump_cost
  cost_of (CopyIn to next) = copy_cost to + jump_cost
  cost_of (Assign to value next) = rvalue_cost value + jump_cost
  cost_of (Store width aligned address value next) = store_cost width aligned address value + jump_cost
  cost_of (Branch test then_ otherwise) = branch_cost test + jump_cost
  cost_of (Switch value arms otherwise) = switch_cost value arms + jump_cost
  cost_of (Call site callee arguments exits) = call_cost arguments exits + jump_cost
  cost_of (Yield site values exits) = yield_cost values exits + jump_cost
  cost_of (Jump callee arguments) = jump_to_cost arguments
  cost_of (Cut to arguments own) = cut_cost to arguments
  cost_of (Return exit alternates results) = return_cost results + 3
  cost_of (Host call next) = host_cost call + jump_cost
  cost_of (Goto next) = jump_cost
  cost_of Stop = 1

  -- of several nodes together
  abbrev pub total_cost : List Node → ℕ
  total_cost nodes = sum_by (λ node. cost_of node.kind) nodes
