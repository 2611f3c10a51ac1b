-- What a node does, for any way of keeping locals: as variables of the store and temporaries, or in places.
-- (C-- Language Specification 2.0, statements; Ramsey and Peyton Jones, PLDI 2000, the abstract machine.)
use Rattle.std.specs.Prelude.{ℕ, zero, suc, true, false, List, [], ◌∷◌, map, slice_get, Ok, Option, Some, None}
use Rattle.cmm_program.specs.Errors.{EndOfBody, and_then}
use Rattle.cmm_program.specs.Values.{Value}
use Rattle.cmm_program.specs.Acts as act
use Rattle.cmm_program.specs.Acts.{Act, Aim}
use Rattle.cmm_program.specs.Orders.{Memory}
use Rattle.cmm_program.specs.Bodies.{is_in_ranges}
use Rattle.cmm_program.specs.Todo.{if_way}
use Rattle.cmm_words.specs.declared.width.Width.{Width}
use Rattle.cmm_graph.specs.declared.number.NodeId.{NodeId}
use Rattle.cmm_graph.specs.declared.operand.Local.{Local}
use Rattle.cmm_graph.specs.declared.operand.Destination.{Destination}
use Rattle.cmm_graph.specs.declared.node.Arm.{Arm}
use Rattle.cmm_graph.specs.declared.node.HostCall.{HostCall}
use Rattle.cmm_graph.specs.declared.node.HostCall.TheVariants.{PutByte, GetByte}
use Rattle.cmm_graph.specs.declared.node.NodeKind.{NodeKind}
use Rattle.cmm_graph.specs.declared.node.NodeKind.TheVariants.{Entry, CopyIn, Assign, Store, Branch, Switch, Call, Yield, Jump, Cut, Return, Host, Goto, Stop}
use Rattle.cmm_graph.specs.Values.{operand_value, operand_values, passed, test_value, rvalue_value}

-- How a machine keeps the locals of the activation that runs.
pub record Keeping : Type 0 where
  -- what a local holds
  pub held : Local → Value
  -- the act by which a destination takes a value
  pub put : Destination → Value → Act

-- ---- which way a node takes

-- the way of a value: the number of the first arm that is for it, or the one after all arms
abbrev pub arm_way : List Arm → ℕ → ℕ
arm_way [] value = 0
arm_way (arm ∷ arms) value = elim (is_in_ranges value arm.ranges) [ true ↦ 0 | false ↦ suc (arm_way arms value) ]

-- where a node leads by a way; one that leaves its procedure, or waits at its site, leads nowhere by itself
abbrev pub led : ℕ → NodeKind → Option NodeId
led way (Assign to value next) = Some next
led way (Store width aligned address value next) = Some next
led way (Branch test then_ otherwise) = elim way [ zero ↦ Some then_ | suc _ ↦ Some otherwise ]
led way (Switch value arms otherwise) = elim (slice_get arms way) [ Some arm ↦ Some arm.to | None ↦ Some otherwise ]
led way (Host call next) = Some next
led way (Goto next) = Some next
led way _ = None

-- ---- what it does

module _ (k : Keeping) where
  -- the word of a width at an address
  abbrev pub aim_at : Width → ℕ → Value → Aim
  aim_at width aligned address reads = and_then (address reads) (λ a. Ok (Memory width aligned a))

  abbrev pub host_act : HostCall → Act
  host_act (PutByte value) = act.PutByte (operand_value k.held value)
  host_act (GetByte to) = act.GetByte to

  -- No run stands at an Entry or a CopyIn: what they take comes with the landing that leads there.
  abbrev pub act_of : NodeKind → Act
  act_of (Entry formals next) = act.Fail EndOfBody
  act_of (CopyIn to next) = act.Fail EndOfBody
  act_of (Assign to value next) = k.put to (rvalue_value k.held value)
  act_of (Store width aligned address value next) =
      act.Assign (aim_at width aligned (operand_value k.held address) ∷ []) (operand_value k.held value ∷ [])
  act_of (Branch test then_ otherwise) = act.Choose (if_way (test_value k.held test))
  act_of (Switch value arms otherwise) = act.Choose (λ reads. and_then (operand_value k.held value reads) (λ v. Ok (arm_way arms v)))
  act_of (Call site callee arguments exits) = act.Call site.number (operand_value k.held callee) (passed k.held arguments)
  act_of (Yield site values exits) = act.Yield site.number (operand_values k.held values)
  act_of (Jump callee arguments) = act.Jump (operand_value k.held callee) (passed k.held arguments)
  act_of (Cut to arguments own) = act.Cut (operand_value k.held to) (passed k.held arguments) (map (λ c. c.number) own)
  act_of (Return exit alternates results) = act.Return exit alternates (passed k.held results)
  act_of (Host call next) = host_act call
  act_of (Goto next) = act.Nothing
  act_of Stop = act.Fail EndOfBody
