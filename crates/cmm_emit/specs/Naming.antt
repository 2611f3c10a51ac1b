-- What code has for what nodes name: places of the activation, offsets of its frame, and labels.
use Rattle.std.specs.Prelude.{◌≡◌, ℕ, ◌+◌, ◌^◌, ◌&&◌, nat_le, nat_lt, Bool, true, IsTrue, List, length, map, is_some, slice_index_or, Option, Some, None}
use Rattle.std.specs.List.{list_all}
use Rattle.cmm_words.specs.declared.constant.Constant.{Constant}
use Rattle.cmm_words.specs.declared.constant.Constant.TheVariants as constant
use Rattle.cmm_chain.specs.declared.frame.Location.{Location}
use Rattle.cmm_chain.specs.declared.frame.Location.TheVariants.{Slot}
use Rattle.cmm_chain.specs.Plans.{is_place}
use Rattle.cmm_program.specs.declared.procedure.Target.{Target}
use Rattle.cmm_program.specs.declared.procedure.Target.TheVariants as target
use Rattle.cmm_graph.specs.declared.number.ContinuationId.{ContinuationId}
use Rattle.cmm_graph.specs.declared.number.NodeId.{NodeId}
use Rattle.cmm_graph.specs.declared.number.SiteId.{SiteId}
use Rattle.cmm_graph.specs.declared.number.Variable.{Variable}
use Rattle.cmm_graph.specs.declared.operand.Argument.{Argument}
use Rattle.cmm_graph.specs.declared.operand.Comparison.{Comparison}
use Rattle.cmm_graph.specs.declared.operand.Destination.{Destination}
use Rattle.cmm_graph.specs.declared.operand.Destination.TheVariants as destination
use Rattle.cmm_graph.specs.declared.operand.Local.{Local}
use Rattle.cmm_graph.specs.declared.operand.Local.TheVariants as local
use Rattle.cmm_graph.specs.declared.operand.Operand.{Operand}
use Rattle.cmm_graph.specs.declared.operand.Operand.TheVariants as operand
use Rattle.cmm_graph.specs.declared.operand.Rvalue.{Rvalue}
use Rattle.cmm_graph.specs.declared.operand.Rvalue.TheVariants as rvalue
use Rattle.cmm_graph.specs.declared.node.Arm.{Arm}
use Rattle.cmm_graph.specs.declared.node.Exits.{Exits}
use Rattle.cmm_graph.specs.declared.node.HostCall.{HostCall}
use Rattle.cmm_graph.specs.declared.node.HostCall.TheVariants as host
use Rattle.cmm_graph.specs.declared.node.NodeKind.{NodeKind}
use Rattle.cmm_graph.specs.declared.node.NodeKind.TheVariants.{Entry, CopyIn, Assign, Store, Branch, Switch, Call, Yield, Jump, Cut, Return, Host, Goto, Stop}
use Rattle.rv_asm.specs.Assembly.{table_limit}
use Rattle.rv_asm.specs.declared.part.Label.{Label}
use Rattle.cmm_select.specs.declared.destination.Destination.{Destination as CodeDestination}
use Rattle.cmm_select.specs.declared.destination.Destination.TheVariants as into
use Rattle.cmm_select.specs.declared.operand.Operand.{Operand as CodeOperand}
use Rattle.cmm_select.specs.declared.operand.Operand.TheVariants as code
use Rattle.cmm_select.specs.declared.source.Source.TheVariants as source
use Rattle.cmm_calls.specs.Copying.{is_destination}
use Rattle.cmm_calls.specs.Values.{is_operand}
use Rattle.cmm_emit.specs.declared.context.Context.{Context}
use Rattle.cmm_emit.specs.declared.context.Targets.{Targets}

-- a label of a list, by its number
abbrev pub label_at : List Label → ℕ → Label
label_at labels n = slice_index_or labels n (record { number = 0 })

-- what is named outside of a procedure has a label, by its number
abbrev pub has_named : List (Option Label) → ℕ → Bool
has_named labels n = is_some (slice_index_or labels n None)

abbrev pub named_at : List (Option Label) → ℕ → Label
named_at labels n = elim (slice_index_or labels n None) [ Some l ↦ l | None ↦ record { number = 0 } ]

module _ (p : Context) where
  -- the number of a local: temporaries come after variables
  abbrev pub local_number : Local → ℕ
  local_number (local.Variable v) = v.number
  local_number (local.Temporary t) = p.variables + t.number

  abbrev pub place : Local → Location
  place l = slice_index_or p.places (local_number l) (Slot 0)

  abbrev pub has_local : Local → Bool
  has_local l = nat_lt (local_number l) (length p.places)

  abbrev pub has_node : NodeId → Bool
  has_node n = nat_lt n.number (length p.nodes)

  -- the label of a site
  abbrev pub site_label : SiteId → Label
  site_label site = label_at p.sites site.number

  abbrev pub has_site : SiteId → Bool
  has_site site = nat_lt site.number (length p.sites)

  -- the landings of continuations
  abbrev pub landing_labels : List ContinuationId → List Label
  landing_labels ks = map (λ k. label_at p.landings k.number) ks

  abbrev pub has_landing : ContinuationId → Bool
  has_landing k = nat_lt k.number (length p.landings)

  -- control comes back by few exits, each to what is there
  abbrev pub can_come_back : Exits → Bool
  can_come_back exits =
      list_all has_landing exits.returns && nat_le (length exits.returns) table_limit
      && elim exits.normal [ Some n ↦ has_node n | None ↦ true ]

  -- values come to places of the frame
  abbrev pub can_take : List Location → Bool
  can_take places = nat_le (length places) 64 && list_all (is_place p.frame) places

  abbrev pub variable_places : List Variable → List Location
  variable_places vs = map (λ v. place (local.Variable v)) vs

  -- locals are made 0, and formals take their values
  abbrev pub can_begin : List Variable → Bool
  can_begin formals =
      list_all (λ v. has_local (local.Variable v)) formals && can_take (variable_places formals) && list_all (is_place p.frame) p.zeroed

module _ (y : Targets) where
  abbrev pub constant_operand : Constant → CodeOperand
  constant_operand (constant.Number n width) = code.Held (source.Number n)
  constant_operand (constant.Code k plus) = code.Symbol (named_at y.procedures k) plus
  constant_operand (constant.Address k plus) = code.Symbol (named_at y.data_labels k) plus

  abbrev pub has_constant : Constant → Bool
  has_constant (constant.Number n width) = nat_lt n (2 ^ 64)
  has_constant (constant.Code k plus) = has_named y.procedures k
  has_constant (constant.Address k plus) = has_named y.data_labels k

  -- a label that an operand names: that of a procedure
  pub record IsNamed (callee : Operand) (to : Label) : Type 0 where
    pub procedure : ℕ
    pub is : callee ≡ operand.Constant (constant.Code procedure 0)
    pub there : IsTrue (has_named y.procedures procedure)
    pub is_label : to ≡ named_at y.procedures procedure

module _ (p : Context) (y : Targets) where
  -- ---- operands

  abbrev pub code_operand : Operand → CodeOperand
  code_operand (operand.Constant k) = constant_operand y k
  code_operand (operand.Local l) = code.Held (source.Place (place p l))
  code_operand (operand.Stackdata label) = code.Held (source.Address (slice_index_or p.frame.stack label.number 0))
  code_operand (operand.Continuation k) = code.Held (source.Address (slice_index_or p.frame.pairs k.number 0))

  abbrev pub argument_operand : Argument → CodeOperand
  argument_operand a = code_operand a.value

  -- ---- what is named is there

  abbrev pub has_operand : Operand → Bool
  has_operand (operand.Constant k) = has_constant y k
  has_operand (operand.Local l) = has_local p l
  has_operand (operand.Stackdata label) = nat_lt label.number (length p.frame.stack)
  has_operand (operand.Continuation k) = nat_lt k.number (length p.frame.pairs)

  abbrev pub has_argument : Argument → Bool
  has_argument a = has_operand a.value

  abbrev pub has_both : Comparison → Bool
  has_both test = has_operand test.left && has_operand test.right

  abbrev pub has_arm : Arm → Bool
  has_arm arm = has_node p arm.to

  -- ---- what takes a number

  abbrev pub target_destination : Target → CodeDestination
  target_destination (target.Variable number width) = into.Place (place p (local.Variable (record { number = number })))
  target_destination (target.Register number width) = into.Register (named_at y.registers number)

  abbrev pub code_destination : Destination → CodeDestination
  code_destination (destination.Target t) = target_destination t
  code_destination (destination.Temporary t) = into.Place (place p (local.Temporary t))

  abbrev pub has_target : Target → Bool
  has_target (target.Variable number width) = has_local p (local.Variable (record { number = number }))
  has_target (target.Register number width) = has_named y.registers number

  abbrev pub has_destination : Destination → Bool
  has_destination (destination.Target t) = has_target t
  has_destination (destination.Temporary t) = has_local p (local.Temporary t)

  abbrev pub has_rvalue : Rvalue → Bool
  has_rvalue (rvalue.Copy o) = has_operand o
  has_rvalue (rvalue.Register r) = has_named y.registers r.number
  has_rvalue (rvalue.Load width aligned o) = has_operand o
  has_rvalue (rvalue.Unary operator width o) = has_operand o
  has_rvalue (rvalue.Binary operator width left right) = has_operand left && has_operand right
  has_rvalue (rvalue.Compare test) = has_both test
  has_rvalue (rvalue.SignExtend narrow width o) = has_operand o
  has_rvalue (rvalue.LowBits wide width o) = has_operand o

  -- values come to destinations
  abbrev pub target_destinations : List Target → List CodeDestination
  target_destinations ts = map target_destination ts

  abbrev pub can_copy : List CodeDestination → Bool
  can_copy ds = nat_le (length ds) 64 && list_all (is_destination p.frame) ds

  abbrev pub can_land : List Target → Bool
  can_land to = list_all has_target to && can_copy (target_destinations to)

  abbrev pub has_call : HostCall → Bool
  has_call (host.PutByte value) = has_operand value
  has_call (host.GetByte to) = has_target to

  -- ---- nodes

  abbrev pub code_operands : List Operand → List CodeOperand
  code_operands values = map code_operand values

  abbrev pub argument_operands : List Argument → List CodeOperand
  argument_operands arguments = map argument_operand arguments

  -- values go out of the frame
  abbrev pub can_give : List CodeOperand → Bool
  can_give values = nat_le (length values) 64 && list_all (is_operand p.frame) values

  -- values go to what an operand gives the address of
  abbrev pub can_go_to : Operand → List Argument → Bool
  can_go_to to arguments =
      has_operand to && is_operand p.frame (code_operand to) && list_all has_argument arguments && can_give (argument_operands arguments)

  -- a procedure is called, and its activation comes back to a site
  abbrev pub can_call : SiteId → Operand → List Argument → Exits → Bool
  can_call site callee arguments exits = has_site p site && can_go_to callee arguments && can_come_back p exits

  -- values of operands go out
  abbrev pub can_send : List Operand → Bool
  can_send values = list_all has_operand values && can_give (code_operands values)

  -- values are yielded, and the activation comes back to a site
  abbrev pub can_yield : SiteId → List Operand → Exits → Bool
  can_yield site values exits = has_site p site && can_send values && can_come_back p exits

  abbrev pub can_return : ℕ → List Argument → Bool
  can_return exit results = list_all has_argument results && can_give (argument_operands results) && nat_lt exit 512

  abbrev pub has_kind : NodeKind → Bool
  has_kind (Entry formals next) = can_begin p formals && has_node p next
  has_kind (CopyIn to next) = can_land to && has_node p next
  has_kind (Assign to value next) = has_destination to && has_rvalue value && has_node p next
  has_kind (Store width aligned address value next) = has_operand address && has_operand value && has_node p next
  has_kind (Branch test then_ otherwise) = has_both test && has_node p then_ && has_node p otherwise
  has_kind (Switch value arms otherwise) = has_operand value && list_all has_arm arms && has_node p otherwise
  has_kind (Call site callee arguments exits) = can_call site callee arguments exits
  has_kind (Yield site values exits) = can_yield site values exits
  has_kind (Jump callee arguments) = can_go_to callee arguments
  has_kind (Cut to arguments own) = can_go_to to arguments
  has_kind (Return exit alternates results) = can_return exit results
  has_kind (Host call next) = has_call call && has_node p next
  has_kind (Goto next) = has_node p next
  has_kind Stop = true
