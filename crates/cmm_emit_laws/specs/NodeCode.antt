-- What is required of the code of each node: pieces that do what the node does, with its locals in their places, and that go on where it leads.
use Rattle.std.specs.Prelude.{◌≡◌, ◌⊎◌, ℕ, ◌+◌, ◌*◌, ◌%◌, ◌<◌, ◌≤◌, ◌^◌, true, List, [], ◌∷◌, length, map, slice_get, slice_index_or, Some}
use Rattle.cmm_abi.specs.declared.registers.TheConstants.{REQUEST_VALUE}
use Rattle.cmm_words.specs.Words.{low_bits, sign_extended, value1}
use Rattle.cmm_words.specs.declared.width.Width.{Width}
use Rattle.cmm_words.specs.declared.constant.Constant.{Constant}
use Rattle.cmm_chain.specs.declared.frame.Location.{Location}
use Rattle.cmm_program.specs.declared.procedure.Target.{Target}
use Rattle.cmm_program.specs.declared.procedure.Target.TheVariants as target
use Rattle.cmm_program.specs.Layout.{constant_value}
use Rattle.cmm_program.specs.State.{Setting}
use Rattle.cmm_graph.specs.declared.number.ContinuationId.{ContinuationId}
use Rattle.cmm_graph.specs.declared.number.NodeId.{NodeId}
use Rattle.cmm_graph.specs.declared.number.Variable.{Variable}
use Rattle.cmm_graph.specs.declared.operand.Destination.{Destination}
use Rattle.cmm_graph.specs.declared.operand.Destination.TheVariants as destination
use Rattle.cmm_graph.specs.declared.operand.Operand.{Operand}
use Rattle.cmm_graph.specs.declared.operand.Operand.TheVariants as operand
use Rattle.cmm_graph.specs.declared.operand.Local.TheVariants as local
use Rattle.cmm_graph.specs.declared.operand.Rvalue.{Rvalue}
use Rattle.cmm_graph.specs.declared.operand.Rvalue.TheVariants as rvalue
use Rattle.cmm_graph.specs.declared.operand.Argument.{Argument}
use Rattle.cmm_graph.specs.declared.operand.Comparison.{Comparison}
use Rattle.cmm_graph.specs.declared.node.Arm.{Arm}
use Rattle.cmm_graph.specs.declared.node.Exits.{Exits}
use Rattle.cmm_graph.specs.declared.node.HostCall.TheVariants as host
use Rattle.cmm_graph.specs.declared.node.NodeKind.{NodeKind}
use Rattle.cmm_graph.specs.declared.node.NodeKind.TheVariants.{Entry, CopyIn, Assign, Store, Branch, Switch, Call, Jump, Cut, Return, Host, Goto, Stop}
use Rattle.rv_asm.specs.declared.part.Label.{Label}
use Rattle.rv_table.specs.Machine.{State, Region}
use Rattle.rv_table.specs.Words.{sum}
use Rattle.rv_table.specs.declared.request.Request.TheVariants.{GetByte, PutByte, StackLimit, End}
use Rattle.cmm_effects.specs.Accesses.{global_at}
use Rattle.cmm_effects.specs.Changes.{Keeps}
use Rattle.cmm_effects.specs.Pieces.{Always, BeginsQuietly, Leads}
use Rattle.cmm_effects.specs.Ways.{Goes, Turns}
use Rattle.cmm_select.specs.declared.operand.Operand.{Operand as CodeOperand}
use Rattle.cmm_select.specs.declared.operand.Operand.TheVariants as code
use Rattle.cmm_select.specs.declared.source.Source.TheVariants as source
use Rattle.cmm_select.specs.declared.destination.Destination.{Destination as CodeDestination}
use Rattle.cmm_select.specs.declared.destination.Destination.TheVariants as into
use Rattle.cmm_select.specs.Assignments.{AssignsBinary, AssignsComparison, AssignsOne, CanCopyGlobal, Copies}
use Rattle.cmm_select.specs.Destinations.{CanPut, PutsTo}
use Rattle.cmm_effects.specs.Requests.{Requests}
use Rattle.cmm_select.specs.Memory.{AssignsLoaded, StoresWord}
use Rattle.cmm_select.specs.Operands.{CanBringOperand, most_for, operand_at}
use Rattle.cmm_select.specs.Going.{Decides}
use Rattle.cmm_select.specs.Switches.{Switches, label_of}
use Rattle.cmm_calls.specs.Calls.{Calls, CallsBy, CutsTo, HasExits, JumpsBy}
use Rattle.cmm_calls.specs.Copying.{PutsEachTo, values_to}
use Rattle.cmm_calls.specs.Frames.{entry_cost}
use Rattle.cmm_calls.specs.Values.{Begins, HasRegion, JumpsTo, ReturnsValues, parting_cost}
use Rattle.cmm_image_machine.specs.Machine.{Launch}
use Rattle.cmm_emit_laws.specs.Represented.{AreLandings}
use Rattle.cmm_located.specs.Compiled.{Compiled, landing_in, place_of}
use Rattle.cmm_effects.specs.Requests.{AsksFor}
use Rattle.cmm_emit_laws.specs.Finished.{Finished, code_of}
use Rattle.cmm_abi.specs.Regions.{global_address}

module _ (s : Setting) (c : Compiled) (l : Launch) (f : Finished) where
  -- ---- operands

  -- the number of a constant, or a label that stands for it in the code of a procedure
  abbrev pub IsConstant : ℕ → Constant → CodeOperand → Type 0
  IsConstant q k (code.Held (source.Number n)) = n ≡ constant_value s.program s.placement k
  IsConstant q k (code.Symbol label plus) = sum (f.labels q label.number) plus ≡ constant_value s.program s.placement k
  IsConstant q k _ = ⊥

  -- an address at an offset of the frame
  abbrev pub IsAddress : ℕ → CodeOperand → Type 0
  IsAddress offset a = (a ≡ code.Held (source.Address offset)) × (offset < 2 ^ 21)

  -- an operand of a node of a procedure, as code has it
  abbrev pub IsOperandOf : ℕ → Operand → CodeOperand → Type 0
  IsOperandOf q (operand.Constant k) a = IsConstant q k a
  IsOperandOf q (operand.Local v) a = a ≡ code.Held (source.Place (place_of c q v))
  IsOperandOf q (operand.Stackdata label) a = IsAddress (slice_index_or (c.plan.frame q).stack label.number 0) a
  IsOperandOf q (operand.Continuation k) a = IsAddress (slice_index_or (c.plan.frame q).pairs k.number 0) a

  abbrev pub AreOperandsOf : ℕ → List Argument → List CodeOperand → Type 0
  AreOperandsOf q [] [] = Unit {0}
  AreOperandsOf q (argument ∷ arguments) (a ∷ others) = IsOperandOf q argument.value a × AreOperandsOf q arguments others
  AreOperandsOf q _ _ = ⊥

  -- ---- what takes a number

  -- a label stands for the offset of a global register in a region, in the code of a procedure
  abbrev pub IsRegister : ℕ → ℕ → Label → Type 0
  IsRegister q k label = (r : Region) → r.address + f.labels q label.number ≡ global_address r k

  -- what takes a value in a procedure, as code has it
  abbrev pub IsTargetOf : ℕ → Target → CodeDestination → Type 0
  IsTargetOf q (target.Variable number width) d = d ≡ into.Place (place_of c q (local.Variable (record { number = number })))
  IsTargetOf q (target.Register number width) (into.Register label) = IsRegister q number label
  IsTargetOf q (target.Register number width) (into.Place place) = ⊥

  abbrev pub AreTargetsOf : ℕ → List Target → List CodeDestination → Type 0
  AreTargetsOf q [] [] = Unit {0}
  AreTargetsOf q (t ∷ ts) (d ∷ ds) = IsTargetOf q t d × AreTargetsOf q ts ds
  AreTargetsOf q _ _ = ⊥

  abbrev pub IsDestinationOf : ℕ → Destination → CodeDestination → Type 0
  IsDestinationOf q (destination.Target t) d = IsTargetOf q t d
  IsDestinationOf q (destination.Temporary t) d = d ≡ into.Place (place_of c q (local.Temporary t))

  -- ---- where control goes on

  -- at a node, if control is not there yet
  abbrev pub GoesOn : ℕ → NodeId → ℕ → Type 0
  GoesOn q n from = Goes 0 2 Always (λ t. f.node_at q n) Keeps (code_of l f q) from

  -- ---- each node

  pub record GotoCode (q : ℕ) (n next : NodeId) (most : ℕ) : Type 0 where
    pub goes : Turns most Always (λ t. f.node_at q next) Keeps (code_of l f q) (f.node_at q n)

  -- where the comparison holds control is led to one node, and else it goes on to the other
  pub record BranchCode (q : ℕ) (n : NodeId) (test : Comparison) (then_ otherwise : NodeId) (most : ℕ) : Type 0 where
    pub left : CodeOperand
    pub right : CodeOperand
    pub label : Label
    pub on : ℕ
    pub count : ℕ
    pub is_left : IsOperandOf q test.left left
    pub is_right : IsOperandOf q test.right right
    pub there : f.labels q label.number ≡ f.node_at q then_
    pub decides : Decides count test.operator test.width left right label (code_of l f q) (f.node_at q n) on
    pub goes_on : GoesOn q otherwise on
    pub few : count + 2 ≤ most

  -- the arms are led to by the labels of their nodes
  pub record SwitchCode (q : ℕ) (n : NodeId) (value : Operand) (arms : List Arm) (otherwise : NodeId) (most : ℕ) : Type 0 where
    pub operand : CodeOperand
    pub labels : List Label
    pub on : ℕ
    pub count : ℕ
    pub is_value : IsOperandOf q value operand
    pub there : (k : ℕ) (arm : Arm) → slice_get arms k ≡ Some arm → f.labels q (label_of labels arm.to).number ≡ f.node_at q arm.to
    pub switches : Switches count operand labels arms (code_of l f q) (f.node_at q n) on
    pub goes_on : GoesOn q otherwise on
    pub few : count + 2 ≤ most

  -- a right side is put where a destination is
  abbrev pub IsPutInto : ℕ → Rvalue → CodeDestination → ℕ → ℕ → ℕ → Type 0
  IsPutInto q (rvalue.Copy o) d count from on =
      (a : CodeOperand) × IsOperandOf q o a × Copies count a d (code_of l f q) from on
  IsPutInto q (rvalue.Register r) d count from on =
      (label : Label) × IsRegister q r.number label
      × Leads count (CanCopyGlobal (f.labels q) (f.labels q label.number) d) (λ u v. PutsTo (f.labels q) d (global_at (f.labels q label.number) u) u v) (code_of l f q) from on
  IsPutInto q (rvalue.Load width aligned o) d count from on =
      (a : CodeOperand) × IsOperandOf q o a × AssignsLoaded count width aligned a d (code_of l f q) from on
  IsPutInto q (rvalue.Unary operator width o) d count from on =
      (a : CodeOperand) × IsOperandOf q o a × AssignsOne count width (value1 operator width) a d (code_of l f q) from on
  IsPutInto q (rvalue.Binary operator width left right) d count from on =
      (a : CodeOperand) × (b : CodeOperand) × IsOperandOf q left a × IsOperandOf q right b × AssignsBinary count operator width a b d (code_of l f q) from on
  IsPutInto q (rvalue.Compare test) d count from on =
      (a : CodeOperand) × (b : CodeOperand) × IsOperandOf q test.left a × IsOperandOf q test.right b
      × AssignsComparison count test.operator test.width a b d (code_of l f q) from on
  IsPutInto q (rvalue.SignExtend narrow width o) d count from on =
      (a : CodeOperand) × IsOperandOf q o a × AssignsOne count narrow (sign_extended narrow width) a d (code_of l f q) from on
  IsPutInto q (rvalue.LowBits wide width o) d count from on =
      (a : CodeOperand) × IsOperandOf q o a × AssignsOne count wide (low_bits width) a d (code_of l f q) from on

  -- a local or a global register takes the value of a right side
  pub record AssignCode (q : ℕ) (n : NodeId) (takes : Destination) (value : Rvalue) (next : NodeId) (most : ℕ) : Type 0 where
    pub into : CodeDestination
    pub is_into : IsDestinationOf q takes into
    pub on : ℕ
    pub count : ℕ
    pub quiet : BeginsQuietly (code_of l f q) (f.node_at q n)
    pub puts : IsPutInto q value into count (f.node_at q n) on
    pub goes_on : GoesOn q next on
    pub few : count + 2 ≤ most

  -- a word is stored at an address that is a multiple of n bytes
  pub record StoreCode (q : ℕ) (n : NodeId) (width : Width) (aligned : ℕ) (address value : Operand) (next : NodeId) (most : ℕ) : Type 0 where
    pub to : CodeOperand
    pub stored : CodeOperand
    pub on : ℕ
    pub count : ℕ
    pub is_address : IsOperandOf q address to
    pub is_value : IsOperandOf q value stored
    pub stores : StoresWord count width aligned to stored (code_of l f q) (f.node_at q n) on
    pub goes_on : GoesOn q next on
    pub few : count + 2 ≤ most

  -- the low byte of a value is put
  pub record PutByteCode (q : ℕ) (n : NodeId) (value : Operand) (next : NodeId) (most : ℕ) : Type 0 where
    pub operand : CodeOperand
    pub on : ℕ
    pub count : ℕ
    pub is_value : IsOperandOf q value operand
    pub requests : Requests count 0 (CanBringOperand operand) (λ t. PutByte (operand_at (f.labels q) operand t % 256)) (λ u v. v ≡ u) (code_of l f q) (f.node_at q n) on
    pub goes_on : GoesOn q next on
    pub few : count + 1 + 2 ≤ most

  -- the input's next byte is taken, or all ones at its end
  pub record GetByteCode (q : ℕ) (n : NodeId) (takes : Target) (next : NodeId) (most : ℕ) : Type 0 where
    pub into : CodeDestination
    pub is_into : IsTargetOf q takes into
    pub on : ℕ
    pub count : ℕ
    pub later : ℕ
    pub requests : Requests count later (CanPut (f.labels q) into) (λ t. GetByte) (λ u v. PutsTo (f.labels q) into (u.registers REQUEST_VALUE) u v) (code_of l f q) (f.node_at q n) on
    pub goes_on : GoesOn q next on
    pub few : count + 1 + (later + 2) ≤ most

  abbrev pub places_of : ℕ → List Variable → List Location
  places_of q variables = map (λ v. c.plan.place q v.number) variables

  -- The values that control brings are put where the targets are, one after the other, and control goes on.
  pub record CopyInCode (q : ℕ) (n : NodeId) (to : List Target) (next : NodeId) (most : ℕ) : Type 0 where
    pub destinations : List CodeDestination
    pub are : AreTargetsOf q to destinations
    pub turns : (r : Region) → Turns most (HasRegion r (c.plan.frame q).size) (λ u. f.node_at q next)
        (λ u w. (v : State) × PutsEachTo (f.labels q) (values_to r 0 destinations u) u v × Keeps v w) (code_of l f q) (f.node_at q n)
    pub few_values : length to ≤ 64

  -- The frame is made with the landings of the continuations, locals are made 0, and the formals take the arguments; where the stack lacks room,
  -- the limit is requested.
  pub record EntryCode (q : ℕ) (n : NodeId) (formals : List Variable) (next : NodeId) (most : ℕ) : Type 0 where
    pub landings : List Label
    pub limit : Label
    pub on : ℕ
    pub ends : ℕ
    pub begins : Begins (c.plan.frame q) landings (map (c.plan.place q) (c.zeroed q)) (places_of q formals) limit (code_of l f q) (f.node_at q n) on
    pub few_formals : length formals ≤ 64
    pub pairs : length landings ≡ length (c.plan.frame q).pairs
    pub addresses : AreLandings f.symbols (f.labels q) q 0 landings
    pub limits : AsksFor ends (λ t. StackLimit) (code_of l f q) (f.labels q limit.number)
    pub goes_on : GoesOn q next on
    pub few : entry_cost (c.plan.frame q) (map (c.plan.place q) (c.zeroed q)) + 4 * length formals + 2 ≤ most
    pub few_at_limit : 7 + 1 + ends ≤ most

  -- ---- control goes to a procedure

  -- the address of a callee, for which a label stands in the code of a procedure
  abbrev pub IsLabelOf : ℕ → Operand → Label → Type 0
  IsLabelOf q (operand.Constant k) to = f.labels q to.number ≡ constant_value s.program s.placement k
  IsLabelOf q _ to = ⊥

  -- code goes to the address that the callee gives: that of a label, or from an operand
  abbrev pub GoesToCallee : ℕ → Operand → (Label → Type 0) → (CodeOperand → Type 0) → Type 0
  GoesToCallee q callee ToLabel By = ((to : Label) × IsLabelOf q callee to × ToLabel to) ⊎ ((to : CodeOperand) × IsOperandOf q callee to × By to)

  -- the most instructions that bring a callee's address and go there, beside those for the values
  abbrev pub most_for_callee : ℕ
  most_for_callee = 12

  -- The arguments go out, and the return address is that of the site.
  pub record CallCode (q : ℕ) (n : NodeId) (site : ℕ) (callee : Operand) (arguments : List Argument) (most : ℕ) : Type 0 where
    pub operands : List CodeOperand
    pub are : AreOperandsOf q arguments operands
    pub few_values : length operands ≤ 64
    pub quiet : BeginsQuietly (code_of l f q) (f.node_at q n)
    pub back : Label
    pub is_back : f.labels q back.number ≡ f.symbols.return_to q site
    pub fits : f.labels q back.number < 2 ^ 64
    pub calls : GoesToCallee q callee (λ to. (on : ℕ) × Calls (c.plan.frame q) operands to back (code_of l f q) (f.node_at q n) on)
        (λ to. (on : ℕ) × (most_for to ≤ 11) × CallsBy (c.plan.frame q) to operands back (code_of l f q) (f.node_at q n) on)
    pub few : 12 * length operands + most_for_callee ≤ most

  -- The arguments go out, and the frame is left.
  pub record JumpCode (q : ℕ) (n : NodeId) (callee : Operand) (arguments : List Argument) (most : ℕ) : Type 0 where
    pub operands : List CodeOperand
    pub are : AreOperandsOf q arguments operands
    pub few_values : length operands ≤ 64
    pub quiet : BeginsQuietly (code_of l f q) (f.node_at q n)
    pub jumps : GoesToCallee q callee (λ to. JumpsTo (c.plan.frame q) operands to (code_of l f q) (f.node_at q n))
        (λ to. (most_for to ≤ 11) × JumpsBy (c.plan.frame q) to operands (code_of l f q) (f.node_at q n))
    pub few : parting_cost (c.plan.frame q) operands + most_for_callee ≤ most

  -- The values go out, and control goes to the continuation whose pair has this address.
  pub record CutCode (q : ℕ) (n : NodeId) (to : Operand) (arguments : List Argument) (most : ℕ) : Type 0 where
    pub pair : CodeOperand
    pub is_pair : IsOperandOf q to pair
    pub operands : List CodeOperand
    pub are : AreOperandsOf q arguments operands
    pub few_values : length operands ≤ 64
    pub cuts : CutsTo (c.plan.frame q) pair operands (code_of l f q) (f.node_at q n)
    pub few : most_for pair + (12 * length operands + 3) ≤ most

  -- The results go out, the frame is left, and control goes back; behind the return of the oldest activation the end is requested.
  pub record ReturnCode (q : ℕ) (n : NodeId) (exit : ℕ) (results : List Argument) (most : ℕ) : Type 0 where
    pub operands : List CodeOperand
    pub ends : ℕ
    pub are : AreOperandsOf q results operands
    pub few_results : length operands ≤ 64
    pub returns : ReturnsValues (c.plan.frame q) operands exit (code_of l f q) (f.node_at q n)
    pub end_asked : AsksFor ends (λ t. End (t.registers REQUEST_VALUE)) (code_of l f q) f.symbols.last_return
    pub few : parting_cost (c.plan.frame q) operands + 1 + 1 + ends ≤ most
    pub few_behind : parting_cost (c.plan.frame q) operands + 1 + 3 ≤ most

  -- Behind the return address of a site each alternate exit leads to its CopyIn, and the normal one behind them goes on at its own.
  pub record SiteCode (q site : ℕ) (exits : Exits) : Type 0 where
    pub labels : List Label
    pub on : ℕ
    pub table : HasExits labels (code_of l f q) (f.symbols.return_to q site) on
    pub count : length labels ≡ length exits.returns
    pub alternates : (i : ℕ) (k : ContinuationId) (n : NodeId) (label : Label) → slice_get exits.returns i ≡ Some k → landing_in c.graphs q k.number ≡ Some n →
        slice_get labels i ≡ Some label → f.labels q label.number ≡ f.node_at q n
    pub normal : (n : NodeId) → exits.normal ≡ Some n → GoesOn q n on
    pub aligned : f.symbols.return_to q site % 4 ≡ 0
    pub fits : f.symbols.return_to q site + 4 * length labels < 2 ^ 64

  -- the code of a node, within n instructions; nothing is promised of the end of a body
  abbrev pub IsCodeOf : ℕ → NodeId → NodeKind → ℕ → Type 0
  IsCodeOf q n (Entry formals next) most = EntryCode q n formals next most
  IsCodeOf q n (CopyIn to next) most = CopyInCode q n to next most
  IsCodeOf q n (Assign to value next) most = AssignCode q n to value next most
  IsCodeOf q n (Branch test then_ otherwise) most = BranchCode q n test then_ otherwise most
  IsCodeOf q n (Switch value arms otherwise) most = SwitchCode q n value arms otherwise most
  IsCodeOf q n (Call site callee arguments exits) most = CallCode q n site.number callee arguments most
  IsCodeOf q n (Jump callee arguments) most = JumpCode q n callee arguments most
  IsCodeOf q n (Cut to arguments own) most = CutCode q n to arguments most
  IsCodeOf q n (Return exit alternates results) most = ReturnCode q n exit results most
  IsCodeOf q n (Store width aligned address value next) most = StoreCode q n width aligned address value next most
  IsCodeOf q n (Host (host.PutByte value) next) most = PutByteCode q n value next most
  IsCodeOf q n (Host (host.GetByte to) next) most = GetByteCode q n to next most
  IsCodeOf q n (Goto next) most = GotoCode q n next most
  IsCodeOf q n Stop most = BeginsQuietly (code_of l f q) (f.node_at q n)
  IsCodeOf q n _ most = ⊥
