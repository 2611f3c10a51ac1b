-- The paths of a graph: where each node leads, and which locals it reads and writes (Ramsey and Peyton Jones, PLDI 2000,
-- the flow graph).
use Rattle.std.specs.Prelude.{List, [], ◌∷◌, ◌++◌, flat_map, map, slice_get, Option, Some, None}
use Rattle.cmm_program.specs.declared.procedure.Target.{Target}
use Rattle.cmm_program.specs.declared.procedure.Target.TheVariants as target
use Rattle.cmm_graph.specs.declared.number.NodeId.{NodeId}
use Rattle.cmm_graph.specs.declared.number.ContinuationId.{ContinuationId}
use Rattle.cmm_graph.specs.declared.number.Variable.{Variable}
use Rattle.cmm_graph.specs.declared.operand.Local.{Local}
use Rattle.cmm_graph.specs.declared.operand.Local.TheVariants as local
use Rattle.cmm_graph.specs.declared.operand.Operand.{Operand}
use Rattle.cmm_graph.specs.declared.operand.Operand.TheVariants as operand
use Rattle.cmm_graph.specs.declared.operand.Argument.{Argument}
use Rattle.cmm_graph.specs.declared.operand.Comparison.{Comparison}
use Rattle.cmm_graph.specs.declared.operand.Rvalue.{Rvalue}
use Rattle.cmm_graph.specs.declared.operand.Rvalue.TheVariants as rvalue
use Rattle.cmm_graph.specs.declared.operand.Destination.{Destination}
use Rattle.cmm_graph.specs.declared.operand.Destination.TheVariants as destination
use Rattle.cmm_graph.specs.declared.node.Arm.{Arm}
use Rattle.cmm_graph.specs.declared.node.Exits.{Exits}
use Rattle.cmm_graph.specs.declared.node.HostCall.{HostCall}
use Rattle.cmm_graph.specs.declared.node.HostCall.TheVariants.{PutByte, GetByte}
use Rattle.cmm_graph.specs.declared.node.Node.{Node}
use Rattle.cmm_graph.specs.declared.node.NodeKind.{NodeKind}
use Rattle.cmm_graph.specs.declared.node.NodeKind.TheVariants.{Entry, CopyIn, Assign, Store, Branch, Switch, Call, Yield, Jump, Cut, Return, Host, Goto, Stop}
use Rattle.cmm_graph.specs.declared.graph.Graph.{Graph}

-- ---- where a node leads

abbrev pub node_of : Graph → NodeId → Option Node
node_of g n = slice_get g.nodes n.number

-- the CopyIn of a continuation
abbrev pub landing_of : Graph → ContinuationId → Option NodeId
landing_of g k = slice_get g.continuations k.number

-- what may be there, as a list
abbrev pub if_there : {A : Type 0} → Option A → List A
if_there (Some a) = a ∷ []
if_there None = []

-- the landings of some continuations
abbrev pub landings : Graph → List ContinuationId → List NodeId
landings g ks = flat_map (λ k. if_there (landing_of g k)) ks

-- the exits of a site: the normal one, unless it never returns, and one to each continuation that it names
abbrev pub exit_nodes : Graph → Exits → List NodeId
exit_nodes g exits = if_there exits.normal ++ landings g exits.returns ++ landings g exits.unwinds ++ landings g exits.cuts

abbrev pub arm_nodes : List Arm → List NodeId
arm_nodes arms = flat_map (λ arm. arm.to ∷ []) arms

-- the nodes to which a path goes from a node
abbrev pub successors : Graph → NodeKind → List NodeId
successors g (Entry formals next) = next ∷ []
successors g (CopyIn to next) = next ∷ []
successors g (Assign to value next) = next ∷ []
successors g (Store width aligned address value next) = next ∷ []
successors g (Branch test then_ otherwise) = then_ ∷ otherwise ∷ []
successors g (Switch value arms otherwise) = arm_nodes arms ++ otherwise ∷ []
successors g (Call site callee arguments exits) = exit_nodes g exits
successors g (Yield site values exits) = exit_nodes g exits
successors g (Jump callee arguments) = []
successors g (Cut to arguments own) = landings g own
successors g (Return exit alternates results) = []
successors g (Host call next) = next ∷ []
successors g (Goto next) = next ∷ []
successors g Stop = []

-- ---- what a node reads

abbrev pub values_of : List Argument → List Operand
values_of arguments = map (λ a. a.value) arguments

abbrev pub operands_of_test : Comparison → List Operand
operands_of_test c = c.left ∷ c.right ∷ []

abbrev pub operands_of_rvalue : Rvalue → List Operand
operands_of_rvalue (rvalue.Copy o) = o ∷ []
operands_of_rvalue (rvalue.Register r) = []
operands_of_rvalue (rvalue.Load width aligned address) = address ∷ []
operands_of_rvalue (rvalue.Unary operator width o) = o ∷ []
operands_of_rvalue (rvalue.Binary operator width left right) = left ∷ right ∷ []
operands_of_rvalue (rvalue.Compare c) = operands_of_test c
operands_of_rvalue (rvalue.SignExtend from to o) = o ∷ []
operands_of_rvalue (rvalue.LowBits from to o) = o ∷ []

abbrev pub operands_of_host : HostCall → List Operand
operands_of_host (PutByte value) = value ∷ []
operands_of_host (GetByte to) = []

-- the operands of a node
abbrev pub operands : NodeKind → List Operand
operands (Entry formals next) = []
operands (CopyIn to next) = []
operands (Assign to value next) = operands_of_rvalue value
operands (Store width aligned address value next) = address ∷ value ∷ []
operands (Branch test then_ otherwise) = operands_of_test test
operands (Switch value arms otherwise) = value ∷ []
operands (Call site callee arguments exits) = callee ∷ values_of arguments
operands (Yield site values exits) = values
operands (Jump callee arguments) = callee ∷ values_of arguments
operands (Cut to arguments own) = to ∷ values_of arguments
operands (Return exit alternates results) = values_of results
operands (Host call next) = operands_of_host call
operands (Goto next) = []
operands Stop = []

abbrev pub read_by : Operand → List Local
read_by (operand.Local l) = l ∷ []
read_by _ = []

-- the locals that a node reads
abbrev pub reads : NodeKind → List Local
reads kind = flat_map read_by (operands kind)

-- ---- what a node writes

abbrev pub written_to : Target → List Local
written_to (target.Variable number width) = local.Variable (record { number = number }) ∷ []
written_to (target.Register number width) = []

abbrev pub written_to_destination : Destination → List Local
written_to_destination (destination.Target t) = written_to t
written_to_destination (destination.Temporary t) = local.Temporary t ∷ []

abbrev pub written_by_host : HostCall → List Local
written_by_host (PutByte value) = []
written_by_host (GetByte to) = written_to to

abbrev pub written_by_variable : Variable → List Local
written_by_variable v = local.Variable v ∷ []

-- the 0 that a variable has at the Entry is no write
abbrev pub writes : NodeKind → List Local
writes (Entry formals next) = flat_map written_by_variable formals
writes (CopyIn to next) = flat_map written_to to
writes (Assign to value next) = written_to_destination to
writes (Host call next) = written_by_host call
writes _ = []
