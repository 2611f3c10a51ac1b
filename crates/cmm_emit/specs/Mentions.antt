-- What the code of nodes names by symbols: global registers, data labels and procedures, each by its number in the program.
use Rattle.std.specs.Prelude.{◌≡◌, ℕ, ◌+◌, ◌<◌, ◌==◌, ◌&&◌, ◌||◌, nat_le, nat_lt, not, Bool, false, List, [], ◌∷◌, ◌++◌, filter, length, map}
use Rattle.std.specs.List.{list_any, range_with_len}
use Rattle.cmm_bitset.specs.Sets.{has}
use Rattle.cmm_words.specs.declared.constant.Constant.{Constant}
use Rattle.cmm_words.specs.declared.constant.Constant.TheVariants as constant
use Rattle.cmm_program.specs.declared.procedure.Target.{Target}
use Rattle.cmm_program.specs.declared.procedure.Target.TheVariants as target
use Rattle.cmm_program.specs.declared.program.Program.{Program}
use Rattle.cmm_graph.specs.Counterpart.{targets_of_destination}
use Rattle.cmm_graph.specs.Paths.{operands, operands_of_rvalue}
use Rattle.cmm_graph.specs.declared.graph.Graph.{Graph}
use Rattle.cmm_graph.specs.declared.node.HostCall.{HostCall}
use Rattle.cmm_graph.specs.declared.node.HostCall.TheVariants.{PutByte, GetByte}
use Rattle.cmm_graph.specs.declared.node.Node.{Node}
use Rattle.cmm_graph.specs.declared.node.NodeKind.{NodeKind}
use Rattle.cmm_graph.specs.declared.node.NodeKind.TheVariants.{Assign, CopyIn, Host}
use Rattle.cmm_graph.specs.declared.operand.Destination.{Destination}
use Rattle.cmm_graph.specs.declared.operand.Operand.{Operand}
use Rattle.cmm_graph.specs.declared.operand.Operand.TheVariants as operand
use Rattle.cmm_graph.specs.declared.operand.Rvalue.{Rvalue}
use Rattle.cmm_graph.specs.declared.operand.Rvalue.TheVariants as rvalue
use Rattle.cmm_unit_code.specs.declared.unit_code.Reference.{Reference}
use Rattle.cmm_unit_code.specs.declared.unit_code.Reference.TheVariants.{Register, Label, Procedure}
use Rattle.cmm_emit.specs.declared.mentions.Mentions.{Mentions}

-- ---- what is named

abbrev pub constant_names : Reference → Constant → Bool
constant_names (Procedure n) (constant.Code k plus) = k == n
constant_names (Label n) (constant.Address k plus) = k == n
constant_names _ _ = false

abbrev pub operand_names : Reference → Operand → Bool
operand_names r (operand.Constant c) = constant_names r c
operand_names r _ = false

abbrev pub target_names : Reference → Target → Bool
target_names (Register n) (target.Register k width) = k == n
target_names _ _ = false

-- the global register that is read
abbrev pub read_names : Reference → Rvalue → Bool
read_names (Register n) (rvalue.Register k) = k.number == n
read_names _ _ = false

abbrev pub assignment_names : Reference → Destination → Rvalue → Bool
assignment_names r to value = (list_any (operand_names r) (operands_of_rvalue value) || read_names r value) || list_any (target_names r) (targets_of_destination to)

abbrev pub host_names : Reference → HostCall → Bool
host_names r (PutByte value) = operand_names r value
host_names r (GetByte to) = target_names r to

-- what a node names: what its operands are, and the global registers that it reads or that take a value
abbrev pub kind_names : Reference → NodeKind → Bool
kind_names r (Assign to value next) = assignment_names r to value
kind_names r (Host call next) = host_names r call
kind_names r (CopyIn to next) = list_any (target_names r) to
kind_names r kind = list_any (operand_names r) (operands kind)

abbrev pub node_names : Reference → Node → Bool
node_names r node = kind_names r node.kind

abbrev pub graph_names : Reference → Graph → Bool
graph_names r g = list_any (node_names r) g.nodes

abbrev pub graphs_name : List Graph → Reference → Bool
graphs_name graphs r = list_any (graph_names r) graphs

-- ---- what a unit names that is not in its code

-- one of its own procedures, of which it has so many from one on
abbrev pub is_own : ℕ → ℕ → Reference → Bool
is_own first count (Procedure n) = nat_le first n && nat_lt n (first + count)
is_own first count _ = false

-- so many of a sort, in the order of their numbers
abbrev pub each_of : (ℕ → Reference) → ℕ → List Reference
each_of make count = map make (range_with_len 0 count)

-- all that code of a program can name
abbrev pub all_references : Program → List Reference
all_references p = each_of Register (length p.globals) ++ (each_of Label (length p.labels) ++ each_of Procedure (length p.procs))

-- what the graphs of a unit's procedures name, but for these procedures
abbrev pub is_reference : List Graph → ℕ → ℕ → Reference → Bool
is_reference graphs first count r = graphs_name graphs r && not (is_own first count r)

abbrev pub references_of : Program → List Graph → ℕ → ℕ → List Reference
references_of p graphs first count = filter (is_reference graphs first count) (all_references p)

-- ---- while they are looked for

abbrev pub mentions : Mentions → Reference → Bool
mentions m (Register n) = has m.registers n
mentions m (Label n) = has m.labels n
mentions m (Procedure n) = has m.procedures n

-- the sets have room for it
abbrev pub HasRoomFor : Mentions → Reference → Type 0
HasRoomFor m (Register n) = n < length m.registers
HasRoomFor m (Label n) = n < length m.labels
HasRoomFor m (Procedure n) = n < length m.procedures

-- the sets have as much room as before, and what is named is added
pub record AddsNamed (names : Reference → Bool) (old new : Mentions) : Type 0 where
  pub registers : length new.registers ≡ length old.registers
  pub labels : length new.labels ≡ length old.labels
  pub procedures : length new.procedures ≡ length old.procedures
  pub each : (r : Reference) → HasRoomFor old r → mentions new r ≡ (mentions old r || names r)

-- the sets have what graphs of a program name
pub record AreMentioned (p : Program) (graphs : List Graph) (m : Mentions) : Type 0 where
  pub registers : length m.registers ≡ length p.globals
  pub labels : length m.labels ≡ length p.labels
  pub procedures : length m.procedures ≡ length p.procs
  pub each : (r : Reference) → HasRoomFor m r → mentions m r ≡ graphs_name graphs r
