-- A notation for graphs of worked rows. Their programs come from the sample programs.
use Rattle.std.proofs.Common.{ℕ, List, [], map, Some}
use Rattle.cmm_words.specs.declared.width.Width.TheVariants.{W64}
use Rattle.cmm_words.specs.declared.operators.Op2.{Op2}
use Rattle.cmm_words.specs.declared.operators.Cmp.{Cmp}
use Rattle.cmm_words.specs.declared.constant.Constant.TheVariants.{Number, Code}
use Rattle.cmm_program.specs.declared.procedure.Target.TheVariants as target
use Rattle.cmm_program.specs.State.{Setting, Status}
use Rattle.cmm_graph.specs.declared.number.NodeId.{NodeId}
use Rattle.cmm_graph.specs.declared.number.SiteId.{SiteId}
use Rattle.cmm_graph.specs.declared.number.Variable.{Variable}
use Rattle.cmm_graph.specs.declared.number.ContinuationId.{ContinuationId}
use Rattle.cmm_graph.specs.declared.operand.Local.TheVariants as local
use Rattle.cmm_graph.specs.declared.operand.Operand.{Operand}
use Rattle.cmm_graph.specs.declared.operand.Operand.TheVariants as operand
use Rattle.cmm_graph.specs.declared.operand.Argument.{Argument}
use Rattle.cmm_graph.specs.declared.operand.Comparison.{Comparison}
use Rattle.cmm_graph.specs.declared.operand.Rvalue.{Rvalue}
use Rattle.cmm_graph.specs.declared.operand.Rvalue.TheVariants as rvalue
use Rattle.cmm_graph.specs.declared.operand.Destination.TheVariants as destination
use Rattle.cmm_graph.specs.declared.node.Exits.{Exits}
use Rattle.cmm_graph.specs.declared.node.NodeKind.{NodeKind}
use Rattle.cmm_graph.specs.declared.node.NodeKind.TheVariants as kind
use Rattle.cmm_graph.specs.declared.graph.Graph.{Graph}
use Rattle.cmm_graph.specs.GraphMachine.{graph_state_after}

-- ---- graphs

abbrev pub n : ℕ → NodeId
n number = record { number = number }

abbrev pub s : ℕ → SiteId
s number = record { number = number }

abbrev pub k : ℕ → ContinuationId
k number = record { number = number }

abbrev pub variable : ℕ → Variable
variable number = record { number = number }

-- the operands: a variable, a temporary, a number, the code of a procedure
abbrev pub v : ℕ → Operand
v number = operand.Local (local.Variable (variable number))

abbrev pub t : ℕ → Operand
t number = operand.Local (local.Temporary (record { number = number }))

abbrev pub num : ℕ → Operand
num word = operand.Constant (Number word W64)

abbrev pub code : ℕ → Operand
code procedure = operand.Constant (Code procedure 0)

abbrev pub arg : Operand → Argument
arg value = record { width = W64; value = value }

-- assignments to a variable and to a temporary
abbrev pub set_variable : ℕ → Rvalue → NodeId → NodeKind
set_variable number value next = kind.Assign (destination.Target (target.Variable number W64)) value next

abbrev pub set_temporary : ℕ → Rvalue → NodeId → NodeKind
set_temporary number value next = kind.Assign (destination.Temporary (record { number = number })) value next

abbrev pub op : Op2 → Operand → Operand → Rvalue
op operator left right = rvalue.Binary operator W64 left right

abbrev pub test : Cmp → Operand → Operand → Comparison
test operator left right = record { operator = operator; width = W64; left = left; right = right }

-- the exits of a site: to the normal one, to alternate ones, to unwind exits and to cut exits
abbrev pub exits : NodeId → List ℕ → List ℕ → List ℕ → Exits
exits normal returns unwinds cuts = record { normal = Some normal; returns = map k returns; unwinds = map k unwinds; cuts = map k cuts }

-- a graph that begins at its first node, each node with one token
abbrev pub graph : ℕ → ℕ → List NodeKind → List NodeId → Graph
graph variables temporaries kinds continuations = record {
  variables = variables;
  temporaries = temporaries;
  nodes = map (λ kind. record { tokens = 1; kind = kind }) kinds;
  first = n 0;
  continuations = continuations;
}

-- ---- runs

-- where a run without input is after n steps
abbrev pub status_after : List Graph → Setting → ℕ → Status
status_after graphs setting steps = (graph_state_after graphs setting [] steps).store.status
