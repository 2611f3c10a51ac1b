-- Nodes that pass few values, and that yield as their sites say.
use Rattle.std.specs.Prelude.{◌&&◌, ◌==◌, nat_le, Bool, true, false, IsTrue, length, slice_get, Some, None}
use Rattle.std.specs.List.{list_all}
use Rattle.cmm_program.specs.declared.procedure.Proc.{Proc}
use Rattle.cmm_graph.specs.declared.graph.Graph.{Graph}
use Rattle.cmm_graph.specs.declared.node.NodeKind.{NodeKind}
use Rattle.cmm_graph.specs.declared.node.NodeKind.TheVariants.{Entry, CopyIn, Call, Yield, Jump, Cut, Return}

-- A node passes or takes at most 64 values, and comes back by at most 64 exits.
abbrev pub passes_few : NodeKind → Bool
passes_few (Entry formals next) = nat_le (length formals) 64
passes_few (CopyIn to next) = nat_le (length to) 64
passes_few (Call site callee arguments exits) = nat_le (length arguments) 64 && nat_le (length exits.returns) 64
passes_few (Yield site values exits) = nat_le (length values) 64 && nat_le (length exits.returns) 64
passes_few (Jump callee arguments) = nat_le (length arguments) 64
passes_few (Cut to arguments own) = nat_le (length arguments) 64
passes_few (Return exit alternates results) = nat_le alternates 64 && nat_le (length results) 64
passes_few _ = true

abbrev pub PassFew : Graph → Type 0
PassFew g = IsTrue (list_all (λ node. passes_few node.kind) g.nodes)

-- A node yields as many values as its site in the procedure says.
abbrev pub yields_there : Proc → NodeKind → Bool
yields_there q (Yield site values exits) = elim (slice_get q.sites site.number) [
  | Some s ↦ elim s.yield_values [ Some n ↦ n == length values | None ↦ false ]
  | None ↦ false
]
yields_there q _ = true

abbrev pub YieldThere : Proc → Graph → Type 0
YieldThere q g = IsTrue (list_all (λ node. yields_there q node.kind) g.nodes)
