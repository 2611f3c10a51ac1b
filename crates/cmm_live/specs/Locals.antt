-- The number by which a set has a local: the variables of the procedure come first, the temporaries of the graph after them.
use Rattle.std.specs.Prelude.{ℕ, ◌+◌}
use Rattle.cmm_graph.specs.declared.operand.Local.{Local}
use Rattle.cmm_graph.specs.declared.operand.Local.TheVariants as local
use Rattle.cmm_graph.specs.declared.graph.Graph.{Graph}

abbrev pub local_number : Graph → Local → ℕ
local_number g (local.Variable v) = v.number
local_number g (local.Temporary t) = g.variables + t.number

abbrev pub local_count : Graph → ℕ
local_count g = g.variables + g.temporaries
