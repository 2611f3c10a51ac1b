use Rattle.std.proofs.Common.{◌≡◌, map, take}
use Rattle.cmm_symbols.specs.Numbering.{numbering}
use Rattle.cmm_symbols.specs.Shown.{shown}
use Rattle.cmm_unit_scope.specs.inside.Numbers.{type_graph}
use Rattle.cmm_unit_scope.proofs.typedef_graph.graph_of.Given as goal

abbrev pub invariant-loop-named : goal.invariant-loop-named
invariant-loop-named l = l.graph ≡ type_graph (numbering (map shown l.table.declared)) (map shown (take l.named-index l.named-items))
