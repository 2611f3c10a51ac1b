use Rattle.std.proofs.Common.{◌≡◌, map, take}
use Rattle.cmm_symbols.specs.Numbering.{numbering}
use Rattle.cmm_symbols.specs.Shown.{shown}
use Rattle.cmm_unit_scope.specs.Depending.{graph_by}
use Rattle.cmm_unit_scope.proofs.dependency_graph.graph_of.Given as goal

abbrev pub invariant-loop-named : goal.invariant-loop-named
invariant-loop-named l = l.graph ≡ graph_by (numbering (map shown l.table.declared)) (map shown (take l.named-index l.named-items))
