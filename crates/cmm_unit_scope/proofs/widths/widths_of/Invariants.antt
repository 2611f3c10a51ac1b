use Rattle.std.proofs.Common.{◌≡◌, None, map, take, length}
use Rattle.cmm_symbols.specs.Shown.{shown}
use Rattle.cmm_digraph.proofs.Shared.{AreSet}
use Rattle.cmm_unit_scope.proofs.Evaluated.{final}
use Rattle.cmm_unit_scope.proofs.widths.widths_of.Given as goal

abbrev pub invariant-loop-node : goal.invariant-loop-node
invariant-loop-node l =
    (length l.widths ≡ length l.declared)
    × AreSet (final (map shown l.table.declared)) None (take l.node-index l.node-items) l.widths
