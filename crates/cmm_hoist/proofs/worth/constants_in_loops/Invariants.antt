use Rattle.std.proofs.Common.{◌≤◌, length}
use Rattle.cmm_hoist.specs.Graphs.{all_operands}
use Rattle.cmm_hoist.specs.inside.Worth.{AreNamed}
use Rattle.cmm_hoist.proofs.worth.constants_in_loops.Given as goal

abbrev pub invariant-loop-before : goal.invariant-loop-before
invariant-loop-before l = record { named : AreNamed (all_operands l.g) l.kept; few : length l.kept ≤ l.limit }
