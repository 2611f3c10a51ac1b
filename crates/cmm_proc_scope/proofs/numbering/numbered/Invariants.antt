use Rattle.std.proofs.Common.{◌≡◌, map, take}
use Rattle.cmm_proc_scope.specs.Owned.{local_declared, own_declared}
use Rattle.cmm_proc_scope.specs.inside.Numbering.{AreNumbered}
use Rattle.cmm_proc_scope.specs.inside.Counting.{AreCounts}
use Rattle.cmm_proc_scope.proofs.numbering.numbered.Given as goal

abbrev pub invariant-loop-named : goal.invariant-loop-named
invariant-loop-named l =
    (map own_declared l.own ≡ map local_declared (take l.named-index l.declared)) × AreCounts l.counts (map own_declared l.own) × AreNumbered l.own
