use Rattle.std.proofs.Common.{◌≡◌, map}
use Rattle.cmm_located.specs.Layouts.{row_with}
use Rattle.cmm_allocate.proofs.rows.placement.Given as goal

abbrev pub invariant-loop-places : goal.invariant-loop-places
invariant-loop-places l = l.rows ≡ map (λ y. row_with y.1.now y.0.now.frame) l.yielded
