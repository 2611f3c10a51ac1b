use Rattle.std.proofs.Common.{◌-◌}
use Rattle.cmm_image.specs.inside.Ascending.{Halves}
use Rattle.cmm_image.proofs.search.place_among.Given as goal

abbrev pub invariant-loop-low : goal.invariant-loop-low
invariant-loop-low l = Halves l.sites l.address l.low l.high

abbrev pub decreases-loop-low : goal.decreases-loop-low
decreases-loop-low l = l.high - l.low
