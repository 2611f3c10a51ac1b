use Rattle.std.proofs.Common.{◌≡◌, take}
use Rattle.std.specs.Prelude.{map}
use Rattle.cmm_elaboration.specs.Bodies.{range_of}
use Rattle.cmm_proc_scope.specs.Bodies.{scope_of_body}
use Rattle.cmm_lower.proofs.switches.ranges_of.Given as goal

abbrev pub invariant-loop-range : goal.invariant-loop-range
invariant-loop-range g l = l.made ≡ map (range_of (scope_of_body g.N.Names.senses l.names) l.width) (take l.range-index l.ranges)
