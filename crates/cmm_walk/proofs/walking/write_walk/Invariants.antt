use Rattle.std.proofs.Common.{Ok}
use Rattle.cmm_abi.specs.Regions.{top}
use Rattle.rv_memory.specs.Regions.{region_of}
use Rattle.rv_memory.specs.States.{state_of}
use Rattle.cmm_walk.proofs.Steps.{left_of}
use Rattle.cmm_walk.proofs.WalkLaws.{Going}
use Rattle.cmm_walk.proofs.walking.write_walk.Given as goal

abbrev pub invariant-loop-next : goal.invariant-loop-next
invariant-loop-next g l = Going g.E.Sink.taken g.E.Sink.faults l.initial.to l.to l.i (region_of l.m) (state_of l.r l.m) l.number l.next

abbrev pub decreases-loop-next : goal.decreases-loop-next
decreases-loop-next g l = left_of (top (region_of l.m)) (Ok l.next)
