use Rattle.std.proofs.Common.{IfSome}
use Rattle.rv_memory.specs.Regions.{region_of}
use Rattle.cmm_walk.specs.Activations.{Fits}
use Rattle.part_rows.proofs.stopped.program.activation_at.Given as goal

abbrev pub invariant-loop-step : goal.invariant-loop-step
invariant-loop-step l = IfSome l.found (Fits l.s.image (region_of l.s.memory))
