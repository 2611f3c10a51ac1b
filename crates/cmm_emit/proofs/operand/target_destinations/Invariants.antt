use Rattle.std.proofs.Common.{◌≡◌, take}
use Rattle.cmm_emit.specs.Naming.{target_destinations}
use Rattle.cmm_emit.proofs.operand.target_destinations.Given as goal

-- the destinations of the targets so far
abbrev pub invariant-loop-target : goal.invariant-loop-target
invariant-loop-target l = l.destinations ≡ target_destinations l.context l.targets (take l.target-index l.to)
