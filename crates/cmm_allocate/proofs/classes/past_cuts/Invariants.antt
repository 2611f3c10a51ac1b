use Rattle.std.proofs.Common.{false, replicate, take}
use Rattle.cmm_live.specs.Locals.{local_count}
use Rattle.cmm_allocate.specs.inside.Classing.{HasTaken, is_past_some}
use Rattle.cmm_allocate.proofs.classes.past_cuts.Given as goal

abbrev pub invariant-loop-node : goal.invariant-loop-node
invariant-loop-node l = HasTaken (is_past_some l.g l.live.before (take l.node-index l.g.nodes)) (replicate (local_count l.g) false) l.all
