use Rattle.std.proofs.Common.{take}
use Rattle.cmm_allocate.specs.inside.Classing.{HasTaken, is_before_some}
use Rattle.cmm_allocate.proofs.classes.join_before.Given as goal

abbrev pub invariant-loop-node : goal.invariant-loop-node
invariant-loop-node l = HasTaken (is_before_some l.before (take l.node-index l.nodes)) l.fn.all l.all
