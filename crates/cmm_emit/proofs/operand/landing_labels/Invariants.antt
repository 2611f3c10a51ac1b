use Rattle.std.proofs.Common.{◌≡◌, take}
use Rattle.cmm_emit.specs.Naming.{landing_labels}
use Rattle.cmm_emit.proofs.operand.landing_labels.Given as goal

-- the labels of the continuations so far
abbrev pub invariant-loop-continuation : goal.invariant-loop-continuation
invariant-loop-continuation l = l.labels ≡ landing_labels l.context (take l.continuation-index l.continuations)
