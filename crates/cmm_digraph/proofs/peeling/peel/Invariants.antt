use Rattle.std.proofs.Common.{◌-◌, length}
use Rattle.cmm_digraph.specs.inside.Waiting.{IsWaiting}
use Rattle.cmm_digraph.proofs.peeling.peel.Given as goal

abbrev pub invariant-loop-head : goal.invariant-loop-head
invariant-loop-head l = IsWaiting l.graph l.waiting.items l.order l.head

abbrev pub decreases-loop-head : goal.decreases-loop-head
decreases-loop-head l = length l.graph - l.head
