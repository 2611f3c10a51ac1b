use Rattle.std.proofs.Common.{take}
use Rattle.cmm_digraph.specs.inside.Waiting.{IsReleased}
use Rattle.cmm_digraph.proofs.waiting.release.Given as goal

abbrev pub invariant-loop-user : goal.invariant-loop-user
invariant-loop-user l = IsReleased l.fn.waiting.items l.fn.order (take l.user-index l.users) l.waiting.items l.order
