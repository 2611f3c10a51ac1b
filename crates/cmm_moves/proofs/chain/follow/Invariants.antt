use Rattle.std.proofs.Common.{◌+◌, ◌*◌, length}
use Rattle.cmm_moves.specs.inside.Pending.{IsFollowed}
use Rattle.cmm_moves.proofs.chain.follow.Given as goal

abbrev pub invariant-loop-top : goal.invariant-loop-top
invariant-loop-top l = IsFollowed l.scratch l.fn.first l.fn.waiting.items l.fn.done l.path l.waiting.items l.done

abbrev pub decreases-loop-top : goal.decreases-loop-top
decreases-loop-top l = 2 * length l.waiting.items + length l.path
