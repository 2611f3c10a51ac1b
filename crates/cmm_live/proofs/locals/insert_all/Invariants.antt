use Rattle.std.proofs.Common.{take, true}
use Rattle.cmm_live.specs.inside.Marking.{Marked}
use Rattle.cmm_live.proofs.locals.insert_all.Given as goal

abbrev pub invariant-loop-local : goal.invariant-loop-local
invariant-loop-local l = Marked l.g l.fn.set l.set (take l.local-index l.locals) true
