use Rattle.std.proofs.Common.{take}
use Rattle.cmm_flow.specs.inside.Temporaries.{IsLeast, is_below}
use Rattle.cmm_flow.proofs.temporaries.count_among.Given as goal

abbrev pub invariant-loop-local : goal.invariant-loop-local
invariant-loop-local l = IsLeast is_below (take l.local-index l.locals) l.count
