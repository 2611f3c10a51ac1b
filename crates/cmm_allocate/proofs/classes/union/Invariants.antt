use Rattle.std.proofs.Common.{take}
use Rattle.cmm_allocate.specs.inside.Classing.{IsUnionOf}
use Rattle.cmm_allocate.proofs.classes.union.Given as goal

abbrev pub invariant-loop-set : goal.invariant-loop-set
invariant-loop-set l = IsUnionOf (take l.set-index l.sets) l.size l.all
