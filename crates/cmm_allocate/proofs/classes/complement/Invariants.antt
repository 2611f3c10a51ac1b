use Rattle.cmm_allocate.specs.inside.Classing.{IsComplementTo}
use Rattle.cmm_allocate.proofs.classes.complement.Given as goal

abbrev pub invariant-loop-number : goal.invariant-loop-number
invariant-loop-number l = IsComplementTo l.number l.set l.others
