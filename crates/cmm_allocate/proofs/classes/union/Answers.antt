use Rattle.std.proofs.Common.{Bool, List, length, ap, ◌∙◌}
use Rattle.cmm_allocate.proofs.Classing.{union_more}
use Rattle.cmm_allocate.proofs.classes.union.Goals as goal

pub loop-set-preserved : goal.loop-set-preserved
loop-set-preserved c =
    let one = c.set-item.result in
    rw c.join.ensures.joined (union_more c.args.sets.now c.loop-set.set-index c.args.size one c.loop-set.all c.loop-set-test.true c.set-item.is
    (ap (λ (s : List Bool). length s) c.set-item.is ∙ c.requires c.loop-set.set-index one c.loop-set-test.true) c.loop-set.invariant)
