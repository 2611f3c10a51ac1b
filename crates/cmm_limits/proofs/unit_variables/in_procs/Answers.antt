use Rattle.std.proofs.Common.{◌∙◌}
use Rattle.cmm_limits.proofs.Sums.{variables_next}
use Rattle.cmm_limits.proofs.unit_variables.in_procs.Goals as goal

pub loop-own-preserved : goal.loop-own-preserved
loop-own-preserved c = c.saturating_add-sum.ensures
    ∙ variables_next c.args.procs.now c.loop-own.own-index c.own-item.result c.loop-own.sum c.in_proc.result c.loop-own-test.true c.own-item.is c.loop-own.invariant c.in_proc.ensures
