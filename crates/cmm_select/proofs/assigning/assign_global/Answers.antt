use Rattle.std.proofs.Common.{arith}
use Rattle.cmm_effects.proofs.Shared.{adds_then, adds_weaker, by_last}
use Rattle.cmm_select.proofs.Putting.{copies_global}
use Rattle.cmm_select.proofs.assigning.assign_global.Goals as goal

pub returns-clause-copies : goal.returns-clause-copies
returns-clause-copies c =
    by_last c.finish.result c.finish.ensures.finishes
    (λ h.
    adds_weaker (adds_then c.in_ok-read_global.ensures.reads h) (omega arith)
    (λ x from end does. copies_global x c.args.to.now from end (x.at c.args.from.number) c.target.result c.target.ensures.is does))
