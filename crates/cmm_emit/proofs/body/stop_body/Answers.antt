use Rattle.std.proofs.Common.{arith}
use Rattle.cmm_effects.proofs.Shared.{adds_weaker, by_last}
use Rattle.cmm_emit.proofs.Bodies.{stop_codes}
use Rattle.cmm_emit.proofs.body.stop_body.Goals as goal

pub returns-clause-code : goal.returns-clause-code
returns-clause-code c =
    by_last c.stop.result c.stop.ensures.traps
    (λ h.
    adds_weaker h (omega arith) (λ x from to does. stop_codes c.args.context.now c.args.targets.now x from to does))
