use Rattle.std.proofs.Common.{arith}
use Rattle.cmm_effects.proofs.Shared.{adds_weaker, by_last}
use Rattle.cmm_emit.proofs.Bodies.{switch_codes}
use Rattle.cmm_emit.proofs.body.switch_body.Goals as goal

pub returns-clause-code : goal.returns-clause-code
returns-clause-code c otherwise =
    by_last c.switch.result c.switch.ensures.switches
    (λ h.
    let switches = rw (c.code_operand-operand.ensures, c.as_slice.ensures) at h in
    adds_weaker switches (omega arith)
    (λ x from to does. switch_codes c.args.asm.now.labels c.args.context.now c.args.targets.now c.requires.ready x from to c.args.value c.args.arms.now otherwise c.requires.value c.requires.arms does))
