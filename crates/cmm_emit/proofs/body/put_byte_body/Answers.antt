use Rattle.std.proofs.Common.{arith}
use Rattle.cmm_effects.proofs.Shared.{adds_weaker, by_last}
use Rattle.cmm_emit.proofs.Bodies.{put_byte_codes}
use Rattle.cmm_emit.proofs.body.put_byte_body.Goals as goal

pub returns-clause-code : goal.returns-clause-code
returns-clause-code c next =
    by_last c.put_byte.result c.put_byte.ensures.requests
    (λ h.
    let requests = rw c.code_operand-operand.ensures at h in
    adds_weaker requests (omega arith)
    (λ x from to does. put_byte_codes c.args.asm.now.labels c.args.context.now c.args.targets.now c.requires.ready x from to c.args.value next c.requires.value does))
