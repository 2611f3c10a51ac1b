use Rattle.std.proofs.Common.{arith}
use Rattle.cmm_effects.proofs.Shared.{adds_weaker, by_last}
use Rattle.cmm_emit.proofs.Bodies.{get_byte_codes}
use Rattle.cmm_emit.proofs.body.get_byte_body.Goals as goal

pub returns-clause-code : goal.returns-clause-code
returns-clause-code c next =
    by_last c.get_byte.result c.get_byte.ensures.requests
    (λ h.
    let requests = rw c.target_destination-into.ensures at h in
    adds_weaker requests (omega arith)
    (λ x from to does. get_byte_codes c.args.asm.now.labels c.args.context.now c.args.targets.now c.requires.ready x from to c.args.to next c.requires.to does))
