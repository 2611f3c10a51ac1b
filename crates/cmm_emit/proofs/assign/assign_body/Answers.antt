use Rattle.cmm_effects.proofs.Shared.{adds_weaker, by_last}
use Rattle.std.proofs.Common.{arith}
use Rattle.cmm_emit.proofs.Bodies.{assign_codes}
use Rattle.cmm_emit.proofs.assign.assign_body.Goals as goal

pub returns-clause-code : goal.returns-clause-code
returns-clause-code c next =
    by_last c.put_value.result c.put_value.ensures.puts
    (λ h.
    let puts = rw c.code_destination-into.ensures at h in
    adds_weaker puts (omega arith) (λ x from to puts. assign_codes c.args.asm.now.labels c.args.context.now c.args.targets.now c.requires.ready x from to c.args.to.now c.args.value.now next c.requires.to puts))
