use Rattle.std.proofs.Common.{arith}
use Rattle.cmm_effects.proofs.Shared.{adds_weaker, by_last}
use Rattle.cmm_emit.proofs.Bodies.{store_codes}
use Rattle.cmm_emit.proofs.body.store_body.Goals as goal

pub returns-clause-code : goal.returns-clause-code
returns-clause-code c next =
    by_last c.store.result c.store.ensures.stores
    (λ h.
    let stores = rw (c.code_operand-to.ensures, c.code_operand-stored.ensures) at h in
    adds_weaker stores (omega arith)
    (λ x from to does. store_codes c.args.asm.now.labels c.args.context.now c.args.targets.now c.requires.ready x from to c.args.width c.args.aligned c.args.address c.args.value next c.requires.address c.requires.value does))
