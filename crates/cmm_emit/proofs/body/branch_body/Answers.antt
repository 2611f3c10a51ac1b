use Rattle.std.proofs.Common.{arith}
use Rattle.cmm_effects.proofs.Shared.{adds_weaker, by_last}
use Rattle.cmm_emit.proofs.Bodies.{branch_codes}
use Rattle.cmm_emit.proofs.body.branch_body.Goals as goal

pub returns-clause-code : goal.returns-clause-code
returns-clause-code c otherwise =
    by_last c.decide.result c.decide.ensures.decides
    (λ h.
    let decides = rw (c.code_operand-left.ensures, c.code_operand-right.ensures, c.as_slice.ensures) at h in
    adds_weaker decides (omega arith)
    (λ x from to does. branch_codes c.args.asm.now.labels c.args.context.now c.args.targets.now c.requires.ready x from to c.args.test.now c.args.then otherwise c.requires.test c.requires.then does))
