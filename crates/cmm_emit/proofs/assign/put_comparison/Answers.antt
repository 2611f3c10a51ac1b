use Rattle.cmm_effects.proofs.Shared.{adds_weaker, by_last}
use Rattle.std.proofs.Common.{arith}
use Rattle.cmm_emit.proofs.Assigning.{comparison_puts}
use Rattle.cmm_emit.proofs.assign.put_comparison.Goals as goal

pub returns-clause-puts : goal.returns-clause-puts
returns-clause-puts c =
    by_last c.assign_comparison.result c.assign_comparison.ensures.assigns
    (λ h.
    let does = rw (c.code_operand-left.ensures, c.code_operand-right.ensures) at h in
    adds_weaker does (omega arith) (λ x from to does. comparison_puts c.args.asm.now.labels c.args.context.now c.args.targets.now c.requires.ready x from to c.args.into.now c.args.test.now c.requires.test does))
