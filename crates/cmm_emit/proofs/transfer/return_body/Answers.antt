use Rattle.cmm_emit.proofs.Operands.{operands_are_ready}
use Rattle.std.proofs.Common.{arith}
use Rattle.cmm_effects.proofs.Shared.{adds_weaker, by_last}
use Rattle.cmm_emit.proofs.Bodies.{return_codes}
use Rattle.cmm_emit.proofs.transfer.return_body.Goals as goal

pub return_values-requires-clause-labels : goal.return_values-requires-clause-labels
return_values-requires-clause-labels c =
    rw (c.as_slice.ensures, c.in_ok-operands.ensures)
    (operands_are_ready c.args.asm.now.labels c.args.context.now c.args.targets.now c.requires.ready c.args.results.now (grind (arith, c.requires.results)))

pub returns-clause-code : goal.returns-clause-code
returns-clause-code c alternates =
    by_last c.return_values.result c.return_values.ensures.returns
    (λ h.
    let returns = rw (c.as_slice.ensures, c.in_ok-operands.ensures) at h in
    adds_weaker returns (omega arith)
    (λ x from to does. return_codes c.args.asm.now.labels c.args.context.now c.args.targets.now c.requires.ready x from to c.args.exit alternates c.args.results.now c.requires.results does))
