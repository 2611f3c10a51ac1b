use Rattle.std.proofs.Common.{arith}
use Rattle.cmm_effects.proofs.Shared.{adds_weaker, by_last}
use Rattle.cmm_emit.proofs.Bodies.{few_for, jump_by_codes}
use Rattle.cmm_emit.proofs.Operands.{operands_are_ready}
use Rattle.cmm_emit.specs.Naming.{code_operand}
use Rattle.cmm_emit.proofs.transfer.jump_to_operand.Goals as goal

pub jump_by-requires-clause-labels : goal.jump_by-requires-clause-labels
jump_by-requires-clause-labels c =
    rw (c.as_slice.ensures, c.in_ok-operands.ensures)
    (operands_are_ready c.args.asm.now.labels c.args.context.now c.args.targets.now c.requires.ready c.args.arguments.now (grind (arith, c.requires.goes)))

pub returns-clause-code : goal.returns-clause-code
returns-clause-code c =
    by_last c.jump_by.result c.jump_by.ensures.jumps
    (λ h.
    let jumps = rw (c.code_operand-to.ensures, c.as_slice.ensures, c.in_ok-operands.ensures) at h in
    adds_weaker jumps (omega (arith, few_for (code_operand c.args.context.now c.args.targets.now c.args.callee)))
    (λ x from to does. jump_by_codes c.args.asm.now.labels c.args.context.now c.args.targets.now c.requires.ready x from to c.args.callee c.args.arguments.now c.requires.goes does))
