use Rattle.std.proofs.Common.{arith}
use Rattle.cmm_effects.proofs.Shared.{adds_weaker, by_last}
use Rattle.cmm_emit.proofs.Bodies.{jump_codes}
use Rattle.cmm_emit.proofs.Operands.{named_is_target, operands_are_ready}
use Rattle.cmm_emit.proofs.transfer.jump_to_label.Goals as goal

pub jump-requires-clause-labels : goal.jump-requires-clause-labels
jump-requires-clause-labels c =
    rw (c.as_slice.ensures, c.in_ok-operands.ensures)
    (operands_are_ready c.args.asm.now.labels c.args.context.now c.args.targets.now c.requires.ready c.args.arguments.now (grind (arith, c.requires.goes)))

pub jump-requires-clause-to : goal.jump-requires-clause-to
jump-requires-clause-to c = named_is_target c.args.asm.now.labels c.args.context.now c.args.targets.now c.requires.ready c.args.callee c.args.to c.requires.named

pub returns-clause-code : goal.returns-clause-code
returns-clause-code c =
    by_last c.jump.result c.jump.ensures.jumps
    (λ h.
    let jumps = rw (c.as_slice.ensures, c.in_ok-operands.ensures) at h in
    adds_weaker jumps (omega arith) (λ x from to does. jump_codes c.args.asm.now.labels c.args.context.now c.args.targets.now c.requires.ready x from to c.args.callee c.args.arguments.now c.args.to c.requires.named c.requires.goes does))
