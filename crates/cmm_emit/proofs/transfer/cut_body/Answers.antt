use Rattle.std.proofs.Common.{◌≡◌, length, arith}
use Rattle.std.proofs.lemmas.List.{length-map}
use Rattle.cmm_effects.proofs.Shared.{adds_weaker, by_last}
use Rattle.cmm_emit.proofs.Bodies.{cut_codes}
use Rattle.cmm_emit.proofs.Operands.{operands_are_ready}
use Rattle.cmm_emit.specs.Naming.{argument_operand, argument_operands}
use Rattle.cmm_emit.proofs.transfer.cut_body.Goals as goal

pub cut-requires-clause-labels : goal.cut-requires-clause-labels
cut-requires-clause-labels c =
    rw (c.as_slice.ensures, c.in_ok-operands.ensures)
    (operands_are_ready c.args.asm.now.labels c.args.context.now c.args.targets.now c.requires.ready c.args.arguments.now (grind (arith, c.requires.goes)))

pub returns-clause-code : goal.returns-clause-code
returns-clause-code c own =
    by_last c.cut.result c.cut.ensures.cuts
    (λ h.
    let p = c.args.context.now in
    let y = c.args.targets.now in
    let arguments = c.args.arguments.now in
    let same : length (argument_operands p y arguments) ≡ length arguments = length-map arguments (argument_operand p y) in
    let cuts = rw (c.code_operand-pair.ensures, c.as_slice.ensures, c.in_ok-operands.ensures) at h in
    adds_weaker cuts (omega (arith, same)) (λ x from to does. cut_codes c.args.asm.now.labels c.args.context.now c.args.targets.now c.requires.ready x from to c.args.to arguments own c.requires.goes does))
