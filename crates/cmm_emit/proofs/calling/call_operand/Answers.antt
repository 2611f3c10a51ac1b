use Rattle.std.proofs.Common.{◌≡◌, length, arith}
use Rattle.std.proofs.lemmas.List.{length-map}
use Rattle.cmm_effects.proofs.Shared.{adds_weaker, by_last}
use Rattle.cmm_emit.proofs.Bodies.{few_for}
use Rattle.cmm_emit.proofs.Calls.{calls_operand}
use Rattle.cmm_emit.proofs.Operands.{operands_are_ready}
use Rattle.cmm_emit.specs.Naming.{argument_operand, argument_operands, code_operand}
use Rattle.cmm_emit.proofs.calling.call_operand.Goals as goal

pub call_by-requires-clause-labels : goal.call_by-requires-clause-labels
call_by-requires-clause-labels c =
    rw (c.as_slice-2.ensures, c.in_ok-operands.ensures)
    (operands_are_ready c.args.asm.now.labels c.args.context.now c.args.targets.now c.requires.ready c.args.arguments.now (grind (arith, c.requires.goes)))

pub returns-clause-code : goal.returns-clause-code
returns-clause-code c =
    by_last c.call_by.result c.call_by.ensures.calls
    (λ h.
    let p = c.args.context.now in
    let y = c.args.targets.now in
    let arguments = c.args.arguments.now in
    let same : length (argument_operands p y arguments) ≡ length arguments = length-map arguments (argument_operand p y) in
    let calls = rw (c.code_operand-to.ensures, c.as_slice.ensures, c.as_slice-2.ensures, c.in_ok-operands.ensures) at h in
    adds_weaker calls (omega (arith, same, few_for (code_operand p y c.args.callee)))
    (λ x from to does. calls_operand c.args.asm.now.labels p y c.requires.ready x from to c.args.site c.requires.site c.args.callee arguments c.requires.goes does))
