use Rattle.std.proofs.Common.{◌≡◌, length, arith}
use Rattle.std.proofs.lemmas.List.{length-map}
use Rattle.cmm_effects.proofs.Shared.{adds_weaker, by_last}
use Rattle.cmm_emit.proofs.Calls.{calls_label}
use Rattle.cmm_emit.proofs.Operands.{operands_are_ready}
use Rattle.cmm_emit.specs.Naming.{argument_operand, argument_operands}
use Rattle.cmm_emit.proofs.calling.call_label.Goals as goal

pub call-requires-clause-labels : goal.call-requires-clause-labels
call-requires-clause-labels c =
    rw (c.as_slice-2.ensures, c.in_ok-operands.ensures)
    (operands_are_ready c.args.asm.now.labels c.args.context.now c.args.targets.now c.requires.ready c.args.arguments.now c.requires.arguments)

pub returns-clause-code : goal.returns-clause-code
returns-clause-code c callee named =
    by_last c.call.result c.call.ensures.calls
    (λ h.
    let p = c.args.context.now in
    let y = c.args.targets.now in
    let arguments = c.args.arguments.now in
    let same : length (argument_operands p y arguments) ≡ length arguments = length-map arguments (argument_operand p y) in
    let calls = rw (c.as_slice.ensures, c.as_slice-2.ensures, c.in_ok-operands.ensures) at h in
    adds_weaker calls (omega (arith, same))
    (λ x from to does. calls_label c.args.asm.now.labels p y c.requires.ready x from to c.args.site c.requires.site callee arguments c.args.to named c.requires.arguments c.requires.gives does))

pub returns-clause-behind : goal.returns-clause-behind
returns-clause-behind c =
    by_last c.call.result c.call.ensures.behind
    (λ h.
    rw c.as_slice.ensures at h)
