use Rattle.std.proofs.Common.{◌≡◌, length, arith}
use Rattle.std.proofs.lemmas.List.{length-map}
use Rattle.cmm_effects.proofs.Shared.{adds_weaker}
use Rattle.cmm_emit.proofs.Calls.{yields_values}
use Rattle.cmm_emit.proofs.NodeLabels.{inner_target}
use Rattle.cmm_emit.proofs.Operands.{values_are_ready}
use Rattle.cmm_emit.specs.Naming.{code_operand, code_operands}
use Rattle.cmm_emit.proofs.yielding.yield_values.Goals as goal

pub call-requires-clause-labels : goal.call-requires-clause-labels
call-requires-clause-labels c =
    rw (c.as_slice-2.ensures, c.in_ok-operands.ensures)
    (values_are_ready c.args.asm.now.labels c.args.context.now c.args.targets.now c.requires.ready c.args.values.now (grind (arith, c.requires.values)))

pub call-requires-clause-to : goal.call-requires-clause-to
call-requires-clause-to c = inner_target c.args.asm.now.labels c.args.targets.now.client c.requires.ready.client

pub returns-clause-code : goal.returns-clause-code
returns-clause-code c =
    let p = c.args.context.now in
    let y = c.args.targets.now in
    let values = c.args.values.now in
    let same : length (code_operands p y values) ≡ length values = length-map values (code_operand p y) in
    let calls = rw (c.as_slice.ensures, c.as_slice-2.ensures, c.in_ok-operands.ensures) at c.in_ok-call.ensures.calls in
    adds_weaker calls (omega (arith, same)) (λ x from to does. yields_values c.args.asm.now.labels p y c.requires.ready x from to c.args.site c.requires.site values c.requires.values does)

pub returns-clause-behind : goal.returns-clause-behind
returns-clause-behind c = rw c.as_slice.ensures at c.in_ok-call.ensures.behind
