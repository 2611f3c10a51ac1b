use Rattle.std.proofs.Common.{List, [], IfOk, subst}
use Rattle.cmm_outside.specs.Output.{WritesAll}
use Rattle.cmm_program.specs.Commands.{answer_of}
use Rattle.cmm_script.specs.declared.script.Command.{Command}
use Rattle.cmm_script.specs.Lines.{yield_line}
use Rattle.cmm_image_machine.specs.Machine.{askable}
use Rattle.cmm_client.specs.Stops.{cursor_of, region_of, state_of}
use Rattle.cmm_client.specs.Yields.{IsLeft}
use Rattle.cmm_client.proofs.YieldLaws.{line_fails, line_then}
use Rattle.cmm_client.proofs.yielding.answer_values.Goals as goal

pub returns-in_err-put_yield-clause-writes : goal.returns-in_err-put_yield-clause-writes
returns-in_err-put_yield-clause-writes g c =
    line_fails g.E.Sink.taken g.E.Sink.faults c.args.log.now c.args.log.now c.put_yield.new.to (yield_line c.args.values.now) _ c.put_yield.result _ c.from_residual.result
    c.in_err-put_yield.was c.from_residual.ensures.0 c.put_yield.ensures

pub returns-clause-writes : goal.returns-clause-writes
returns-clause-writes g c =
    let i = c.args.i.now in
    let stopped = c.args.stopped.now in
    line_then g.E.Sink.taken g.E.Sink.faults c.args.log.now c.put_yield.new.to c.answer.new.log (yield_line c.args.values.now) _ c.put_yield.result _ c.answer.result
    c.in_ok-put_yield.was c.put_yield.ensures
    (subst (λ (commands : List Command). WritesAll g.E.Sink.taken g.E.Sink.faults c.put_yield.new.to c.answer.new.log
    (answer_of (askable i (region_of stopped)) c.args.values.now [] (cursor_of i c.args.cursor) (state_of stopped) commands).text c.answer.result)
    c.commands_for-commands.ensures.commands c.answer.ensures.writes)

pub returns-clause-left : goal.returns-clause-left
returns-clause-left g c =
    let i = c.args.i.now in
    let stopped = c.args.stopped.now in
    subst (λ (commands : List Command). IfOk c.answer.result (λ left. IsLeft
    (answer_of (askable i (region_of stopped)) c.args.values.now [] (cursor_of i c.args.cursor) (state_of stopped) commands).left left (state_of c.answer.new.stopped)))
    c.commands_for-commands.ensures.commands c.answer.ensures.left
