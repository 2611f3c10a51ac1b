use Rattle.std.proofs.Common.{◌≡◌, Some, subst}
use Rattle.cmm_client.specs.Stops.{region_of, state_of}
use Rattle.rv_table.specs.Machine.{State}
use Rattle.cmm_program.specs.Commands.{Answer}
use Rattle.cmm_client.specs.Yields.{at_yield}
use Rattle.cmm_run.specs.declared.outcome.Outcome.TheVariants.{OutputFault}
use Rattle.cmm_run.specs.inside.Yields.{AnswersWith}
use Rattle.cmm_run.proofs.AtYields.{leaves}
use Rattle.cmm_run.proofs.yielding.yields.Goals as goal

pub returns-in-Ok-clause-answers : goal.returns-in-Ok-clause-answers
returns-in-Ok-clause-answers g c =
    let l = c.args.loaded.now in
    let r = region_of c.args.machine.now.program in
    let s = state_of c.args.machine.now.program in
    let after = state_of c.answer_yield.new.stopped in
    let same : at_yield c.image.result.now r c.script.result.now s ≡ at_yield l.image r l.script s = λ j. at_yield (c.image.ensures j) r (c.script.ensures.same j) s in
    subst (λ (a : Answer State State). AnswersWith a after g.E.Sink.taken g.E.Sink.faults c.args.log.now c.answer_yield.new.log c.ending.result) same
    (leaves g.E.Sink.taken g.E.Sink.faults c.args.log.now c.answer_yield.new.log after (at_yield c.image.result.now r c.script.result.now s) c.answer_yield.result c.in-Ok.left c.ending.result
    c.in-Ok.is c.answer_yield.ensures.writes c.in-Ok.ensures.left c.ending.ensures)

pub returns-in-Err-clause-answers : goal.returns-in-Err-clause-answers
returns-in-Err-clause-answers g c =
    let l = c.args.loaded.now in
    let r = region_of c.args.machine.now.program in
    let s = state_of c.args.machine.now.program in
    let after = state_of c.answer_yield.new.stopped in
    let same : at_yield c.image.result.now r c.script.result.now s ≡ at_yield l.image r l.script s = λ j. at_yield (c.image.ensures j) r (c.script.ensures.same j) s in
    subst (λ (a : Answer State State). AnswersWith a after g.E.Sink.taken g.E.Sink.faults c.args.log.now c.answer_yield.new.log (Some OutputFault)) same
    (c.in-Err.ensures.writes.err, c.in-Err.ensures.writes.fault)
