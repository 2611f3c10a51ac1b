use Rattle.std.proofs.Common.{◌∙◌}
use Rattle.cmm_client.specs.Stops.{region_of, state_of}
use Rattle.cmm_client.proofs.AnswerLaws.{next_fails, next_goes}
use Rattle.cmm_client.proofs.yielding.answer.Goals as goal

pub returns-in_err-to-clause-writes : goal.returns-in_err-to-clause-writes
returns-in_err-to-clause-writes g c =
    next_fails g.E.Sink.taken g.E.Sink.faults c.args.log.now c.loop-next.log c.command.new.log c.args.i.now (region_of c.args.stopped.now) (region_of c.loop-next.stopped) c.loop-next.invariant.region c.args.yielded.now _
    c.loop-next.cursor (state_of c.loop-next.stopped) (state_of c.command.new.stopped) c.args.commands.now c.loop-next.next-index c.next-item.result c.loop-next-test.true c.next-item.is
    c.loop-next.invariant.so_far c.command.result c.command.ensures.replies c.command.ensures.stays _ _ c.in_err-to.was c.from_residual.ensures.0

pub loop-next-preserved : goal.loop-next-preserved
loop-next-preserved g c = record {
  so_far = next_goes g.E.Sink.taken g.E.Sink.faults c.args.log.now c.loop-next.log c.command.new.log c.args.i.now (region_of c.args.stopped.now) (region_of c.loop-next.stopped) c.loop-next.invariant.region c.args.yielded.now _
      c.loop-next.cursor (state_of c.loop-next.stopped) (state_of c.command.new.stopped) c.args.commands.now c.loop-next.next-index c.next-item.result c.loop-next-test.true c.next-item.is
      c.loop-next.invariant.so_far c.command.result c.command.ensures.replies c.command.ensures.stays _ _ c.in_ok-to.was c.in-Goes.is;
  map = c.command.ensures.map ∙ c.loop-next.invariant.map;
  region = c.command.ensures.region ∙ c.loop-next.invariant.region;
}
