use Rattle.cmm_client.specs.Stops.{cursor_of, region_of, state_of}
use Rattle.cmm_client.proofs.Said.{command_replies, command_stays}
use Rattle.cmm_client.proofs.command.command.Goals as goal

pub returns-clause-replies : goal.returns-clause-replies
returns-clause-replies g c =
    let i = c.args.i.now in
    command_replies g.E.Sink.taken g.E.Sink.faults c.args.log.now c.say.new.log i (region_of c.args.stopped.now) (region_of c.asked-asked.new.stopped) c.asked-asked.ensures.region c.args.yielded.now (cursor_of i c.args.cursor)
    (state_of c.args.stopped.now) (state_of c.asked-asked.new.stopped) c.args.command.now c.asked-asked.result c.asked-asked.ensures.keeps c.asked-asked.ensures.asked c.say.result c.say.ensures

pub returns-clause-stays : goal.returns-clause-stays
returns-clause-stays g c =
    command_stays g.E.Sink.taken g.E.Sink.faults c.args.log.now c.say.new.log c.args.i.now (region_of c.asked-asked.new.stopped) (cursor_of c.args.i.now c.args.cursor)
    (state_of c.args.stopped.now) (state_of c.asked-asked.new.stopped) c.asked-asked.result c.say.result c.asked-asked.ensures.keeps c.say.ensures
