use Rattle.std.proofs.Common.{Ok, sym, subst}
use Rattle.rv_memory.specs.Regions as regions
use Rattle.rv_memory.specs.States as states
use Rattle.cmm_image_machine.specs.Frames.{chain_of}
use Rattle.cmm_image_machine.specs.Machine.{askable}
use Rattle.cmm_program.specs.Commands.{listed}
use Rattle.cmm_client.specs.declared.reply.Reply.{Reply}
use Rattle.cmm_client.specs.declared.stopped.Thread.{Thread}
use Rattle.cmm_client.specs.Stops.{cursor_of, region_of, state_of}
use Rattle.cmm_client.specs.inside.Replies.{Replies, meant, reply_of}
use Rattle.cmm_client.proofs.saying.say_reply.Goals as goal

pub returns-in-Walk : goal.returns-in-Walk
returns-in-Walk g c =
    let i = c.args.i.now in
    let cursor = cursor_of i c.args.cursor in
    let r = region_of c.args.stopped.now in
    let s = state_of c.args.stopped.now in
    subst (λ (a : Reply). Replies g.E.Sink.taken g.E.Sink.faults c.args.log.now c.list.new.log i r s (reply_of cursor s (meant i r cursor s (Ok a))) c.list.result)
    (sym c.in-Walk.is)
    (subst (λ (t : Thread). let r = regions.region_of t.memory in let s = states.state_of t.regs t.memory in
    Replies g.E.Sink.taken g.E.Sink.faults c.args.log.now c.list.new.log i r s (reply_of cursor s (listed (askable i r) cursor s (chain_of i r s))) c.list.result)
    c.at_cursor.ensures c.list.ensures)
