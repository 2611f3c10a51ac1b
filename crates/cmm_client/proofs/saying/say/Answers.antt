use Rattle.std.proofs.Common.{Result, sym, subst}
use Rattle.cmm_client.specs.Stops.{cursor_of, region_of, state_of}
use Rattle.cmm_resume.specs.declared.refusal.Refusal.{Refusal}
use Rattle.cmm_client.specs.declared.reply.Reply.{Reply}
use Rattle.cmm_client.specs.inside.Replies.{Replies, meant, reply_of}
use Rattle.cmm_client.proofs.saying.say.Goals as goal

pub returns-in-Err : goal.returns-in-Err
returns-in-Err g c =
    let i = c.args.i.now in
    let r = region_of c.args.stopped.now in
    let s = state_of c.args.stopped.now in
    let cursor = cursor_of i c.args.cursor in
    subst (λ (a : Result Reply Refusal). Replies g.E.Sink.taken g.E.Sink.faults c.args.log.now c.say_refusal.new.log i r s (reply_of cursor s (meant i r cursor s a)) c.say_refusal.result)
    (sym c.in-Err.is) (c.say_refusal.ensures i r s c.requires.cursor)
