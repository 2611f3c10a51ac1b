use Rattle.std.proofs.Common.{◌≡◌, ◌<◌, length, subst}
use Rattle.cmm_moves.specs.inside.Pending.{reads_at}
use Rattle.cmm_moves.proofs.Places.{taken_at}
use Rattle.cmm_moves.proofs.waiting.take_reader.Goals as goal

pub returns-in-Some : goal.returns-in-Some
returns-in-Some c =
    taken_at c.args.waiting.now.items c.remove.new.self.items c.in-Some.index c.args.place c.remove.result
    (subst (λ ms. c.in-Some.index < length ms) c.deref.ensures.value c.in-Some.ensures.0)
    (subst (λ ms. reads_at ms c.in-Some.index ≡ c.args.place) c.deref.ensures.value c.in-Some.ensures.1)
    c.remove.ensures.value c.remove.ensures.items
