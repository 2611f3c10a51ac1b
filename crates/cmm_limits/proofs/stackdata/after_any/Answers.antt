use Rattle.std.proofs.Common.{subst, Option, ℕ}
use Rattle.cmm_proc_scope.specs.Bodies.{scope_of_body}
use Rattle.cmm_limits.specs.inside.Ends.{IsWithin}
use Rattle.cmm_limits.proofs.Rooms.{past_stays}
use Rattle.cmm_limits.proofs.stackdata.after_any.Goals as goal

pub returns-in-None : goal.returns-in-None
returns-in-None g c at told =
    past_stays (scope_of_body g.N.Names.senses c.args.names.now) at c.args.room.now (subst (λ (o : Option ℕ). IsWithin o at) c.in-None.is told)
