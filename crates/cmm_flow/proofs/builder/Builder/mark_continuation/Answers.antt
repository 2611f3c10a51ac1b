use Rattle.std.proofs.Common.{arith, refl}
use Rattle.cmm_flow.proofs.Marking.{continuation_left, continuation_set}
use Rattle.cmm_flow.proofs.builder.Builder.mark_continuation.Goals as goal

pub returns-then-continuation-len : goal.returns-then-continuation-len
returns-then-continuation-len c = record { marks = continuation_set c.args.self.now c.set.new.self c.args.continuation c.args.to (omega arith) c.set.ensures; nodes = refl }

pub returns-else-continuation-len : goal.returns-else-continuation-len
returns-else-continuation-len c = record { marks = continuation_left c.args.self.now c.args.continuation c.args.to (omega arith); nodes = refl }
