use Rattle.std.proofs.Common.{arith}
use Rattle.cmm_effects.proofs.Shared.{adds_then, adds_weaker}
use Rattle.cmm_calls.proofs.Rooms.{takes_room}
use Rattle.cmm_calls.proofs.room.take_room.Goals as goal

pub returns-then-size-le-NEAR-clause-takes : goal.returns-then-size-le-NEAR-clause-takes
returns-then-size-le-NEAR-clause-takes c = adds_weaker c.in_ok-take_small_room.ensures.takes (omega arith) (λ x from to does. does)

pub returns-clause-takes : goal.returns-clause-takes
returns-clause-takes c =
    adds_weaker (adds_then c.in_ok-check_room.ensures.checks c.in_ok-move_down.ensures.moves) (omega arith)
    (λ x from to does. takes_room x c.args.size c.args.limit from to does)
