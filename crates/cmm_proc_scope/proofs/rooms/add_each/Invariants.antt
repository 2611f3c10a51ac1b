use Rattle.std.proofs.Common.{◌≡◌, ◌++◌, map, take}
use Rattle.cmm_proc_scope.proofs.rooms.add_each.Given as goal

abbrev pub invariant-loop-room : goal.invariant-loop-room
invariant-loop-room l = map (λ r. r.now) l.to ≡ map (λ r. r.now) l.initial.to ++ take l.room-index l.rooms
