use Rattle.std.proofs.Common.{map, take}
use Rattle.cmm_proc_scope.specs.Bodies.{scope_of_body}
use Rattle.cmm_limits.proofs.Rooms.{Walked}
use Rattle.cmm_limits.proofs.stackdata.note_rooms.Given as goal

abbrev pub invariant-loop-room : goal.invariant-loop-room
invariant-loop-room g l = Walked (scope_of_body g.N.Names.senses l.names) l.initial.best l.best l.place (map (λ r. r.now) (take l.room-index l.rooms))
