use Rattle.std.proofs.Common.{◌≡◌, ◌++◌, map, take}
use Rattle.std.specs.Prelude.{flat_map}
use Rattle.cmm_static_semantics.specs.Declarations.{room_names}
use Rattle.cmm_proc_scope.specs.Owned.{local_declared}
use Rattle.cmm_proc_scope.proofs.declaring.add_rooms.Given as goal

abbrev pub invariant-loop-room : goal.invariant-loop-room
invariant-loop-room l = map local_declared l.to ≡ map local_declared l.initial.to ++ flat_map room_names (take l.room-index l.rooms)
