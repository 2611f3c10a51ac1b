use Rattle.cmm_static_semantics.specs.Statements.{room_spots}
use Rattle.cmm_static_semantics.proofs.Shared.{noted_next}
use Rattle.cmm_proc_scope.specs.Bodies.{scope_of_body}
use Rattle.cmm_check_procedure.proofs.declaring.note_rooms.Goals as goal

pub loop-room-preserved : goal.loop-room-preserved
loop-room-preserved g c = rw (c.note_room.ensures, c.loop-room.invariant)
    (noted_next (room_spots (scope_of_body g.N.Names.senses c.args.names.now)) c.args.best.now c.args.rooms.now c.loop-room.room-index c.room-item.result c.loop-room-test.true c.room-item.is)
