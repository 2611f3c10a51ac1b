use Rattle.std.proofs.Common.{◌+◌, map, take, Bor}
use Rattle.cmm_ast.specs.declared.procedure.Room.{Room}
use Rattle.cmm_static_semantics.specs.Limits.{room_piece}
use Rattle.cmm_program.specs.Layout.{end_of}
use Rattle.cmm_static_semantics.proofs.Shared.{mapped_next}
use Rattle.cmm_proc_scope.specs.Bodies.{scope_of_body}
use Rattle.cmm_limits.proofs.Rooms.{walked, within_bounds}
use Rattle.cmm_limits.proofs.stackdata.note_rooms.Goals as goal

pub loop-room-preserved : goal.loop-room-preserved
loop-room-preserved g c =
    let i = c.loop-room.room-index in let xs = c.args.rooms.now in let x = c.room-item.result in
    let seen = λ (r : Bor Room). r.now in
    walked (scope_of_body g.N.Names.senses c.args.names.now) c.args.best.now c.loop-room.best c.unless.new.best c.loop-room.place c.after_any-place.result
    (map seen (take i xs)) (map seen (take (i + 1) xs)) x.now c.is_some.result
    (mapped_next seen xs i x c.loop-room-test.true c.room-item.is) c.loop-room.invariant c.after_any-place.ensures c.is_some.ensures c.unless.ensures

pub after_any-place-requires-clause-place : goal.after_any-place-requires-clause-place
after_any-place-requires-clause-place g c = let s = scope_of_body g.N.Names.senses c.args.names.now in
    let seen = λ (r : Bor Room). r.now in
    within_bounds c.loop-room.place (end_of 0 (map (room_piece s) (map seen (take c.loop-room.room-index c.args.rooms.now)))) c.loop-room.invariant.ends
