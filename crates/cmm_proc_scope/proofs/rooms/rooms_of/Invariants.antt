use Rattle.std.proofs.Common.{◌≡◌, map, take}
use Rattle.std.specs.Prelude.{flat_map}
use Rattle.cmm_static_semantics.specs.Limits.{local_rooms}
use Rattle.cmm_symbols.specs.Shown.{piece_part}
use Rattle.cmm_proc_scope.proofs.rooms.rooms_of.Given as goal

abbrev pub invariant-loop-piece : goal.invariant-loop-piece
invariant-loop-piece l = map (λ r. r.now) l.rooms ≡ flat_map local_rooms (map piece_part (take l.piece-index l.pieces))
