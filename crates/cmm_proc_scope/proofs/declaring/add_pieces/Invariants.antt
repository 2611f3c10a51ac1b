use Rattle.std.proofs.Common.{◌≡◌, ◌++◌, map, take}
use Rattle.std.specs.Prelude.{flat_map}
use Rattle.cmm_static_semantics.specs.Declarations.{part_names}
use Rattle.cmm_symbols.specs.Shown.{piece_part}
use Rattle.cmm_proc_scope.specs.Owned.{local_declared}
use Rattle.cmm_proc_scope.proofs.declaring.add_pieces.Given as goal

abbrev pub invariant-loop-piece : goal.invariant-loop-piece
invariant-loop-piece l = map local_declared l.to ≡ map local_declared l.initial.to ++ flat_map part_names (map piece_part (take l.piece-index l.pieces))
