use Rattle.std.proofs.Common.{◌≡◌, map, take}
use Rattle.std.specs.Prelude.{flat_map}
use Rattle.cmm_static_semantics.specs.Spots.{first_of}
use Rattle.cmm_static_semantics.specs.Statements.{part_spots}
use Rattle.cmm_symbols.specs.Shown.{piece_part}
use Rattle.cmm_proc_scope.specs.Bodies.{scope_of_body}
use Rattle.cmm_check_procedure.proofs.procedure.note_parts.Given as goal

abbrev pub invariant-loop-piece : goal.invariant-loop-piece
invariant-loop-piece g l = l.best ≡ first_of l.fn.best (flat_map (part_spots (scope_of_body g.N.Names.senses l.names)) (map piece_part (take l.piece-index l.pieces)))
