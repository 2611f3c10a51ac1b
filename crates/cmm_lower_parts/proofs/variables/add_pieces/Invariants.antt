use Rattle.std.proofs.Common.{◌≡◌, ◌++◌, map, take}
use Rattle.std.specs.Prelude.{flat_map}
use Rattle.cmm_elaboration.specs.Procedures.{part_infos}
use Rattle.cmm_symbols.specs.Shown.{piece_part}
use Rattle.cmm_proc_scope.specs.Bodies.{scope_of_body}
use Rattle.cmm_lower_parts.proofs.variables.add_pieces.Given as goal

abbrev pub invariant-loop-piece : goal.invariant-loop-piece
invariant-loop-piece g l = l.to ≡ l.initial.to ++ flat_map (part_infos (scope_of_body g.N.Names.senses l.names)) (map piece_part (take l.piece-index l.pieces))
