use Rattle.std.proofs.Common.{◌≡◌, map, take}
use Rattle.std.specs.Prelude.{flat_map}
use Rattle.cmm_static_semantics.specs.Scopes.{senses}
use Rattle.cmm_symbols.specs.Shown.{piece_part}
use Rattle.cmm_lower_parts.specs.inside.Numbers.{part_conts}
use Rattle.cmm_proc_scope.specs.Bodies.{scope_of_body}
use Rattle.cmm_lower_parts.proofs.continuations.conts_in.Given as goal

abbrev pub invariant-loop-piece : goal.invariant-loop-piece
invariant-loop-piece g l = l.conts ≡ flat_map (part_conts (senses (scope_of_body g.N.Names.senses l.names))) (map piece_part (take l.piece-index l.pieces))
