use Rattle.std.proofs.Common.{◌≡◌, take}
use Rattle.std.specs.Prelude.{flat_map}
use Rattle.cmm_static_semantics.specs.Expressions.{constant_alone_spots}
use Rattle.cmm_static_semantics.specs.Spots.{first_of}
use Rattle.cmm_check_declarations.proofs.data.note_values.Given as goal

abbrev pub invariant-loop-value : goal.invariant-loop-value
invariant-loop-value g l = l.best ≡ first_of l.fn.best (flat_map (constant_alone_spots (g.N.Names.senses l.names) l.width) (take l.value-index l.values))
