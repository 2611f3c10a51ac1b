use Rattle.std.proofs.Common.{◌≡◌, ◌++◌, List, map, take}
use Rattle.std.specs.Prelude.{flat_map}
use Rattle.cmm_static_semantics.specs.Items.{SpanTree, part_within}
use Rattle.cmm_symbols.specs.inside.Arms.{in_arms}
use Rattle.cmm_symbols.specs.Shown.{piece_part, whats}
use Rattle.cmm_symbols.proofs.piece.+pieces.Given as goal

abbrev pub invariant-add_arms-loop-arm : goal.invariant-add_arms-loop-arm
invariant-add_arms-loop-arm l = (spans : List SpanTree) → map piece_part l.to ≡ map piece_part l.initial.to ++ in_arms spans (take l.arm-index l.arms)

abbrev pub invariant-add_block-loop-part : goal.invariant-add_block-loop-part
invariant-add_block-loop-part l = (spans : List SpanTree) → map piece_part l.to ≡ map piece_part l.initial.to ++ whats (flat_map (part_within spans) (take l.part-index l.part-items))
