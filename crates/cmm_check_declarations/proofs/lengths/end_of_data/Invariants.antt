use Rattle.std.proofs.Common.{◌≡◌, ◌≤◌, map, take}
use Rattle.cmm_program.specs.Layout.{end_of}
use Rattle.cmm_symbols.specs.Shown.{thing_item}
use Rattle.cmm_check_declarations.specs.DataEnds.{data_of}
use Rattle.cmm_check_declarations.proofs.lengths.end_of_data.Given as goal

abbrev pub invariant-loop-thing : goal.invariant-loop-thing
invariant-loop-thing g l = record {
  so_far : l.end ≡ end_of l.place (data_of (g.N.Names.senses l.names) (map thing_item (take l.thing-index l.things)));
  within : l.end ≤ 67108864;
}
