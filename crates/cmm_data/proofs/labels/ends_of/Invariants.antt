use Rattle.std.proofs.Common.{◌≡◌, ◌++◌, drop, map}
use Rattle.rv_table.specs.Memory.{data_base}
use Rattle.cmm_program.specs.Layout.{datum_piece, end_of}
use Rattle.cmm_data.specs.inside.Walking.{ends_from}
use Rattle.cmm_data.proofs.labels.ends_of.Given as goal

-- what is left is laid out from the end of what is done
abbrev pub invariant-loop-datum : goal.invariant-loop-datum
invariant-loop-datum l = record {
  so_far : l.ends.items ++ ends_from l.end (drop l.datum-index l.datums) ≡ ends_from data_base l.datums;
  last : end_of l.end (map datum_piece (drop l.datum-index l.datums)) ≡ end_of data_base (map datum_piece l.datums);
}
