use Rattle.std.proofs.Common.{◌≡◌, ◌+◌, ◌++◌, drop, length, map}
use Rattle.rv_table.specs.Memory.{data_base}
use Rattle.cmm_program.specs.Layout.{datum_piece, end_of}
use Rattle.cmm_data.specs.inside.Walking.{bytes_by, fixes_from, unfilled}
use Rattle.cmm_data.proofs.image.image_of.Given as goal

-- what is left is laid out behind the bytes so far
abbrev pub invariant-loop-datum : goal.invariant-loop-datum
invariant-loop-datum l = record {
  so_far : l.image.bytes.items ++ bytes_by (unfilled l.addresses) (data_base + length l.image.bytes.items) (drop l.datum-index l.datums)
      ≡ bytes_by (unfilled l.addresses) data_base l.datums;
  waiting : l.image.fixes.items ++ fixes_from (data_base + length l.image.bytes.items) (drop l.datum-index l.datums) ≡ fixes_from data_base l.datums;
  last : end_of (data_base + length l.image.bytes.items) (map datum_piece (drop l.datum-index l.datums)) ≡ end_of data_base (map datum_piece l.datums);
}
