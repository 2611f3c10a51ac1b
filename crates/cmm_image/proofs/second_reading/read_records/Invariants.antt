use Rattle.std.proofs.Common.{◌≡◌, flat_map, length}
use Rattle.cmm_format.specs.Formats.{AreBytes}
use Rattle.cmm_image.specs.inside.Records.{AreRecords, Distinct}
use Rattle.cmm_image.proofs.RecordLaws.{read_behind, records_at}
use Rattle.cmm_image.proofs.second_reading.read_records.Given as goal

-- the records so far, and those that are left, are all
abbrev pub invariant-loop-number : goal.invariant-loop-number
invariant-loop-number l = record {
  read : read_behind l.totals l.read.records.items l.number l.reader.rest.now ≡ records_at l.totals l.bytes;
  kept : AreRecords l.read;
  count : length l.read.records.items ≡ l.number;
  distinct : Distinct (flat_map (λ r. r.sites) l.read.records.items);
  bytes : AreBytes l.reader.rest.now;
}
