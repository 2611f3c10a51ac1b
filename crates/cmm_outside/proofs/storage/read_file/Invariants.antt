use Rattle.std.proofs.Common.{◌≡◌, ◌≤◌, ◌-◌, vec_len}
use Rattle.cmm_outside.proofs.Going.{Going}
use Rattle.cmm_outside.proofs.Reading.{IsFront}
use Rattle.cmm_outside.specs.Reads.{Made}
use Rattle.cmm_outside.proofs.storage.read_file.Given as goal

abbrev pub invariant-loop-bytes : goal.invariant-loop-bytes
invariant-loop-bytes g l = record {
  within : vec_len l.bytes ≤ l.limit;
  front : IsFront (g.F.Files.contents l.initial.files) l.name l.bytes.items;
  same : g.F.Files.contents l.files ≡ g.F.Files.contents l.initial.files;
  same_faults : g.F.Files.faults l.files ≡ g.F.Files.faults l.initial.files;
  reads : Made (g.F.Files.reads l.initial.files) (g.F.Files.reads l.files) (Going l.name l.limit 0 (vec_len l.bytes));
  same_failed : g.F.Files.last_failed l.files ≡ g.F.Files.last_failed l.initial.files;
}

abbrev pub decreases-loop-bytes : goal.decreases-loop-bytes
decreases-loop-bytes g l = l.limit - vec_len l.bytes
