use Rattle.std.proofs.Common.{◌≡◌, ◌≤◌, ◌-◌, length, take}
use Rattle.cmm_outside.specs.Storage.{Writes}
use Rattle.cmm_outside.proofs.storage.write_file.Given as goal

abbrev pub invariant-loop-written : goal.invariant-loop-written
invariant-loop-written g l = record {
  within : l.written ≤ length l.bytes;
  so_far : Writes (g.F.Files.contents l.fn.files) (g.F.Files.contents l.files) l.name (λ _. take l.written l.bytes);
  same_reads : g.F.Files.reads l.files ≡ g.F.Files.reads l.fn.files;
  same_faults : g.F.Files.faults l.files ≡ g.F.Files.faults l.fn.files;
  same_failed : g.F.Files.last_failed l.files ≡ g.F.Files.last_failed l.fn.files;
}

abbrev pub decreases-loop-written : goal.decreases-loop-written
decreases-loop-written g l = length l.bytes - l.written
