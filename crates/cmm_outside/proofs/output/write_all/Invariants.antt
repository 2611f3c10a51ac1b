use Rattle.std.proofs.Common.{◌≤◌, ◌-◌, length, take}
use Rattle.cmm_outside.proofs.Pieces.{HasWritten}
use Rattle.cmm_outside.proofs.output.write_all.Given as goal

abbrev pub invariant-loop-written : goal.invariant-loop-written
invariant-loop-written g l = record {
  within : l.written ≤ length l.bytes;
  so_far : HasWritten g.S.Sink.taken g.S.Sink.faults l.initial.sink l.sink (take l.written l.bytes);
}

abbrev pub decreases-loop-written : goal.decreases-loop-written
decreases-loop-written g l = length l.bytes - l.written
