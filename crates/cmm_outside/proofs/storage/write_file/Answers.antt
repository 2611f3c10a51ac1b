use Rattle.std.proofs.Common.{◌≤◌, ◌<◌, ◌∙◌, length, drop, arith}
use Rattle.std.proofs.lemmas.List.{take_rest, length-drop}
use Rattle.cmm_outside.proofs.Rewriting.{Writes-take}
use Rattle.cmm_outside.proofs.storage.write_file.Goals as goal

pub loop-written-preserved : goal.loop-written-preserved
loop-written-preserved g c =
    let rest = take_rest c.args.bytes.now c.loop-written.written in
    let bound : c.in_ok-written.field-0 ≤ length (drop c.loop-written.written c.args.bytes.now) =
    rw rest at c.in_ok-written.ensures.bound in
    let left : 0 < length (drop c.loop-written.written c.args.bytes.now) =
    omega (arith, c.loop-written-test.true, length-drop c.loop-written.written c.args.bytes.now) in
    let some : 0 < c.in_ok-written.field-0 = (rw rest at c.in_ok-written.ensures.progress) left in
    record {
      within = omega (arith, length-drop c.loop-written.written c.args.bytes.now);
      so_far = Writes-take _ _ _ _ _ _ _ c.loop-written.invariant.so_far (rw rest at (c.in_ok-written.ensures.appended some));
      same_reads = c.in_ok-written.ensures.same_reads ∙ c.loop-written.invariant.same_reads;
      same_faults = c.in_ok-written.ensures.no_fault ∙ c.loop-written.invariant.same_faults;
      same_failed = c.in_ok-written.ensures.no_failed_call ∙ c.loop-written.invariant.same_failed;
    }
