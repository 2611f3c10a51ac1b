use Rattle.std.proofs.Common.{◌≤◌, ◌∙◌, length, drop, arith}
use Rattle.std.proofs.lemmas.List.{take_rest, length-drop}
use Rattle.cmm_outside.proofs.Appending.{Appends-take}
use Rattle.cmm_outside.proofs.output.write_all.Goals as goal

pub loop-written-preserved : goal.loop-written-preserved
loop-written-preserved g c =
    let rest = take_rest c.args.bytes.now c.loop-written.written in
    let bound : c.in_ok-written.field-0 ≤ length (drop c.loop-written.written c.args.bytes.now) =
    rw rest at c.in_ok-written.ensures.bound in
    let so_far = c.loop-written.invariant.so_far in
    record {
      within = omega (arith, length-drop c.loop-written.written c.args.bytes.now);
      so_far = record {
        appended = Appends-take _ _ _ _ _ _ so_far.appended (rw rest at c.in_ok-written.ensures.taken);
        same_faults = c.in_ok-written.ensures.no_fault ∙ so_far.same_faults;
      };
    }
