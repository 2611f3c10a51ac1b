use Rattle.std.proofs.Common.{◌+◌, map}
use Rattle.cmm_static_semantics.specs.Declarations.{procs_in, labels_in, sum_of}
use Rattle.cmm_symbols.specs.Shown.{alone}
use Rattle.cmm_symbols.proofs.Numbered.{counted_next}
use Rattle.cmm_symbols.proofs.numbers.Numbers.after.Goals as goal

pub loop-thing-preserved : goal.loop-thing-preserved
loop-thing-preserved c =
    let ts = c.args.things.now in
    let k = c.loop-thing.thing-index in
    let t = c.thing-item.result in record {
      procedures = counted_next procs_in c.loop-thing.numbers.procedures c.in_ok-numbers.numbers.procedures (c.args.self.procedures + sum_of procs_in (map alone ts)) ts k t
          c.loop-thing-test.true c.thing-item.is c.in_ok-numbers.ensures.procedures c.loop-thing.invariant.procedures;
      labels = counted_next labels_in c.loop-thing.numbers.labels c.in_ok-numbers.numbers.labels (c.args.self.labels + sum_of labels_in (map alone ts)) ts k t
          c.loop-thing-test.true c.thing-item.is c.in_ok-numbers.ensures.labels c.loop-thing.invariant.labels;
    }
