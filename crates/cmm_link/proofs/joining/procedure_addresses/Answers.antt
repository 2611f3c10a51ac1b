use Rattle.std.proofs.Common.{◌+◌, ◌++◌, ◌∙◌, ap, map}
use Rattle.cmm_link.proofs.Joined.{procedures_more, size_more}
use Rattle.cmm_link.proofs.joining.procedure_addresses.Goals as goal

pub loop-unit-preserved : goal.loop-unit-preserved
loop-unit-preserved c =
    let units = c.args.units.now in
    let i = c.loop-unit.unit-index in
    let at = c.loop-unit.at in
    let found = c.loop-unit.found in
    let unit = c.unit-item.result in
    let so_far = c.loop-unit.invariant.at in
    record {
      found = procedures_more units i at unit found c.add_addresses.new.found c.loop-unit-test.true c.unit-item.is so_far c.loop-unit.invariant.found
          (c.in_ok-add_addresses.ensures ∙ ap (λ offsets. found ++ map (λ offset. at + offset) offsets) c.as_slice.ensures);
      at = ap (λ n. at + n) c.len.ensures ∙ size_more units i at unit c.loop-unit-test.true c.unit-item.is so_far;
    }
