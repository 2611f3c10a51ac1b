use Rattle.cmm_symbols.proofs.Positions.{number_next, again_next}
use Rattle.cmm_symbols.proofs.table.Table.of.Goals as goal

pub loop-number-preserved : goal.loop-number-preserved
loop-number-preserved g c =
    let i = c.loop-number.invariant in
    let k = c.loop-number.number in
    let items = c.as_slice-named-items.result.now in
    let m = c.named-item.result in
    let same = c.as_bytes.ensures in (
      λ x. rw (c.in_ok-new.ensures.names x, same, i.0 x) (number_next x items k m c.loop-number-test.true c.named-item.is),
      rw (c.unless.ensures, c.in_ok-new.ensures.new, same, i.0 m.name.now.name, i.1)
          (again_next c.args.best.now items k m c.loop-number-test.true c.named-item.is),
    )
