use Rattle.cmm_proc_scope.proofs.NumberLaws.{numbered_next}
use Rattle.cmm_proc_scope.proofs.numbering.numbered.Goals as goal

pub loop-named-preserved : goal.loop-named-preserved
loop-named-preserved c =
    let i = c.loop-named.invariant in
    numbered_next c.loop-named.own c.push.new.self c.args.declared.now c.loop-named.named-index c.named-item.result c.loop-named.counts c.in_ok-next.next c.next_number-number.result
    c.loop-named-test.true c.named-item.is c.in_ok-push.ensures.ok c.next_number-number.ensures c.in_ok-next.ensures i.0 i.1 i.2
