use Rattle.std.proofs.Common.{List, ℕ, sym, ◌∙◌, subst}
use Rattle.cmm_live.specs.inside.Interfering.{JoinedTo}
use Rattle.cmm_live.proofs.Pairing.{next_more, next_skip}
use Rattle.cmm_live.proofs.conflict_graph.pairs.Goals.{then-has+in_ok-others+in_ok-join_to, else-has}
use Rattle.cmm_live.proofs.conflict_graph.pairs.Goals as goal

pub loop-number-preserved : goal.loop-number-preserved
loop-number-preserved c =
    let class = c.args.class.now in
    let n = c.loop-number.number in
    let row = c.index-rows-number.result in
    elim c.if-has.branch [
      | then-has+in_ok-others+in_ok-join_to w ↦ rw w.conflicts-is
          (next_more class c.args.rows.now n row c.loop-number-test.true c.index-rows-number.is c.loop-number.conflicts c.loop-number.invariant w.in_ok-others.others.items w.join_to.new.conflicts
          (sym c.has.ensures ∙ w.if-has.true) w.in_ok-others.ensures.exact
          (subst (λ (l : List ℕ). JoinedTo n l c.loop-number.conflicts w.join_to.new.conflicts) w.deref.ensures.value w.in_ok-join_to.ensures))
      | else-has w ↦ rw w.conflicts-is
          (next_skip class c.args.rows.now n row c.loop-number-test.true c.index-rows-number.is c.loop-number.conflicts c.loop-number.invariant (sym c.has.ensures ∙ w.if-has.false))
    ]
