use Rattle.std.proofs.Common.{false, ◌∙◌}
use Rattle.std.proofs.lemmas.List.{get_or_default}
use Rattle.cmm_live.proofs.Marking.{marked_at, marked_skip}
use Rattle.cmm_live.proofs.locals.remove_all.Goals.{in-Some, in_default}
use Rattle.cmm_live.proofs.locals.remove_all.Goals as goal

pub loop-local-preserved : goal.loop-local-preserved
loop-local-preserved c = elim c.match-number_of.branch [
  | in-Some w ↦ marked_at c.args.g.now c.args.set.now false c.loop-local.set c.match-number_of.set c.args.locals.now c.loop-local.local-index
      w.in-Some.number _ c.loop-local-test.true (get_or_default _ _ _ _ c.loop-local-test.true) c.requires.size c.loop-local.invariant w.in-Some.ensures (w.set-is ∙ w.remove.ensures)
  | in_default w ↦ rw w.set-is (marked_skip c.args.g.now c.args.set.now false c.loop-local.set c.args.locals.now c.loop-local.local-index
      _ c.loop-local-test.true (get_or_default _ _ _ _ c.loop-local-test.true) c.loop-local.invariant w.in_default.ensures)
]
