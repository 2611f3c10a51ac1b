use Rattle.std.proofs.Common.{◌≡◌, ◌++◌, None, subst, sym, ◌∙◌}
use Rattle.std.specs.Vec.Iter.{into_iter_items}
use Rattle.cmm_link.specs.inside.Kept.{kept_after, last_name}
use Rattle.cmm_link.proofs.KeptLabels.{row_kept}
use Rattle.cmm_link.proofs.labels.each_once.Goals as goal

pub loop-row-preserved-in-Continue-1 : goal.loop-row-preserved-in-Continue-1
loop-row-preserved-in-Continue-1 c =
    let kept = c.loop-row.kept in
    let rest = into_iter_items c.next.new.self in
    let all = kept_after None c.args.rows.items in
    let so_far = subst (λ left. kept ++ kept_after (last_name kept) left ≡ all) c.in-Some.ensures.steps.0 c.loop-row.invariant in
    subst (λ kept. kept ++ kept_after (last_name kept) rest ≡ all) (sym c.in_ok-push.ensures.ok)
    (row_kept kept rest all c.in-Some.row (sym c.follows.ensures ∙ c.if-follows.true) so_far)
