use Rattle.std.proofs.Common.{[], sym, ap, ◌∙◌}
use Rattle.std.specs.Prelude.{flat_map}
use Rattle.cmm_static_semantics.specs.Items.{top_items}
use Rattle.cmm_proc_scope.specs.Procs.{procs_of_items}
use Rattle.cmm_proc_scope.proofs.Shared.{begin_all, begin_turn, left_turn}
use Rattle.cmm_limits.proofs.Sums.{spans_next}
use Rattle.cmm_limits.proofs.unit_spans.site_spans.Goals as goal

pub loop-part-preserved : goal.loop-part-preserved
loop-part-preserved g c =
    let parts = c.as_slice-part-items.result.now in
    let begin = begin_turn top_items c.all_of-left.result c.loop-part.left parts c.loop-part.part-index c.part-item.result c.loop-part-test.true c.part-item.is
    (begin_all c.all_of-left.result (flat_map top_items parts)
    (c.all_of-left.ensures ∙ ap (λ ps. procs_of_items (flat_map top_items ps)) (sym (c.as_slice-part-items.ensures ∙ ap (λ u. u.parts) c.tree.ensures))))
    c.loop-part.invariant.left in record {
      left = left_turn top_items c.all_of-left.result c.loop-part.left c.in_top_level.new.left parts c.loop-part.part-index c.part-item.result c.loop-part-test.true
          c.part-item.is c.loop-part.invariant.left (c.in_ok-more.ensures.left begin);
      sum = c.saturating_add-sum.ensures
          ∙ spans_next (g.N.Names.senses c.args.names.now) top_items parts c.loop-part.part-index c.part-item.result c.loop-part.sum c.in_ok-more.more
          c.loop-part-test.true c.part-item.is c.loop-part.invariant.sum (c.in_ok-more.ensures.sum begin);
    }
