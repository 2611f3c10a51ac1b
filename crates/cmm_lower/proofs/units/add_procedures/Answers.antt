use Rattle.std.proofs.Common.{sym, ap, ◌∙◌}
use Rattle.std.specs.Prelude.{flat_map}
use Rattle.cmm_static_semantics.specs.Items.{top_items}
use Rattle.cmm_proc_scope.specs.Procs.{procs_of_items}
use Rattle.cmm_proc_scope.proofs.Shared.{begin_all, begin_turn, left_turn}
use Rattle.cmm_lower.proofs.Sections.{part_next}
use Rattle.cmm_lower.proofs.units.add_procedures.Goals as goal

pub loop-part-preserved : goal.loop-part-preserved
loop-part-preserved g c =
    let parts = c.as_slice-part-items.result.now in
    let begin = begin_turn top_items c.all_of-left.result c.loop-part.left parts c.loop-part.part-index c.part-item.result c.loop-part-test.true c.part-item.is
    (begin_all c.all_of-left.result (flat_map top_items parts)
    (c.all_of-left.ensures ∙ ap (λ ps. procs_of_items (flat_map top_items ps)) (sym (c.as_slice-part-items.ensures ∙ ap (λ u. u.parts) c.tree.ensures))))
    c.loop-part.invariant.left in record {
      left = left_turn top_items c.all_of-left.result c.loop-part.left c.add_part.new.left parts c.loop-part.part-index c.part-item.result c.loop-part-test.true
          c.part-item.is c.loop-part.invariant.left (c.in_ok-add_part.ensures.left begin);
      added = part_next (g.N.Names.senses c.args.names.now) c.args.unit top_items parts c.loop-part.part-index c.part-item.result c.args.to.now
          c.loop-part.to c.add_part.new.to c.loop-part-test.true c.part-item.is c.loop-part.invariant.added (c.in_ok-add_part.ensures.procs begin);
    }
