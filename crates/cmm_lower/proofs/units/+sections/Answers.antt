use Rattle.std.proofs.Common.{[], ◌++◌, sym, ap, ◌∙◌}
use Rattle.std.specs.Prelude.{flat_map}
use Rattle.cmm_static_semantics.specs.Items.{item_within}
use Rattle.cmm_static_semantics.proofs.Shared.{on_ok}
use Rattle.cmm_proc_scope.specs.Procs.{BeginWith, procs_of_items}
use Rattle.cmm_proc_scope.proofs.Shared.{begin_as, begin_turn, left_of_one, left_turn, next_of_one, procs_of_span}
use Rattle.cmm_lower.proofs.Sections.{part_next, proc_added, span_added}
use Rattle.cmm_lower.proofs.units.+sections.Goals as goal

pub add_items-loop-item-preserved : goal.add_items-loop-item-preserved
add_items-loop-item-preserved g t c =
    let begin : BeginWith c.args.left.now (flat_map (item_within []) c.args.items.now) → BeginWith c.loop-item.left (item_within [] c.item-item.result) = λ first.
    begin_turn (item_within []) c.args.left.now c.loop-item.left c.args.items.now c.loop-item.item-index c.item-item.result c.loop-item-test.true c.item-item.is first
    (c.loop-item.invariant.left first) in record {
      left = λ first. left_turn (item_within []) c.args.left.now c.loop-item.left c.add_item.new.left c.args.items.now c.loop-item.item-index c.item-item.result c.loop-item-test.true
          c.item-item.is (c.loop-item.invariant.left first) (c.in_ok-add_item.ensures.left (begin first));
      added = λ first spans force fit. part_next (g.N.Names.senses c.args.names.now) c.args.unit (item_within spans) c.args.items.now c.loop-item.item-index c.item-item.result
          c.args.to.now c.loop-item.to c.add_item.new.to c.loop-item-test.true c.item-item.is (c.loop-item.invariant.added first spans force)
          (c.in_ok-add_item.ensures.procs (begin first) spans force) fit;
    }

pub add_item-returns-in_ok-add_items-in-Span-clause-left : goal.add_item-returns-in_ok-add_items-in-Span-clause-left
add_item-returns-in_ok-add_items-in-Span-clause-left g t c first =
    let inside = procs_of_span c.args.item.now c.in-Span.token c.in-Span.key c.in-Span.value c.in-Span.items c.in-Span.is
    ∙ ap (λ is. procs_of_items (flat_map (item_within []) is)) (sym c.as_slice.ensures) in
    c.in_ok-add_items-in-Span.ensures.left (begin_as c.args.left.now (item_within [] c.args.item.now) (flat_map (item_within []) c.as_slice.result.now) inside first)
    ∙ ap (λ ps. ps ++ c.add_items.new.left) (sym inside)

pub add_item-returns-in_ok-add_items-in-Span-clause-procs : goal.add_item-returns-in_ok-add_items-in-Span-clause-procs
add_item-returns-in_ok-add_items-in-Span-clause-procs g t c first =
    let inside = procs_of_span c.args.item.now c.in-Span.token c.in-Span.key c.in-Span.value c.in-Span.items c.in-Span.is
    ∙ ap (λ is. procs_of_items (flat_map (item_within []) is)) (sym c.as_slice.ensures) in
    span_added (g.N.Names.senses c.args.names.now) c.args.unit c.args.around.now c.in_ok-inside-in-Span.inside c.as_slice-in-Span.result.now c.span_value.result
    c.args.item.now c.in-Span.token c.in-Span.key c.in-Span.value c.in-Span.items c.as_slice.result.now c.args.to.now c.add_items.new.to c.in-Span.is c.span_value.ensures
    c.in_ok-inside-in-Span.ensures c.as_slice.ensures c.as_slice-in-Span.ensures
    (c.in_ok-add_items-in-Span.ensures.procs (begin_as c.args.left.now (item_within [] c.args.item.now) (flat_map (item_within []) c.as_slice.result.now) inside first))

pub add_item-returns-in-Proc-clause-left : goal.add_item-returns-in-Proc-clause-left
add_item-returns-in-Proc-clause-left g t c = let is = item_within [] c.args.item.now in let one = ap (λ i. procs_of_items (item_within [] i)) c.in-Proc.is in
    on_ok c.add_next.result (λ taken. λ first. let next = next_of_one c.args.left.now is c.in-Proc.field-0 one first in
    left_of_one c.args.left.now c.add_next.new.left next.0 is c.in-Proc.field-0 one next.1 (taken c.in-Proc.field-0 next.0 next.1)) c.add_next.ensures.left

pub add_item-returns-in-Proc-clause-procs : goal.add_item-returns-in-Proc-clause-procs
add_item-returns-in-Proc-clause-procs g t c = let is = item_within [] c.args.item.now in let one = ap (λ i. procs_of_items (item_within [] i)) c.in-Proc.is in
    on_ok c.add_next.result (λ added. λ first. let next = next_of_one c.args.left.now is c.in-Proc.field-0 one first in
    proc_added (g.N.Names.senses c.args.names.now) c.args.unit c.args.around.now c.args.item.now c.in-Proc.field-0 c.args.to.now c.add_next.new.to c.in-Proc.is
    (added c.in-Proc.field-0 next.0 next.1)) c.add_next.ensures.procs
