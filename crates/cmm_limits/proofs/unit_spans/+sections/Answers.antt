use Rattle.std.proofs.Common.{◌==◌, ◌∷◌, ◌++◌, [], sym, ap, ◌∙◌, subst}
use Rattle.std.specs.Prelude.{flat_map}
use Rattle.std.specs.List.{list_any}
use Rattle.cmm_static_semantics.specs.Items.{item_within}
use Rattle.cmm_static_semantics.specs.Limits.{tokens_of}
use Rattle.cmm_static_semantics.proofs.Shared.{on_ok}
use Rattle.cmm_proc_scope.specs.Procs.{BeginWith, procs_of_items}
use Rattle.cmm_proc_scope.proofs.Shared.{begin_as, begin_turn, left_of_one, left_turn, next_of_one, procs_of_span}
use Rattle.cmm_limits.specs.Capped.{capped}
use Rattle.cmm_limits.specs.inside.InForce.{HasTokens, one_more}
use Rattle.cmm_limits.specs.inside.OfUnits.{spans_in}
use Rattle.cmm_limits.proofs.Spans.{from_ok, span_entered}
use Rattle.cmm_limits.proofs.Sums.{proc_item, span_item, spans_next}
use Rattle.cmm_limits.proofs.unit_spans.+sections.Goals as goal

pub in_items-loop-item-preserved : goal.in_items-loop-item-preserved
in_items-loop-item-preserved g t c = let names = g.N.Names.senses c.args.names.now in
    let begin : BeginWith c.args.left.now (flat_map (item_within []) c.args.items.now) → BeginWith c.loop-item.left (item_within [] c.item-item.result) = λ first.
    begin_turn (item_within []) c.args.left.now c.loop-item.left c.args.items.now c.loop-item.item-index c.item-item.result c.loop-item-test.true c.item-item.is first
    (c.loop-item.invariant.left first) in record {
      left = λ first. left_turn (item_within []) c.args.left.now c.loop-item.left c.in_item.new.left c.args.items.now c.loop-item.item-index c.item-item.result c.loop-item-test.true
          c.item-item.is (c.loop-item.invariant.left first) (c.in_ok-more.ensures.left (begin first));
      tokens = c.in_ok-more.ensures.tokens ∙ c.loop-item.invariant.tokens;
      sum = λ first spans has. c.saturating_add-sum.ensures
          ∙ spans_next names (item_within spans) c.args.items.now c.loop-item.item-index c.item-item.result c.loop-item.sum c.in_ok-more.more
          c.loop-item-test.true c.item-item.is (c.loop-item.invariant.sum first spans has)
          (c.in_ok-more.ensures.sum (begin first) spans (subst (λ ts. HasTokens ts c.args.different (tokens_of names spans)) (sym c.loop-item.invariant.tokens) has));
    }

pub in_item-returns-in_ok-sum-in-Span-clause-left : goal.in_item-returns-in_ok-sum-in-Span-clause-left
in_item-returns-in_ok-sum-in-Span-clause-left g t c first =
    let same = procs_of_span c.args.item.now c.in-Span.token c.in-Span.key c.in-Span.value c.in-Span.items c.in-Span.is in
    let inside = same ∙ ap (λ is. procs_of_items (flat_map (item_within []) is)) (sym c.as_slice-in-Span.ensures) in
    c.in_ok-sum-in-Span.ensures.left (begin_as c.args.left.now (item_within [] c.args.item.now) (flat_map (item_within []) c.as_slice-in-Span.result.now) inside first)
    ∙ ap (λ ps. ps ++ c.in_items.new.left) (sym inside)

pub in_item-returns-in_ok-sum-in-Span-clause-sum : goal.in_item-returns-in_ok-sum-in-Span-clause-sum
in_item-returns-in_ok-sum-in-Span-clause-sum g t c first spans has = let names = g.N.Names.senses c.args.names.now in
    let token = c.number_or_zero-token.result in
    let around = record { key = c.in-Span.key; value = c.in-Span.value } ∷ spans in
    let same = procs_of_span c.args.item.now c.in-Span.token c.in-Span.key c.in-Span.value c.in-Span.items c.in-Span.is in
    let inside = same ∙ ap (λ is. procs_of_items (flat_map (item_within []) is)) (sym c.as_slice-in-Span.ensures) in
    let begin = begin_as c.args.left.now (item_within [] c.args.item.now) (flat_map (item_within []) c.as_slice-in-Span.result.now) inside first in
    let more = subst (λ ts. HasTokens ts c.with_one_more-inside.result (tokens_of names around)) (sym c.in_ok-push-in-Span.ensures.ok)
    (span_entered names c.args.tokens.now c.args.different token c.with_one_more-inside.result (tokens_of names spans) c.in-Span.key
    c.number_or_zero-token.ensures (c.with_one_more-inside.ensures ∙ ap (λ ts. one_more (list_any (λ t. t == token) ts) c.args.different) c.as_slice.ensures) has) in
    c.in_ok-sum-in-Span.ensures.sum begin around more
    ∙ ap (λ is. capped (spans_in names (flat_map (item_within around) is))) c.as_slice-in-Span.ensures
    ∙ ap capped (sym (span_item names spans c.args.item.now c.in-Span.token c.in-Span.key c.in-Span.value c.in-Span.items c.in-Span.is))

pub in_item-returns-in-Proc-clause-left : goal.in_item-returns-in-Proc-clause-left
in_item-returns-in-Proc-clause-left g t c = let is = item_within [] c.args.item.now in let one = ap (λ i. procs_of_items (item_within [] i)) c.in-Proc.is in
    on_ok c.in_next.result (λ taken. λ first. let next = next_of_one c.args.left.now is c.in-Proc.field-0 one first in
    left_of_one c.args.left.now c.in_next.new.left next.0 is c.in-Proc.field-0 one next.1 (taken c.in-Proc.field-0 next.0 next.1)) c.in_next.ensures.left

pub in_item-returns-in-Proc-clause-sum : goal.in_item-returns-in-Proc-clause-sum
in_item-returns-in-Proc-clause-sum g t c = let names = g.N.Names.senses c.args.names.now in
    let is = item_within [] c.args.item.now in let one = ap (λ i. procs_of_items (item_within [] i)) c.in-Proc.is in
    from_ok c.in_next.result (λ sum adds. λ first spans has. let next = next_of_one c.args.left.now is c.in-Proc.field-0 one first in
    adds c.in-Proc.field-0 next.0 next.1 (tokens_of names spans) has ∙ ap capped (sym (proc_item names spans c.args.item.now c.in-Proc.field-0 c.in-Proc.is))) c.in_next.ensures.sum
