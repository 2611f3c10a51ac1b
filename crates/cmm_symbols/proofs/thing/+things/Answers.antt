use Rattle.std.proofs.Common.{◌++◌, ◌∷◌, map, take, ap, ◌∙◌}
use Rattle.std.specs.Prelude.{flat_map}
use Rattle.std.proofs.lemmas.List.{map-append}
use Rattle.cmm_static_semantics.specs.Items.{item_within}
use Rattle.cmm_symbols.specs.Shown.{thing_item, whats}
use Rattle.cmm_static_semantics.proofs.Shared.{grown, on_ok}
use Rattle.cmm_symbols.proofs.Flattening.{span_law, whats_next, nested}
use Rattle.cmm_symbols.proofs.thing.+things.Goals as goal

pub add_items-loop-item-preserved : goal.add_items-loop-item-preserved
add_items-loop-item-preserved t c = λ spans.
    grown (map thing_item c.loop-item.to) (map thing_item c.args.to.now) (whats (flat_map (item_within spans) (take c.loop-item.item-index c.args.items.now))) (whats (item_within spans c.item-item.result))
    (c.in_ok-add_item.ensures spans) (c.loop-item.invariant spans) (whats_next (item_within spans) c.args.items.now c.loop-item.item-index c.item-item.result c.loop-item-test.true c.item-item.is)

pub add_item-returns-in-Span : goal.add_item-returns-in-Span
add_item-returns-in-Span t c = on_ok c.add_items.result
    (λ p. λ spans. nested c.args.item.now (whats (flat_map (item_within (record { key = c.in-Span.key; value = c.in-Span.value } ∷ spans)) c.in-Span.items)) (whats (item_within spans c.args.item.now))
    (map thing_item c.args.to.now) (map thing_item c.push.new.self) (map thing_item c.add_items.new.to)
    (span_law spans c.args.item.now c.in-Span.token c.in-Span.key c.in-Span.value c.in-Span.items c.in-Span.is)
    (ap (map thing_item) c.in_ok-push.ensures.ok ∙ map-append thing_item c.args.to.now _)
    (p (record { key = c.in-Span.key; value = c.in-Span.value } ∷ spans)
    ∙ ap (λ q. map thing_item c.push.new.self ++ whats (flat_map (item_within (record { key = c.in-Span.key; value = c.in-Span.value } ∷ spans)) q)) c.as_slice.ensures))
    c.add_items.ensures
