use Rattle.std.proofs.Common.{◌++◌, sym, ap, ◌∙◌}
use Rattle.cmm_static_semantics.specs.Items.{top_items}
use Rattle.cmm_symbols.specs.Shown.{whats}
use Rattle.cmm_symbols.proofs.Flattening.{whats_next}
use Rattle.cmm_symbols.proofs.thing.things_of.Goals as goal

pub loop-part-preserved : goal.loop-part-preserved
loop-part-preserved c =
    c.in_ok-add_part.ensures ∙ ap (λ q. q ++ whats (top_items c.part-item.result)) c.loop-part.invariant
    ∙ sym (whats_next top_items c.as_slice-part-items.result.now c.loop-part.part-index c.part-item.result c.loop-part-test.true c.part-item.is)
