use Rattle.std.proofs.Common.{◌-◌, ap, ◌∙◌}
use Rattle.cmm_elaboration.specs.Bodies.{part_length}
use Rattle.cmm_lower.proofs.Lengths.{left_next}
use Rattle.cmm_lower.proofs.tokens.without_parts.Goals as goal

pub loop-part-preserved : goal.loop-part-preserved
loop-part-preserved c = left_next part_length c.args.parts.now c.loop-part.part-index c.part-item.result c.args.tokens c.loop-part.left c.saturating_sub-left.result
    c.loop-part-test.true c.part-item.is c.loop-part.invariant (c.saturating_sub-left.ensures ∙ ap (λ n. c.loop-part.left - n) c.part_length.ensures)
