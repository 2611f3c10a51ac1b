use Rattle.std.proofs.Common.{◌-◌, ap, ◌∙◌}
use Rattle.cmm_lower.specs.inside.Lengths.{arm_length, parts_length}
use Rattle.cmm_lower.proofs.Lengths.{left_next}
use Rattle.cmm_lower.proofs.tokens.without_arms.Goals as goal

pub loop-arm-preserved : goal.loop-arm-preserved
loop-arm-preserved c = left_next arm_length c.args.arms.now c.loop-arm.arm-index c.arm-item.result c.args.tokens c.loop-arm.left c.without_parts-left.result
    c.loop-arm-test.true c.arm-item.is c.loop-arm.invariant (c.without_parts-left.ensures ∙ ap (λ ps. c.loop-arm.left - parts_length ps) c.as_slice.ensures)
