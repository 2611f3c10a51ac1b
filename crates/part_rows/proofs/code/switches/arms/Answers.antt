use Rattle.std.proofs.Common.{◌<◌, ◌+◌, ap, subst, sym, arith, ◌∙◌, List}
use Rattle.std.specs.List.{All}
use Rattle.cmm_graph.specs.declared.node.Arm.{Arm}
use Rattle.cmm_select.specs.Switches.{ranges_in}
use Rattle.part_rows.proofs.Arms.{arms_more, ranges_in-append}
use Rattle.part_rows.proofs.code.switches.arms.Goals as goal

pub loop-number-preserved : goal.loop-number-preserved
loop-number-preserved c =
    let i = c.loop-number.number in
    let xs = c.loop-number.arms.items in
    let last = c.in_ok-arm.field-0 in
    let same = c.in_ok-push.ensures.items in
    record {
      to = subst (λ (arms : List Arm). All (λ arm. arm.to.number < i + 1) arms) (sym same) (arms_more xs last i (i + 1) c.in_ok-arm.ensures.to (omega arith) c.loop-number.invariant.to);
      ranges = ap ranges_in same ∙ ranges_in-append xs last ∙ omega (arith, c.in_ok-arm.ensures.ranges, c.loop-number.invariant.ranges);
    }
