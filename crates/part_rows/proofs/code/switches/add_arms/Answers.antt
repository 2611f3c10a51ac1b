use Rattle.std.proofs.Common.{length, length-append, List, ap, subst, sym, arith, ◌∙◌}
use Rattle.std.specs.List.{All}
use Rattle.rv_asm.specs.Assembly.{IsInner}
use Rattle.rv_asm.specs.declared.part.Label.{Label}
use Rattle.part_rows.proofs.Arms.{inner_more, placed_more}
use Rattle.part_rows.proofs.code.switches.add_arms.Goals as goal

pub loop-number-preserved : goal.loop-number-preserved
loop-number-preserved c =
    let i = c.loop-number.number in
    let old = c.loop-number.asm.labels in
    let new = c.add_arm.new.asm.labels in
    let ls = c.loop-number.labels.items in
    let l = c.in_ok-add_arm.field-0 in
    let same = c.in_ok-push.ensures.items in
    let grown = c.in_ok-add_arm.ensures.labels in
    record {
      inner = subst (λ (xs : List Label). All (IsInner new) xs) (sym same) (inner_more old new ls l grown c.loop-number.invariant.inner c.in_ok-add_arm.ensures.inner);
      count = ap length same ∙ simp length-append (omega (arith, c.loop-number.invariant.count));
      labels = placed_more c.args.asm.now.labels old new i c.loop-number.invariant.labels grown;
      made = ap length grown ∙ simp length-append (omega (arith, c.loop-number.invariant.made));
      few = omega (arith, c.loop-number.invariant.few, c.in_ok-add_arm.ensures.few);
    }
