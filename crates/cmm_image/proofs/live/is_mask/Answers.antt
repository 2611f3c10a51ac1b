use Rattle.std.proofs.Common.{arith}
use Rattle.std.proofs.lemmas.Bool.Decides.{nat_tests}
use Rattle.cmm_image.specs.declared.rows.VariablePlace.TheVariants.{Dead}
use Rattle.cmm_image.proofs.LiveLaws.{mask_next}
use Rattle.cmm_image.proofs.live.is_mask.Goals as goal
use Rattle.cmm_image.proofs.live.is_mask.Goals.{else-left-eq1-via-then-left-eq1+else-not-is_live, else-left-eq1-via-else-left-eq1}

pub loop-place-preserved : goal.loop-place-preserved
loop-place-preserved c =
    elim c.else-left-eq1.branch [
      | else-left-eq1-via-then-left-eq1+else-not-is_live w ↦
          (let live = w.is_live.ensures in let test = w.if-not-is_live.false in
          mask_next _ c.args.places.now c.loop-place.place-index Dead c.loop-place.left c.loop-place-test.true (grind (arith, live, test)) c.loop-place.invariant)
      | else-left-eq1-via-else-left-eq1 w ↦
          (let odd = w.if-left-eq1.false in
          mask_next _ c.args.places.now c.loop-place.place-index Dead c.loop-place.left c.loop-place-test.true (grind (arith, nat_tests, odd)) c.loop-place.invariant)
    ]
