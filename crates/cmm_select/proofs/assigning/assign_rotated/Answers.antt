use Rattle.std.proofs.Common.{◌+◌, refl, arith}
use Rattle.cmm_effects.proofs.Shared.{adds_then, adds_weaker, by_last, leads_weaker}
use Rattle.cmm_select.proofs.Putting.{assigns_small}
use Rattle.cmm_select.proofs.SmallRotations.{home_beside}
use Rattle.cmm_select.specs.Operators.{shifts_of}
use Rattle.cmm_select.specs.declared.operand.Operand.TheVariants.{Held}
use Rattle.cmm_select.specs.declared.source.Source.TheVariants.{Number}
use Rattle.cmm_select.proofs.assigning.assign_rotated.Goals as goal

pub returns-clause-assigns : goal.returns-clause-assigns
returns-clause-assigns c =
    by_last c.finish.result c.finish.ensures.finishes
    (λ h.
    let w = c.args.width in
    let n = c.args.number in
    adds_weaker (adds_then c.in_ok-source.ensures.locates (adds_then c.in_ok-rotate_with.ensures.rotates h)) (omega arith)
    (λ x from end does. leads_weaker
    (assigns_small x c.args.to.now from end w c.args.left.now (Held (Number n)) (3 + shifts_of w) c.args.operator c.target.result c.in_ok-source.source n c.target.ensures.is refl does)
    (omega arith) (λ s sound can. can) (λ s t sound can assigned. assigned)))

pub rotate_with-requires-clause-beside : goal.rotate_with-requires-clause-beside
rotate_with-requires-clause-beside c = home_beside c.in_ok-source.source c.in_ok-source.ensures.home
