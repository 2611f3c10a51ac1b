use Rattle.std.proofs.Common.{◌≡◌, arith}
use Rattle.cmm_effects.proofs.Shared.{adds_none, adds_weaker, by_last, runs_of, runs_weaker}
use Rattle.cmm_select.proofs.Widths.{extends_none, two_shifts}
use Rattle.cmm_select.specs.Operators.{shifts_of}
use Rattle.cmm_select.proofs.operator.extend.Goals as goal

pub returns-in-W64-clause-extends : goal.returns-in-W64-clause-extends
returns-in-W64-clause-extends c =
    rw c.in-W64.is (adds_weaker (adds_none c.args.asm.now.parts) (omega arith) (λ x from to is. extends_none x c.args.rd from to is))

pub returns-in_default-clause-extends : goal.returns-in_default-clause-extends
returns-in_default-clause-extends c =
    by_last c.sign.result c.sign.ensures.extends
    (λ h.
    let two : shifts_of c.args.width ≡ 2 = two_shifts c.args.width c.in_default.not-W64 in
    adds_weaker h (omega (arith, two))
    (λ x from to leads. runs_weaker {k = 0} (runs_of leads) (omega arith) (omega (arith, two)) (λ s sound word. word) (λ s t sound word sets. sets)))
