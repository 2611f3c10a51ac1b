use Rattle.std.proofs.Common.{◌≡◌, arith}
use Rattle.cmm_effects.proofs.Shared.{adds_none, adds_weaker, by_last, runs_of, runs_weaker}
use Rattle.cmm_select.proofs.Widths.{cuts_none, two_shifts}
use Rattle.cmm_select.specs.Operators.{shifts_of}
use Rattle.cmm_select.proofs.operator.narrow.Goals as goal

pub returns-in-W64-clause-narrows : goal.returns-in-W64-clause-narrows
returns-in-W64-clause-narrows c =
    rw c.in-W64.is (adds_weaker (adds_none c.args.asm.now.parts) (omega arith) (λ x from to is. cuts_none x c.args.rd from to is))

pub returns-in_default-clause-narrows : goal.returns-in_default-clause-narrows
returns-in_default-clause-narrows c =
    by_last c.cut.result c.cut.ensures.cuts
    (λ h.
    let two : shifts_of c.args.width ≡ 2 = two_shifts c.args.width c.in_default.not-W64 in
    adds_weaker h (omega (arith, two))
    (λ x from to leads. runs_weaker {k = 0} (runs_of leads) (omega arith) (omega (arith, two)) (λ s sound p. tt) (λ s t sound p sets. sets)))
