use Rattle.std.proofs.Common.{arith}
use Rattle.cmm_effects.proofs.Shared.{adds_one, adds_weaker, by_last}
use Rattle.cmm_select.proofs.Telling.{tells_less}
use Rattle.cmm_select.specs.inside.Comparing.{less_of}
use Rattle.cmm_select.proofs.comparing.compare_directly.Goals as goal

pub returns-in-Eq-clause-tells : goal.returns-in-Eq-clause-tells
returns-in-Eq-clause-tells c =
    by_last c.equal.result c.equal.ensures.tells
    (λ h.
    rw c.in-Eq.is h)

pub returns-in_default-clause-tells : goal.returns-in_default-clause-tells
returns-in_default-clause-tells c =
    by_last c.emit.result c.emit.ensures.parts
    (λ h.
    rw (h, c.less.ensures.is)
    (adds_weaker (adds_one c.args.asm.now.parts (less_of c.args.comparison c.args.rd c.args.first c.args.second)) (omega arith)
    (λ x from to does. tells_less x from to c.args.rd c.args.first c.args.second (λ e. omega (arith, e, c.requires.register.0)) c.args.comparison c.requires.direct c.in_default.not-Eq does)))
