use Rattle.std.proofs.Common.{arith}
use Rattle.cmm_effects.proofs.Shared.{adds_weaker, by_last, leads_weaker}
use Rattle.cmm_select.proofs.destination.put.Goals as goal

pub returns-in-Place-clause-puts : goal.returns-in-Place-clause-puts
returns-in-Place-clause-puts c =
    by_last c.write.result c.write.ensures.writes
    (λ h.
    rw c.in-Place.is
    (adds_weaker h (omega arith)
    (λ x from to leads. leads_weaker leads (omega arith) (λ s sound can. can) (λ s t sound can puts. puts))))

pub returns-in-Register-clause-puts : goal.returns-in-Register-clause-puts
returns-in-Register-clause-puts c =
    by_last c.put_global.result c.put_global.ensures.puts
    (λ h.
    rw c.in-Register.is h)
