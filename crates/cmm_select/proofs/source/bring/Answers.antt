use Rattle.std.proofs.Common.{arith}
use Rattle.cmm_effects.proofs.Shared.{adds_weaker, by_last, leads_weaker}
use Rattle.cmm_select.proofs.source.bring.Goals as goal

pub returns-in-Place-clause-brings : goal.returns-in-Place-clause-brings
returns-in-Place-clause-brings c =
    by_last c.read.result c.read.ensures.reads
    (λ h.
    rw c.in-Place.is
    (adds_weaker h (omega arith)
    (λ x from to leads. leads_weaker leads (omega arith) (λ s sound can. can) (λ s t sound can sets. sets))))

pub returns-in-Number-clause-brings : goal.returns-in-Number-clause-brings
returns-in-Number-clause-brings c =
    by_last c.load_constant.result c.load_constant.ensures.sets
    (λ h.
    rw c.in-Number.is
    (adds_weaker h (omega arith)
    (λ x from to leads. leads_weaker leads (omega arith) (λ s sound can. can) (λ s t sound can sets. sets))))

pub returns-in-Address-clause-brings : goal.returns-in-Address-clause-brings
returns-in-Address-clause-brings c =
    by_last c.address.result c.address.ensures.brings
    (λ h.
    rw c.in-Address.is h)
