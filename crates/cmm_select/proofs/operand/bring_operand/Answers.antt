use Rattle.std.proofs.Common.{arith}
use Rattle.cmm_effects.proofs.Shared.{adds_weaker, by_last, leads_weaker}
use Rattle.cmm_select.proofs.Symbols.{brings_set}
use Rattle.cmm_select.specs.Sources.{brought}
use Rattle.cmm_select.proofs.operand.bring_operand.Goals as goal

pub returns-in-Held-clause-brings : goal.returns-in-Held-clause-brings
returns-in-Held-clause-brings c =
    by_last c.bring.result c.bring.ensures.brings
    (λ h.
    let from = c.in-Held.source in
    rw c.in-Held.is
    (adds_weaker h (omega arith)
    (λ x b e leads. leads_weaker leads (omega arith) (λ s sound can. can) (λ s t sound can sets. brings_set c.args.rd (brought from s) s t sets))))
