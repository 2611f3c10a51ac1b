use Rattle.std.proofs.Common.{refl, arith}
use Rattle.cmm_effects.proofs.Shared.{adds_then, adds_weaker, by_last}
use Rattle.rv_asm.proofs.Shared.{words_more}
use Rattle.cmm_emit.proofs.calling.lead_back.Goals as goal

pub returns-in-Some-clause-leads : goal.returns-in-Some-clause-leads
returns-in-Some-clause-leads c = adds_weaker c.in_ok-lay_landings.ensures.exits (omega arith) (λ x from to does. (to, does, λ n is. refl))

pub returns-in-None-clause-leads : goal.returns-in-None-clause-leads
returns-in-None-clause-leads c =
    by_last c.stop.result c.stop.ensures.traps
    (λ h.
    adds_weaker (adds_then c.in_ok-lay_landings.ensures.exits h) (omega arith)
    (λ x from to does. (does.0, does.1, λ n is. absurd (let none = c.in-None.is in cc))))

pub returns-in-None-clause-words : goal.returns-in-None-clause-words
returns-in-None-clause-words c =
    by_last c.stop.result c.stop.ensures.traps
    (λ h.
    words_more c.in_ok-lay_landings.ensures.words h.appends)
