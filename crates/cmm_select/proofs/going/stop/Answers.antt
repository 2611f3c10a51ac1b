use Rattle.std.proofs.Common.{arith}
use Rattle.rv_table.specs.declared.instruction.Instr.TheVariants.{Ebreak}
use Rattle.cmm_effects.proofs.Shared.{adds_one, adds_weaker, breaks, by_last}
use Rattle.cmm_select.proofs.going.stop.Goals as goal

pub returns-clause-traps : goal.returns-clause-traps
returns-clause-traps c =
    by_last c.emit.result c.emit.ensures.parts
    (λ h.
    rw h
    (adds_weaker (adds_one c.args.asm.now.parts Ebreak) (omega arith) (λ x from to does. breaks x from to does)))
