use Rattle.std.proofs.Common.{arith, pos}
use Rattle.rv_table.specs.declared.instruction.Instr.TheVariants.{Addi}
use Rattle.cmm_effects.proofs.Shared.{adds_one, adds_weaker, by_last}
use Rattle.cmm_select.proofs.Turning.{goes_on}
use Rattle.cmm_select.proofs.going.go_on.Goals as goal

pub returns-clause-keeps : goal.returns-clause-keeps
returns-clause-keeps c =
    by_last c.emit.result c.emit.ensures.parts
    (λ h.
    rw (h, c.add_to.ensures.is)
    (adds_weaker (adds_one c.args.asm.now.parts (Addi 5 0 (pos 0))) (omega arith) (λ x from to does. goes_on x from to does)))
