use Rattle.std.proofs.Common.{arith, pos}
use Rattle.rv_table.specs.declared.instruction.Instr.TheVariants.{Addi}
use Rattle.cmm_effects.proofs.Shared.{adds_one, adds_weaker, by_last, leads_weaker}
use Rattle.cmm_select.proofs.Places.{copies}
use Rattle.cmm_select.proofs.place.read.Goals as goal

pub returns-in-Slot-clause-reads : goal.returns-in-Slot-clause-reads
returns-in-Slot-clause-reads c =
    by_last c.restore.result c.restore.ensures.restores
    (λ h.
    rw c.in-Slot.is h)

pub returns-in-Saved-clause-reads : goal.returns-in-Saved-clause-reads
returns-in-Saved-clause-reads c =
    by_last c.emit.result c.emit.ensures.parts
    (λ h.
    let rd = c.args.rd in
    let r = c.in-Saved.register in
    rw (c.in-Saved.is, h, c.copy.ensures.is)
    (adds_weaker (adds_one c.args.asm.now.parts (Addi rd r (pos 0))) (omega arith)
    (λ x from to does. leads_weaker (copies x rd r from to (omega (arith, c.requires.low)) does) (omega arith) (λ s sound p. tt) (λ s t sound p sets. sets))))

pub returns-in-Temp-clause-reads : goal.returns-in-Temp-clause-reads
returns-in-Temp-clause-reads c =
    by_last c.emit-in-Temp.result c.emit-in-Temp.ensures.parts
    (λ h.
    let rd = c.args.rd in
    let r = c.in-Temp.register in
    rw (c.in-Temp.is, h, c.copy-in-Temp.ensures.is)
    (adds_weaker (adds_one c.args.asm.now.parts (Addi rd r (pos 0))) (omega arith)
    (λ x from to does. leads_weaker (copies x rd r from to (omega (arith, c.requires.low)) does) (omega arith) (λ s sound p. tt) (λ s t sound p sets. sets))))
