use Rattle.std.proofs.Common.{arith, pos, subst}
use Rattle.cmm_chain.proofs.Shared.{callee_saves_is_written, temporary_is_written}
use Rattle.cmm_effects.specs.Changes.{IsPlace}
use Rattle.rv_table.specs.declared.instruction.Instr.TheVariants.{Addi}
use Rattle.cmm_effects.proofs.Shared.{adds_one, adds_weaker, by_last, leads_weaker}
use Rattle.cmm_select.proofs.Places.{puts_register}
use Rattle.cmm_select.proofs.place.write.Goals as goal

pub returns-in-Slot-clause-writes : goal.returns-in-Slot-clause-writes
returns-in-Slot-clause-writes c =
    by_last c.save.result c.save.ensures.saves
    (λ h.
    rw c.in-Slot.is h)

pub returns-in-Saved-clause-writes : goal.returns-in-Saved-clause-writes
returns-in-Saved-clause-writes c =
    by_last c.emit.result c.emit.ensures.parts
    (λ h.
    let r = c.in-Saved.kept in
    let is = subst IsPlace c.in-Saved.is c.requires.place in
    rw (c.in-Saved.is, h, c.copy.ensures.is)
    (adds_weaker (adds_one c.args.asm.now.parts (Addi r c.args.register (pos 0))) (omega arith)
    (λ x from to does. leads_weaker (puts_register x r c.args.register from to (callee_saves_is_written r is).0 does) (omega arith) (λ s sound p. tt) (λ s t sound p puts. puts))))

pub returns-in-Temp-clause-writes : goal.returns-in-Temp-clause-writes
returns-in-Temp-clause-writes c =
    by_last c.emit-in-Temp.result c.emit-in-Temp.ensures.parts
    (λ h.
    let r = c.in-Temp.other in
    let is = subst IsPlace c.in-Temp.is c.requires.place in
    rw (c.in-Temp.is, h, c.copy-in-Temp.ensures.is)
    (adds_weaker (adds_one c.args.asm.now.parts (Addi r c.args.register (pos 0))) (omega arith)
    (λ x from to does. leads_weaker (puts_register x r c.args.register from to (temporary_is_written r is).0 does) (omega arith) (λ s sound p. tt) (λ s t sound p puts. puts))))
