use Rattle.std.proofs.Common.{◌∙◌, pos, sym}
use Rattle.rv_table.specs.declared.instruction.Instr.TheVariants.{Addi}
use Rattle.cmm_effects.proofs.Shared.{adds_one}
use Rattle.cmm_calls.proofs.Idle.{copied_idly, copied_plainly}
use Rattle.cmm_calls.proofs.copying.copy_in.Goals as goal

pub returns-then-begins_idle-clause-copies : goal.returns-then-begins_idle-clause-copies
returns-then-begins_idle-clause-copies c =
    copied_idly c.args.asm.now.parts c.emit.new.self.parts c.copy_all.new.asm.parts c.args.frame.now c.args.to.now (sym c.begins_idle.ensures ∙ c.if-begins_idle.true)
    (rw (c.in_ok-emit.ensures.parts, c.copy.ensures.is) (adds_one c.args.asm.now.parts (Addi 5 5 (pos 0)))) c.in_ok-copy_all.ensures.copies

pub returns-clause-copies : goal.returns-clause-copies
returns-clause-copies c =
    copied_plainly c.args.asm.now.parts c.copy_all-2.new.asm.parts c.args.frame.now c.args.to.now c.requires.destinations (sym c.begins_idle.ensures ∙ c.if-begins_idle.false)
    c.in_ok-copy_all-2.ensures.copies
