use Rattle.std.proofs.Common.{arith, pos, negsuc, ◌-ℤ◌}
use Rattle.rv_table.specs.declared.instruction.Instr.TheVariants.{Addi, And, Sltiu}
use Rattle.cmm_effects.proofs.Shared.{adds_one, adds_then, adds_weaker, by_last}
use Rattle.cmm_effects.specs.Pieces.{Adds}
use Rattle.cmm_select.proofs.Places.{One}
use Rattle.cmm_select.proofs.Tabled.{masks}
use Rattle.cmm_select.proofs.jump_table.mask_outside.Goals as goal

pub returns-clause-masks : goal.returns-clause-masks
returns-clause-masks c =
    by_last c.emit-3.result c.emit-3.ensures.parts
    (λ h.
    let n = c.args.count in
    let zero = c.args.asm.now.parts in
    let one = c.emit.new.self.parts in
    let two = c.emit-2.new.self.parts in
    let first : Adds 1 zero one (One (Sltiu 6 7 (pos 0 -ℤ pos n))) = rw (c.in_ok-emit.ensures.parts, c.test_outside.ensures.is) (adds_one zero (Sltiu 6 7 (pos 0 -ℤ pos n))) in
    let second : Adds 1 one two (One (Addi 6 6 (negsuc 0))) = rw c.in_ok-emit-2.ensures.parts (adds_one one (Addi 6 6 (negsuc 0))) in
    let third : Adds 1 two c.emit-3.new.self.parts (One (And 7 7 6)) = rw h (adds_one two (And 7 7 6)) in
    adds_weaker (adds_then first (adds_then second third)) (omega arith) (λ x from to does. masks x n c.requires.some c.requires.few from to does))
