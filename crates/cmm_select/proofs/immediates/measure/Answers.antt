use Rattle.std.proofs.Common.{arith, pos, ◌-ℤ◌}
use Rattle.rv_table.specs.declared.instruction.Instr.TheVariants.{Addi, Sub}
use Rattle.cmm_effects.proofs.Shared.{adds_one, adds_then, adds_weaker, by_last}
use Rattle.cmm_effects.specs.Pieces.{Adds}
use Rattle.cmm_select.proofs.Constants.{eight_at_most}
use Rattle.cmm_select.proofs.Places.{One}
use Rattle.cmm_select.proofs.Ranging.{measures_loaded, measures_small}
use Rattle.cmm_select.specs.Operands.{most_for_number}
use Rattle.cmm_select.proofs.immediates.measure.Goals as goal

pub returns-then-first-from-clause-measures : goal.returns-then-first-from-clause-measures
returns-then-first-from-clause-measures c =
    by_last c.emit.result c.emit.ensures.parts
    (λ h.
    let f = c.args.first in
    rw (h, c.instruction.ensures.is)
    (adds_weaker (adds_one c.args.asm.now.parts (Addi 7 5 (pos 0 -ℤ pos f))) (omega arith) (λ x from to does. measures_small x from to f (omega arith) does)))

pub returns-clause-measures : goal.returns-clause-measures
returns-clause-measures c =
    by_last c.emit-2.result c.emit-2.ensures.parts
    (λ h.
    let f = c.args.first in
    let few = eight_at_most f in
    let one = c.load_constant.new.asm.parts in
    let second : Adds 1 one c.emit-2.new.self.parts (One (Sub 7 5 7)) = rw h (adds_one one (Sub 7 5 7)) in
    adds_weaker (adds_then c.in_ok-load_constant.ensures.sets second) (omega (arith, few))
    (λ x from to does. measures_loaded x from to f (most_for_number f) few does))
