use Rattle.std.proofs.Common.{arith, pos}
use Rattle.rv_table.specs.declared.instruction.Instr.TheVariants.{Addi, Andi}
use Rattle.cmm_effects.proofs.Shared.{adds_one, adds_weaker, by_last}
use Rattle.cmm_select.proofs.Widths.{cuts_byte, cuts_16, cuts_32, cuts_64}
use Rattle.cmm_select.proofs.operator.cut.Goals as goal

pub returns-in-W8-clause-cuts : goal.returns-in-W8-clause-cuts
returns-in-W8-clause-cuts c =
    by_last c.emit.result c.emit.ensures.parts
    (λ h.
    rw (c.in-W8.is, h, c.low_byte.ensures.is)
    (adds_weaker (adds_one c.args.asm.now.parts (Andi c.args.rd c.args.from (pos 255))) (omega arith)
    (λ x from to does. cuts_byte x from to c.args.rd c.args.from (λ e. omega (arith, e, c.requires.register.0)) does)))

pub returns-in-W16-clause-cuts : goal.returns-in-W16-clause-cuts
returns-in-W16-clause-cuts c =
    by_last c.shift_out.result c.shift_out.ensures.shifts
    (λ h.
    rw c.in-W16.is (adds_weaker h (omega arith) (λ x from to leads. cuts_16 x from to c.args.rd c.args.from leads)))

pub returns-in-W32-clause-cuts : goal.returns-in-W32-clause-cuts
returns-in-W32-clause-cuts c =
    by_last c.shift_out-in-W32.result c.shift_out-in-W32.ensures.shifts
    (λ h.
    rw c.in-W32.is (adds_weaker h (omega arith) (λ x from to leads. cuts_32 x from to c.args.rd c.args.from leads)))

pub returns-in-W64-clause-cuts : goal.returns-in-W64-clause-cuts
returns-in-W64-clause-cuts c =
    by_last c.emit-in-W64.result c.emit-in-W64.ensures.parts
    (λ h.
    rw (c.in-W64.is, h, c.copy.ensures.is)
    (adds_weaker (adds_one c.args.asm.now.parts (Addi c.args.rd c.args.from (pos 0))) (omega arith)
    (λ x from to does. cuts_64 x from to c.args.rd c.args.from (λ e. omega (arith, e, c.requires.register.0)) does)))
