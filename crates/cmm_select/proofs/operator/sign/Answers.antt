use Rattle.std.proofs.Common.{arith, pos}
use Rattle.rv_table.specs.declared.instruction.Instr.TheVariants.{Addi, Addiw}
use Rattle.cmm_effects.proofs.Shared.{adds_one, adds_weaker, by_last}
use Rattle.cmm_select.proofs.Widths.{extends_8, extends_16, extends_64, signs_word}
use Rattle.cmm_select.proofs.operator.sign.Goals as goal

pub returns-in-W8-clause-extends : goal.returns-in-W8-clause-extends
returns-in-W8-clause-extends c =
    by_last c.shift_back.result c.shift_back.ensures.shifts
    (λ h.
    rw c.in-W8.is (adds_weaker h (omega arith) (λ x from to leads. extends_8 x from to c.args.rd c.args.from leads)))

pub returns-in-W16-clause-extends : goal.returns-in-W16-clause-extends
returns-in-W16-clause-extends c =
    by_last c.shift_back-in-W16.result c.shift_back-in-W16.ensures.shifts
    (λ h.
    rw c.in-W16.is (adds_weaker h (omega arith) (λ x from to leads. extends_16 x from to c.args.rd c.args.from leads)))

pub returns-in-W32-clause-extends : goal.returns-in-W32-clause-extends
returns-in-W32-clause-extends c =
    by_last c.emit.result c.emit.ensures.parts
    (λ h.
    rw (c.in-W32.is, h, c.signed_word.ensures.is)
    (adds_weaker (adds_one c.args.asm.now.parts (Addiw c.args.rd c.args.from (pos 0))) (omega arith)
    (λ x from to does. signs_word x from to c.args.rd c.args.from (λ e. omega (arith, e, c.requires.register.0)) does)))

pub returns-in-W64-clause-extends : goal.returns-in-W64-clause-extends
returns-in-W64-clause-extends c =
    by_last c.emit-in-W64.result c.emit-in-W64.ensures.parts
    (λ h.
    rw (c.in-W64.is, h, c.copy.ensures.is)
    (adds_weaker (adds_one c.args.asm.now.parts (Addi c.args.rd c.args.from (pos 0))) (omega arith)
    (λ x from to does. extends_64 x from to c.args.rd c.args.from (λ e. omega (arith, e, c.requires.register.0)) does)))
