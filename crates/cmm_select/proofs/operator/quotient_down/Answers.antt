use Rattle.std.proofs.Common.{arith, pos}
use Rattle.rv_table.specs.declared.instruction.Instr.TheVariants.{Div, Mulh, Rem, Srli, Sub}
use Rattle.cmm_effects.proofs.Shared.{adds_weaker, by_last}
use Rattle.cmm_select.proofs.Chains.{adds_five}
use Rattle.cmm_select.proofs.Rounding.{does_div}
use Rattle.cmm_select.proofs.operator.quotient_down.Goals as goal

pub returns-clause-operates : goal.returns-clause-operates
returns-clause-operates c =
    by_last c.emit-5.result c.emit-5.ensures.parts
    (λ h.
    rw (h, c.in_ok-emit-4.ensures.parts, c.in_ok-emit-3.ensures.parts, c.in_ok-emit-2.ensures.parts, c.in_ok-emit.ensures.parts)
    (adds_weaker (adds_five c.args.asm.now.parts (Rem 6 5 7) (Div 5 5 7) (Mulh 6 6 7) (Srli 6 6 (pos 63)) (Sub 5 5 6)) (omega arith)
    (λ x from to does. does_div x from to c.divisions_by_each_other.ensures.quotient does)))
