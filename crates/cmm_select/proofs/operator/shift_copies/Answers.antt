use Rattle.std.proofs.Common.{arith, negsuc, pos}
use Rattle.rv_table.specs.declared.instruction.Instr.TheVariants.{Addi, Sltiu, Sra}
use Rattle.cmm_effects.proofs.Shared.{adds_weaker, by_last}
use Rattle.cmm_select.proofs.Chains.{adds_four}
use Rattle.cmm_select.proofs.Signs.{does_shra}
use Rattle.cmm_select.proofs.operator.shift_copies.Goals as goal

pub returns-clause-operates : goal.returns-clause-operates
returns-clause-operates c =
    by_last c.emit-4.result c.emit-4.ensures.parts
    (λ h.
    rw (h, c.in_ok-emit-3.ensures.parts, c.in_ok-emit-2.ensures.parts, c.in_ok-emit.ensures.parts)
    (adds_weaker (adds_four c.args.asm.now.parts (Sltiu 6 7 (pos 64)) (Addi 6 6 (negsuc 0)) (Sra 5 5 6) (Sra 5 5 7)) (omega arith) does_shra))
