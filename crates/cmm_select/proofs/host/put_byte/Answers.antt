use Rattle.std.proofs.Common.{arith, pos}
use Rattle.rv_table.specs.declared.instruction.Instr.TheVariants.{Addi, Ecall}
use Rattle.cmm_effects.proofs.Shared.{adds_one, adds_then, adds_weaker, by_last}
use Rattle.cmm_select.proofs.Asking.{asks_to_put}
use Rattle.cmm_select.proofs.Chains.{also}
use Rattle.cmm_select.proofs.host.put_byte.Goals as goal

pub returns-clause-requests : goal.returns-clause-requests
returns-clause-requests c =
    by_last c.emit-3.result c.emit-3.ensures.parts
    (λ h.
    let mid = c.bring_operand.new.asm.parts in
    let one = also mid (Addi 10 5 (pos 0)) in
    rw (h, c.in_ok-emit-2.ensures.parts, c.in_ok-emit.ensures.parts, c.copy.ensures.is, c.choose.ensures.is)
    (adds_weaker
    (adds_then c.in_ok-bring_operand.ensures.brings
    (adds_then (adds_one mid (Addi 10 5 (pos 0))) (adds_then (adds_one one (Addi 5 0 (pos 1))) (adds_one (also one (Addi 5 0 (pos 1))) Ecall)))) (omega arith)
    (λ x from to does. asks_to_put x c.args.value.now from to does)))
