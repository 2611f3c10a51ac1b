use Rattle.std.proofs.Common.{arith, pos}
use Rattle.rv_table.specs.declared.instruction.Instr.TheVariants.{Addi, Ecall}
use Rattle.cmm_effects.proofs.Shared.{adds_one, adds_then, adds_weaker, by_last}
use Rattle.cmm_effects.specs.Pieces.{Adds}
use Rattle.cmm_select.proofs.Asking.{asks_to_get}
use Rattle.cmm_select.proofs.Chains.{also}
use Rattle.cmm_select.specs.Destinations.{PutsFrom}
use Rattle.cmm_select.proofs.host.get_byte.Goals as goal

pub returns-clause-requests : goal.returns-clause-requests
returns-clause-requests c =
    by_last c.put.result c.put.ensures.puts
    (λ h.
    let old = c.args.asm.now.parts in
    let one = also old (Addi 5 0 (pos 2)) in
    let two = also one Ecall in
    let third : Adds 4 two c.put.new.asm.parts (PutsFrom 10 c.args.to.now) =
    rw (c.in_ok-emit-2.ensures.parts, c.in_ok-emit.ensures.parts, c.choose.ensures.is) at h
    in
    adds_weaker (adds_then (adds_one old (Addi 5 0 (pos 2))) (adds_then (adds_one one Ecall) third)) (omega arith)
    (λ x from end does. asks_to_get x c.args.to.now from end does))
