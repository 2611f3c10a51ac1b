use Rattle.std.proofs.Common.{◌∷◌, ◌++◌, [], arith, pos}
use Rattle.rv_asm.specs.declared.part.Part.TheVariants.{Single}
use Rattle.rv_table.specs.declared.instruction.Instr.TheVariants.{Addi, Ecall}
use Rattle.cmm_effects.proofs.Shared.{adds_one, adds_then, adds_weaker}
use Rattle.cmm_calls.proofs.AskedEnds.{asks_client}
use Rattle.cmm_calls.proofs.asking.ask_client.Goals as goal

pub returns-clause-asks : goal.returns-clause-asks
returns-clause-asks c =
    let old = c.args.asm.now.parts in
    rw (c.in_ok-emit-2.ensures.parts, c.in_ok-emit.ensures.parts, c.choose.ensures.is)
    (adds_weaker (adds_then (adds_one old (Addi 5 0 (pos 3))) (adds_one (old ++ Single (Addi 5 0 (pos 3)) ∷ []) Ecall)) (omega arith)
    (λ x from to does. asks_client x from does.0 to does.1 does.2))
