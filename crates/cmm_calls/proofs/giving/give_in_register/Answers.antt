use Rattle.std.proofs.Common.{◌+◌, arith, pos}
use Rattle.cmm_chain.specs.declared.frame.Location.TheVariants.{Slot}
use Rattle.rv_table.specs.declared.instruction.Instr.TheVariants.{Addi}
use Rattle.cmm_effects.proofs.Shared.{adds_one, adds_then, adds_weaker}
use Rattle.cmm_calls.proofs.Brought.{gives_fetched, gives_register}
use Rattle.cmm_calls.proofs.giving.give_in_register.Goals as goal

pub returns-in_ok-restore-in-Some-clause-gives : goal.returns-in_ok-restore-in-Some-clause-gives
returns-in_ok-restore-in-Some-clause-gives c =
    adds_weaker c.in_ok-restore-in-Some.ensures.restores (omega arith)
    (λ x from to does. λ region. gives_fetched x c.args.value.now c.args.index from to region (Slot c.in-Some.offset) c.in-Some.ensures c.requires.near does)

pub returns-in_ok-emit-in-None-clause-gives : goal.returns-in_ok-emit-in-None-clause-gives
returns-in_ok-emit-in-None-clause-gives c =
    let k = c.args.index in
    let short = c.code_is_short.ensures.operand c.args.value.now in
    rw (c.in_ok-emit-in-None.ensures.parts, c.copy.ensures.is)
    (adds_weaker (adds_then (adds_weaker c.in_ok-bring_operand-in-None.ensures.brings short (λ x from to brings. brings)) (adds_one c.bring_operand.new.asm.parts (Addi (10 + k) 5 (pos 0)))) (omega arith)
    (λ x from to does. λ region. gives_register x c.args.value.now k from to short region c.requires.near does))
