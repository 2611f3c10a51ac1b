use Rattle.std.proofs.Common.{arith, pos}
use Rattle.rv_table.specs.Words.{signed}
use Rattle.rv_table.specs.declared.instruction.Instr.TheVariants.{Addi}
use Rattle.cmm_effects.proofs.Shared.{adds_one, adds_then, adds_weaker, by_last}
use Rattle.cmm_select.proofs.Operands.{address_far, address_near}
use Rattle.cmm_select.proofs.source.address.Goals as goal

pub returns-then-offset-lt-NEAR-clause-brings : goal.returns-then-offset-lt-NEAR-clause-brings
returns-then-offset-lt-NEAR-clause-brings c =
    by_last c.emit.result c.emit.ensures.parts
    (λ h.
    let o = c.args.offset in
    let rd = c.args.rd in
    rw (h, c.add_to.ensures.is)
    (adds_weaker (adds_one c.args.asm.now.parts (Addi rd 2 (pos o))) (omega arith)
    (λ x from to does. address_near x from to o rd (omega (arith, c.requires.low)) (omega arith) does)))

pub returns-clause-brings : goal.returns-clause-brings
returns-clause-brings c =
    by_last c.emit-2.result c.emit-2.ensures.parts
    (λ h.
    let o = c.args.offset in
    let rd = c.args.rd in
    rw (h, c.add_rest.ensures.is)
    (adds_weaker (adds_then c.in_ok-approach.ensures.sets (adds_one c.approach.new.asm.parts (Addi rd rd (signed 12 o)))) (omega arith)
    (λ x from to does. address_far x from to o rd (omega (arith, c.requires.low)) c.requires.frame does)))
