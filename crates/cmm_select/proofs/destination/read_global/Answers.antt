use Rattle.std.proofs.Common.{arith, pos}
use Rattle.rv_table.specs.declared.instruction.Instr.TheVariants.{Ld}
use Rattle.cmm_effects.proofs.Shared.{adds_one, adds_then, adds_weaker, by_last}
use Rattle.cmm_select.proofs.Symbols.{loads_global}
use Rattle.cmm_select.proofs.destination.read_global.Goals as goal

pub returns-clause-reads : goal.returns-clause-reads
returns-clause-reads c =
    by_last c.emit.result c.emit.ensures.parts
    (λ h.
    rw h
    (adds_weaker (adds_then c.in_ok-find_global.ensures.sets (adds_one c.find_global.new.asm.parts (Ld c.args.rd c.args.rd (pos 0)))) (omega arith)
    (λ x from to does. loads_global x from to c.args.of c.args.rd (λ e. omega (arith, e, c.requires.register.0)) does)))
