use Rattle.std.proofs.Common.{arith, pos}
use Rattle.rv_table.specs.declared.instruction.Instr.TheVariants.{Sd}
use Rattle.cmm_effects.proofs.Shared.{adds_one, adds_then, adds_weaker, by_last}
use Rattle.cmm_select.proofs.Symbols.{stores_global}
use Rattle.cmm_select.proofs.destination.put_global.Goals as goal

pub returns-clause-puts : goal.returns-clause-puts
returns-clause-puts c =
    by_last c.emit.result c.emit.ensures.parts
    (λ h.
    rw h
    (adds_weaker (adds_then c.in_ok-find_global.ensures.sets (adds_one c.find_global.new.asm.parts (Sd 6 c.args.register (pos 0)))) (omega arith)
    (λ x from to does. stores_global x from to c.args.of c.args.register c.requires.other does)))
