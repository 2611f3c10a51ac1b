use Rattle.std.proofs.Common.{◌∷◌, ◌++◌, [], arith}
use Rattle.rv_asm.specs.declared.part.Part.TheVariants.{Address}
use Rattle.rv_table.specs.declared.instruction.Instr.TheVariants.{Add}
use Rattle.cmm_effects.proofs.Shared.{adds_one, adds_part, adds_then, adds_weaker, by_last}
use Rattle.cmm_select.proofs.Symbols.{finds_global}
use Rattle.cmm_select.proofs.destination.find_global.Goals as goal

pub returns-clause-sets : goal.returns-clause-sets
returns-clause-sets c =
    by_last c.emit.result c.emit.ensures.parts
    (λ h.
    let rd = c.args.rd in
    let l = c.args.of in
    let old = c.args.asm.now.parts in
    rw (h, c.in_ok-address.ensures.parts)
    (adds_weaker (adds_then (adds_part old (Address rd l) 2 (omega arith)) (adds_one (old ++ Address rd l ∷ []) (Add rd rd 4))) (omega arith)
    (λ x from to does. finds_global x rd from to l (omega (arith, c.requires.low)) (omega (arith, c.requires.low)) does)))
