use Rattle.std.proofs.Common.{◌∷◌, ◌++◌, [], ◌+◌, ◌/◌, arith, pos}
use Rattle.rv_asm.specs.declared.part.Part.TheVariants.{Single}
use Rattle.rv_table.specs.Words.{signed}
use Rattle.rv_table.specs.declared.instruction.Instr.TheVariants.{Addi, Lui}
use Rattle.cmm_effects.proofs.Shared.{adds_one, adds_then, adds_weaker, by_last}
use Rattle.cmm_select.proofs.Constants.{sets_low, sets_small}
use Rattle.cmm_select.proofs.number.load_low.Goals as goal

pub returns-then-number-from-clause-sets : goal.returns-then-number-from-clause-sets
returns-then-number-from-clause-sets c =
    by_last c.emit.result c.emit.ensures.parts
    (λ h.
    let n = c.args.number in
    let rd = c.args.rd in
    rw (h, c.add_to.ensures.is)
    (adds_weaker (adds_one c.args.asm.now.parts (Addi rd 0 (pos n))) (omega arith)
    (λ x from to does. sets_small x rd n from to (omega (arith, c.requires.low)) (omega arith) does)))

pub returns-clause-sets : goal.returns-clause-sets
returns-clause-sets c =
    by_last c.emit-3.result c.emit-3.ensures.parts
    (λ h.
    let n = c.args.number in
    let rd = c.args.rd in
    let old = c.args.asm.now.parts in
    let first = Lui rd (pos ((n + 2048) / 4096)) in
    rw (h, c.in_ok-emit.ensures.parts, c.add_rest.ensures.is, c.upper.ensures.is, c.rounded.ensures)
    (adds_weaker (adds_then (adds_one old first) (adds_one (old ++ Single first ∷ []) (Addi rd rd (signed 12 n)))) (omega arith)
    (λ x from to does. sets_low x rd n from to (omega (arith, c.requires.low)) c.requires.near does)))
