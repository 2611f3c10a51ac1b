use Rattle.std.proofs.Common.{arith}
use Rattle.cmm_effects.proofs.Shared.{adds_one, adds_weaker, by_last}
use Rattle.cmm_select.proofs.Accessing.{loads_cell}
use Rattle.cmm_select.specs.inside.Accesses.{load_part}
use Rattle.cmm_select.proofs.cell.load_cell.Goals as goal

pub returns-clause-loads : goal.returns-clause-loads
returns-clause-loads c =
    by_last c.emit.result c.emit.ensures.parts
    (λ h.
    let w = c.args.width in
    let rd = c.args.rd in
    let base = c.args.base in
    rw (h, c.load_part.ensures.is)
    (adds_weaker (adds_one c.args.asm.now.parts (load_part w rd base 0)) (omega arith)
    (λ x from to does. loads_cell x from to base w rd (λ e. omega (arith, e, c.requires.register.0)) does)))
