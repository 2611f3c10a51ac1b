use Rattle.std.proofs.Common.{arith}
use Rattle.cmm_effects.proofs.Shared.{adds_one, adds_weaker, by_last}
use Rattle.cmm_select.proofs.Accessing.{stores_cell}
use Rattle.cmm_select.specs.inside.Accesses.{store_part}
use Rattle.cmm_select.proofs.cell.store_cell.Goals as goal

pub returns-clause-stores : goal.returns-clause-stores
returns-clause-stores c =
    by_last c.emit.result c.emit.ensures.parts
    (λ h.
    let w = c.args.width in
    let base = c.args.base in
    let v = c.args.from in
    rw (h, c.store_part.ensures.is)
    (adds_weaker (adds_one c.args.asm.now.parts (store_part w base v 0)) (omega arith) (λ x from to does. stores_cell x from to base w v does)))
