use Rattle.std.proofs.Common.{map, ap, ◌∙◌, sym}
use Rattle.std.proofs.lemmas.Iterator.{YieldsList-from_slice, YieldsList-from_zip}
use Rattle.std.proofs.lemmas.Iterator.Consumers.{YieldsList-end}
use Rattle.std.proofs.lemmas.Simd.{map-map}
use Rattle.cmm_tables.specs.ProcedureRows.{continuation_row}
use Rattle.cmm_link.proofs.procedures.continuations.Goals as goal

pub returns : goal.returns
returns c =
    let road =
    YieldsList-from_zip (YieldsList-from_slice c.args.conts.now cc) (YieldsList-from_zip (YieldsList-from_slice c.args.pairs.now cc) (YieldsList-from_slice c.args.landings.now cc))
    in
    let e = YieldsList-end road c.loop-cont.yielded _ c.loop-cont.yielded_by _ c.next.new.self c.in-None.is c.next.ensures.steps in
    c.loop-cont.invariant
    ∙ (sym (map-map continuation_row (λ y. (y.0.now, (y.1.0.now, y.1.1.now))) c.loop-cont.yielded) ∙ ap (map continuation_row) e.0)
