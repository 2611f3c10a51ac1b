use Rattle.std.proofs.Common.{map, ap, ◌∙◌, sym, ℕ}
use Rattle.std.proofs.lemmas.Iterator.{YieldsList-from_slice, YieldsList-from_zip}
use Rattle.std.proofs.lemmas.Iterator.Consumers.{YieldsList-end}
use Rattle.std.proofs.lemmas.Simd.{map-map}
use Rattle.cmm_located.specs.Layouts.{row_with}
use Rattle.cmm_allocate.specs.declared.procedure.ProcedurePlaces.{ProcedurePlaces}
use Rattle.cmm_allocate.proofs.rows.placement.Goals as goal

pub returns : goal.returns
returns c =
    let e = YieldsList-end (YieldsList-from_zip (YieldsList-from_slice c.args.found.now cc) (YieldsList-from_slice c.args.codes.now cc)) c.loop-places.yielded _
    c.loop-places.yielded_by _ c.next.new.self c.in-None.is c.next.ensures.steps in
    let of = λ (x : ProcedurePlaces × ℕ). row_with x.1 x.0.frame in
    c.loop-places.invariant ∙ (sym (map-map of (λ y. (y.0.now, y.1.now)) c.loop-places.yielded) ∙ ap (map of) e.0)
