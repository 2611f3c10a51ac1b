use Rattle.std.proofs.Common.{◌≡◌, All, map, ap, subst, sym, ◌∙◌}
use Rattle.std.proofs.lemmas.Iterator.{YieldsList-from_slice, YieldsList-from_zip}
use Rattle.std.proofs.lemmas.Iterator.Consumers.{YieldsList-end}
use Rattle.std.proofs.lemmas.List.Elements.{All-push}
use Rattle.std.proofs.lemmas.Simd.{map-map}
use Rattle.cmm_link.specs.Rows.{placed_procedure}
use Rattle.cmm_tables.specs.ProcedureRows.{procedure_row}
use Rattle.cmm_link.specs.inside.Named.{IsNamed}
use Rattle.cmm_link.proofs.Exports.{map_pushed}
use Rattle.cmm_link.proofs.procedures.procedure_rows.Goals as goal

pub loop-q-preserved : goal.loop-q-preserved
loop-q-preserved c =
    let row = c.in_ok-row.field-0 in
    let is : row ≡ procedure_row c.in-Some.q.now c.in-Some.k.now.frame c.in-Some.code.now c.in-Some.landings.now =
    c.in_ok-row.ensures.row ∙ ap (procedure_row c.in-Some.q.now c.in-Some.k.now.frame c.in-Some.code.now) c.as_slice.ensures
    in (
      c.in_ok-push.ensures.ok
          ∙ map_pushed (λ y. placed_procedure (y.0.now, (y.1.0.now, (y.1.1.0.now, y.1.1.1.now)))) c.loop-q.yielded _ c.loop-q.rows row c.loop-q.invariant.0 is,
      subst (All IsNamed) (sym c.in_ok-push.ensures.ok) (All-push IsNamed c.loop-q.rows row c.loop-q.invariant.1 c.in_ok-row.ensures.named),
    )

pub returns-clause-rows : goal.returns-clause-rows
returns-clause-rows c =
    let codes = YieldsList-from_zip (YieldsList-from_slice c.args.codes.now cc) (YieldsList-from_slice c.args.landings.now cc) in
    let road = YieldsList-from_zip (YieldsList-from_slice c.args.procs.now cc) (YieldsList-from_zip (YieldsList-from_slice c.args.places.now cc) codes) in
    let e = YieldsList-end road c.loop-q.yielded _ c.loop-q.yielded_by _ c.next.new.self c.in-None.is c.next.ensures.steps in
    c.loop-q.invariant.0
    ∙ (sym (map-map placed_procedure (λ y. (y.0.now, (y.1.0.now, (y.1.1.0.now, y.1.1.1.now)))) c.loop-q.yielded) ∙ ap (map placed_procedure) e.0)
