use Rattle.std.proofs.Common.{ℕ, List, ◌++◌, flat_map, map, ap, sym, ◌∙◌}
use Rattle.std.proofs.lemmas.Iterator.{YieldsList-from_slice, YieldsList-from_zip}
use Rattle.std.proofs.lemmas.Iterator.Consumers.{YieldsList-end}
use Rattle.cmm_image.specs.declared.rows.LabelRow.{LabelRow}
use Rattle.cmm_link.specs.Labels.{label_exports}
use Rattle.cmm_link.proofs.Exports.{flat_mapped, flat_pushed}
use Rattle.cmm_link.proofs.labels.exported.Goals as goal

pub loop-label-preserved : goal.loop-label-preserved
loop-label-preserved c =
    let more : List (List ℕ) → List LabelRow = λ links. map (λ name. record { name = name; address = c.in-Some.address.now }) links in (
      c.in_ok-add_exports.ensures.rows
          ∙ (ap (λ rows. rows ++ more c.as_slice.result.now) c.loop-label.invariant.0
          ∙ (ap (λ links. flat_map (λ y. label_exports (y.0.now, y.1.now)) c.loop-label.yielded ++ more links) c.as_slice.ensures
          ∙ sym (flat_pushed (λ y. label_exports (y.0.now, y.1.now)) c.loop-label.yielded (c.in-Some.label, c.in-Some.address)))),
      c.in_ok-add_exports.ensures.named c.loop-label.invariant.1,
    )

pub returns-clause-rows : goal.returns-clause-rows
returns-clause-rows c =
    let road = YieldsList-from_zip (YieldsList-from_slice c.args.labels.now cc) (YieldsList-from_slice c.args.addresses.now cc) in
    let e = YieldsList-end road c.loop-label.yielded _ c.loop-label.yielded_by _ c.next.new.self c.in-None.is c.next.ensures.steps in
    c.loop-label.invariant.0 ∙ (flat_mapped (λ y. (y.0.now, y.1.now)) label_exports c.loop-label.yielded ∙ ap (flat_map label_exports) e.0)
