use Rattle.std.proofs.Common.{ap, ◌∙◌, ◌++◌, map}
use Rattle.std.proofs.lemmas.List.{take_all}
use Rattle.cmm_elaboration.specs.Data.{unit_labels}
use Rattle.cmm_lower_parts.specs.Held.{label_held}
use Rattle.cmm_lower_parts.proofs.Labelled.{unit_next, labels_same}
use Rattle.cmm_lower_parts.proofs.labels.add_labels.Goals as goal

pub loop-part-preserved : goal.loop-part-preserved
loop-part-preserved c =
    unit_next (map (λ e. e.now) c.args.links.now.exports.now) c.args.first c.as_slice-part-items.result.now c.loop-part.part-index c.part-item.result
    c.loop-part.number c.in_ok-number.number c.args.to.now c.loop-part.to c.add_section.new.to
    c.loop-part-test.true c.part-item.is c.in_ok-number.ensures.datum c.in_ok-number.ensures.labels c.loop-part.invariant

pub returns-clause-fitting : goal.returns-clause-fitting
returns-clause-fitting c = λ fit.
    let es = map (λ e. e.now) c.args.links.now.exports.now in
    let first = c.args.first in
    c.loop-part.invariant.1
    ∙ ap (λ ps. c.args.to.now ++ map label_held (unit_labels es first ps)) (take_all c.loop-part.part-index c.as_slice-part-items.result.now c.loop-part-test.false ∙ c.as_slice-part-items.ensures)
    ∙ ap (λ ls. c.args.to.now ++ ls) (labels_same es first c.args.unit.now.parts fit)
