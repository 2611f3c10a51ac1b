use Rattle.std.proofs.Common.{◌+◌, ◌++◌, ap, ◌∙◌, map, true}
use Rattle.cmm_static_semantics.specs.Items.{top_items}
use Rattle.cmm_elaboration.specs.Data.{label_at}
use Rattle.cmm_symbols.specs.Shown.{thing_item}
use Rattle.cmm_lower_parts.specs.Held.{held}
use Rattle.cmm_lower_parts.proofs.Sections.{among_is, section_done}
use Rattle.cmm_lower_parts.proofs.labels.add_section.Goals as goal

pub returns-clause-datum : goal.returns-clause-datum
returns-clause-datum c = λ n e.
    c.in_ok-passed.ensures.datum n e ∙ ap (λ k. held (n + k)) (among_is c.as_slice.result.now (top_items c.args.part.now) (ap (map thing_item) c.as_slice.ensures ∙ c.in_ok-things.ensures))

pub returns-clause-labels : goal.returns-clause-labels
returns-clause-labels c = λ n e.
    let es = map (λ f. f.now) c.args.links.now.exports.now in
    section_done es c.as_slice.result.now (top_items c.args.part.now) _ c.in_ok-passed.passed c.args.to.now c.pass_things.new.to c.add_at.new.to n
    (ap (map thing_item) c.as_slice.ensures ∙ c.in_ok-things.ensures) c.new.ensures e c.in_ok-passed.ensures
    (c.in_ok-add_at.ensures ∙ ap (λ w. c.pass_things.new.to ++ map (λ i. label_at es i.now record { datum = c.in_ok-passed.passed.datum; at_end = true }) w) c.as_slice-2.ensures)
