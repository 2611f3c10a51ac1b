use Rattle.std.proofs.Common.{refl, sym, ap, ◌∙◌, length}
use Rattle.std.specs.Prelude.{slice_index_or}
use Rattle.std.proofs.lemmas.Option.{slice_get_read}
use Rattle.cmm_program.specs.declared.program.Datum.{Datum}
use Rattle.cmm_program.specs.Layout.{aligned_up}
use Rattle.cmm_data.proofs.Ends.{address_at_end, address_on, end_small, number_below, number_within}
use Rattle.cmm_data.proofs.labels.address_of.Goals as goal

pub bounds-ends-number : goal.bounds-ends-number
bounds-ends-number c = number_within c.args.datums.now c.args.label.now c.args.ends.now c.requires.there c.requires.ends

pub bounds-ends-number-else-label : goal.bounds-ends-number-else-label
bounds-ends-number-else-label c = number_within c.args.datums.now c.args.label.now c.args.ends.now c.requires.there c.requires.ends

pub next_aligned-requires-clause-address : goal.next_aligned-requires-clause-address
next_aligned-requires-clause-address c =
    end_small c.args.datums.now c.args.label.now c.args.ends.now c.requires.there c.requires.aligned c.requires.size c.requires.ends

pub returns-then-label : goal.returns-then-label
returns-then-label c = address_at_end c.args.datums.now c.args.label.now c.args.ends.now c.if-label.true c.requires.there c.requires.ends

pub returns-else-label : goal.returns-else-label
returns-else-label c =
    let ds = c.args.datums.now in
    let l = c.args.label.now in
    let d = c.index-datums-number.result in
    let is = slice_get_read ds (length ds) l.datum d refl (number_below (length ds) l c.if-label.false c.requires.there) c.index-datums-number.is in
    c.next_aligned.ensures
    ∙ sym (ap (λ (d : Datum). aligned_up d.align (slice_index_or c.args.ends.now l.datum 0)) c.index-datums-number.is)
    ∙ address_on ds l c.args.ends.now d c.if-label.false is c.requires.there c.requires.ends
