use Rattle.std.proofs.Common.{◌∙◌, ap, subst, sym}
use Rattle.cmm_static_semantics.specs.Declarations.{named_units}
use Rattle.cmm_static_semantics.specs.Linking.{Program as Linked, program_of}
use Rattle.cmm_elaboration.proofs.Shared.{programs_are_in_range}
use Rattle.cmm_elaboration.specs.Meaning.{program_by}
use Rattle.cmm_program.specs.InRange.{IsInRange}
use Rattle.cmm_lower.specs.inside.Made.{AreParts}
use Rattle.cmm_lower.proofs.AcceptedUnits.{all_fit}
use Rattle.cmm_lower.proofs.Known.{words_known}
use Rattle.cmm_lower.proofs.whole.lower.Goals as goal

pub parts_of-requires-clause-words : goal.parts_of-requires-clause-words
parts_of-requires-clause-words c =
    let us = named_units c.args.checked.now in words_known (program_of us) us c.units.result.now c.units.ensures.each

pub returns-clause-program : goal.returns-clause-program
returns-clause-program c read texts =
    let trees = c.args.checked.now in
    let us = named_units trees in
    let parts : AreParts (program_of us) us c.in_ok-parts.parts = c.in_ok-parts.ensures (program_of us) us c.units.ensures.each (all_fit trees c.units.ensures.accepted read texts) in
    c.in_ok-program.ensures us (subst (λ (p : Linked). AreParts p us c.in_ok-parts.parts) (sym c.linkage.ensures) parts) c.widths.ensures
    ∙ ap (λ (p : Linked). program_by p us) c.linkage.ensures

pub returns-clause-range : goal.returns-clause-range
returns-clause-range c read texts =
    subst IsInRange (sym (returns-clause-program c read texts)) (programs_are_in_range c.args.checked.now c.units.ensures.accepted read texts)
