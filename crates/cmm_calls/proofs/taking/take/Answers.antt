use Rattle.std.proofs.Common.{◌∙◌, List, subst}
use Rattle.cmm_effects.specs.Pieces.{Adds}
use Rattle.cmm_select.specs.declared.destination.Destination.{Destination}
use Rattle.cmm_calls.proofs.Targets.{are_destinations, are_labelled, takes_all}
use Rattle.cmm_calls.specs.inside.Arriving.{CopiesAll, copy_cost, copy_least}
use Rattle.cmm_calls.proofs.taking.take.Goals as goal

pub copy_all-requires-clause-destinations : goal.copy_all-requires-clause-destinations
copy_all-requires-clause-destinations c = rw (c.as_slice.ensures, c.in_ok-to.ensures) (are_destinations c.args.frame.now c.args.places.now c.requires.places)

pub copy_all-requires-clause-labels : goal.copy_all-requires-clause-labels
copy_all-requires-clause-labels c = rw (c.as_slice.ensures, c.in_ok-to.ensures) (are_labelled c.args.frame.now c.args.asm.now.labels c.args.places.now c.requires.frame c.requires.places)

pub returns-clause-takes : goal.returns-clause-takes
returns-clause-takes c =
    takes_all c.args.asm.now.parts c.copy_all.new.asm.parts c.args.frame.now c.args.places.now
    (subst (λ (to : List Destination). Adds (copy_cost to) c.args.asm.now.parts c.copy_all.new.asm.parts (CopiesAll (copy_least to) (copy_cost to) c.args.frame.now.size to)) (c.as_slice.ensures ∙ c.in_ok-to.ensures)
    c.in_ok-copy_all.ensures.copies)
