use Rattle.std.proofs.Common.{◌≡◌, None, Some, length, map, sym, ap, ◌∙◌}
use Rattle.std.proofs.lemmas.List.{length-map}
use Rattle.cmm_static_semantics.specs.Declarations.{named_units}
use Rattle.cmm_check_units.specs.inside.Flat.{flat_unit}
use Rattle.cmm_check_units.specs.inside.Units.{unit_flat, broken_placed}
use Rattle.cmm_check_units.proofs.Checked.{first_found, named_fault}
use Rattle.cmm_check_units.proofs.Known.{named_of_all}
use Rattle.cmm_check_units.proofs.Numbering.{units_are_as_many}
use Rattle.cmm_check_units.proofs.checking.unbroken.Goals as goal

pub first_of_all-requires : goal.first_of_all-requires
first_of_all-requires c =
    let us = c.args.units.now in
    let size : length c.args.named.now ≡ length us =
    sym (length-map c.args.named.now unit_flat) ∙ ap length c.requires.named ∙ length-map (named_units us) flat_unit ∙ units_are_as_many 0 0 us in
    rw size c.requires.size

pub returns-in-Broken-clause-err : goal.returns-in-Broken-clause-err
returns-in-Broken-clause-err c =
    let us = c.args.units.now in
    let found = rw c.in-Broken.is at c.in_ok-found.ensures in
    named_fault us (broken_placed c.in-Broken.broken) (first_found us (map unit_flat c.args.named.now) c.args.linkage.now (Some (broken_placed c.in-Broken.broken)) c.requires.named c.requires.linkage
    (sym found))
    ∙ ap Some (sym c.fault_at.ensures)

pub returns-in-Some-clause-err : goal.returns-in-Some-clause-err
returns-in-Some-clause-err c =
    let us = c.args.units.now in
    let found = rw c.in-Unbroken.is at c.in_ok-found.ensures in
    named_of_all us c.args.linkage.now (map unit_flat c.args.named.now) c.in-Unbroken.known.sums (Some c.in-Some.fault) c.requires.named c.requires.linkage found.0 found.1.sums c.in-Some.ensures

pub returns-clause-accepted : goal.returns-clause-accepted
returns-clause-accepted c =
    let found = rw c.in-Unbroken.is at c.in_ok-found.ensures in
    named_of_all c.args.units.now c.args.linkage.now (map unit_flat c.args.named.now) c.in-Unbroken.known.sums None c.requires.named c.requires.linkage found.0 found.1.sums c.in-None.ensures

pub returns-clause-known : goal.returns-clause-known
returns-clause-known c = let found = rw c.in-Unbroken.is at c.in_ok-found.ensures in found.1
