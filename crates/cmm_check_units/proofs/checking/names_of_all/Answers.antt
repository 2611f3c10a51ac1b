use Rattle.std.proofs.Common.{◌+◌, ◌++◌, ◌∷◌, ◌∙◌, [], map, ap, drop, sym}
use Rattle.std.proofs.lemmas.List.{map-append}
use Rattle.cmm_static_semantics.specs.Declarations.{units_from, named_units}
use Rattle.cmm_check_units.specs.inside.Flat.{flat_unit}
use Rattle.cmm_check_units.specs.inside.Units.{unit_flat}
use Rattle.cmm_check_units.proofs.Numbering.{units_next}
use Rattle.cmm_check_units.proofs.checking.names_of_all.Goals as goal

pub loop-unit-preserved : goal.loop-unit-preserved
loop-unit-preserved c =
    let us = c.args.units.now in
    let k = c.loop-unit.unit-index in
    let numbers = c.loop-unit.numbers in
    let next = c.in_ok-numbers.numbers in
    let names = c.in_ok-names.names in
    ap (λ t. t ++ map flat_unit (units_from next.procedures next.labels (drop (k + 1) us))) (ap (map unit_flat) c.in_ok-push.ensures.ok ∙ map-append unit_flat c.loop-unit.named (names ∷ []))
    ∙ units_next (map unit_flat c.loop-unit.named) (unit_flat names) (map flat_unit (named_units us)) numbers.procedures numbers.labels next.procedures next.labels c.things.result.now us k c.unit-item.result
    c.loop-unit-test.true c.unit-item.is c.in_ok-names.ensures (sym c.things.ensures)
    c.in_ok-numbers.ensures.procedures c.in_ok-numbers.ensures.labels c.loop-unit.invariant
