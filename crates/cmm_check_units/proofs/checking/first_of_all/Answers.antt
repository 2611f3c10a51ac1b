use Rattle.std.proofs.Common.{◌+◌, List, None, Some, map, take, refl, sym, ap, ◌∙◌, subst}
use Rattle.std.proofs.lemmas.List.{drop_all, take_all}
use Rattle.cmm_static_semantics.specs.Faults.{stands_before}
use Rattle.cmm_static_semantics.specs.Spots.{first_by}
use Rattle.cmm_check_units.specs.inside.Flat.{flats_broken, placed}
use Rattle.cmm_check_units.specs.inside.Units.{AreEarlier, unit_flat}
use Rattle.cmm_check_units.specs.declared.unit_names.UnitNames.{UnitNames}
use Rattle.cmm_static_semantics.proofs.Shared.{mapped_next}
use Rattle.cmm_check_units.proofs.FirstUnit.{later_step, here_step}
use Rattle.cmm_check_units.proofs.checking.first_of_all.Goals as goal

pub loop-unit-init : goal.loop-unit-init
loop-unit-init c = (refl, c.none-earlier.ensures c.args.linkage.now, refl)

pub loop-unit-preserved : goal.loop-unit-preserved
loop-unit-preserved c =
    let i = c.loop-unit.invariant in
    let k = c.loop-unit.unit-index in
    let us = c.args.units.now in
    let program = c.args.linkage.now in
    let before = map unit_flat (take k us) in (
      ap (λ n. n + 1) i.0,
      subst (AreEarlier program c.first_broken.new.earlier) (sym (mapped_next unit_flat us k c.unit-item.result c.loop-unit-test.true c.unit-item.is)) (c.in_ok-first.ensures.earlier before i.1),
      sym (later_step unit_flat program us k c.unit-item.result c.loop-unit-test.true c.unit-item.is (sym (c.in_ok-first.ensures.best before i.1) ∙ c.in-None.is)) ∙ i.2,
    )

pub returns-in-Some : goal.returns-in-Some
returns-in-Some c =
    let i = c.loop-unit.invariant in
    let k = c.loop-unit.unit-index in
    let us = c.args.units.now in
    let program = c.args.linkage.now in
    sym i.2
    ∙ here_step unit_flat program us k c.unit-item.result c.in-Some.spot c.loop-unit-test.true c.unit-item.is (sym (c.in_ok-first.ensures.best (map unit_flat (take k us)) i.1) ∙ c.in-Some.is)
    ∙ sym (ap (λ n. Some (placed n c.in-Some.spot)) i.0)

-- after the last unit
pub returns : goal.returns
returns c =
    let i = c.loop-unit.invariant in
    let k = c.loop-unit.unit-index in
    let us = c.args.units.now in
    let program = c.args.linkage.now in (
      sym i.2 ∙ ap (λ (rest : List UnitNames). first_by stands_before None (flats_broken program (map unit_flat (take k us)) k (map unit_flat rest))) (drop_all k us c.loop-unit-test.false),
      subst (λ (all : List UnitNames). AreEarlier program c.loop-unit.earlier (map unit_flat all)) (take_all k us c.loop-unit-test.false) i.1,
    )
