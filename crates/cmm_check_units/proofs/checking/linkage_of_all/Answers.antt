use Rattle.std.proofs.Common.{◌≡◌, ◌≤◌, ◌∙◌, length, map, take, ap, sym, arith}
use Rattle.std.proofs.lemmas.List.{length-map, take_all}
use Rattle.cmm_static_semantics.specs.Linking.{program_of}
use Rattle.cmm_check_units.specs.inside.Flat.{flat_unit}
use Rattle.cmm_check_units.specs.inside.Units.{unit_flat}
use Rattle.cmm_check_units.proofs.Numbering.{same_at}
use Rattle.cmm_check_units.proofs.checking.linkage_of_all.Goals as goal

pub loop-unit-preserved : goal.loop-unit-preserved
loop-unit-preserved c = λ us. λ same.
    let k = c.loop-unit.unit-index in
    let (u, (here, next)) = same_at unit_flat flat_unit c.args.units.now us k c.unit-item.result same c.loop-unit-test.true c.unit-item.is in
    c.in_ok-gathered.ensures (take k us) u (c.loop-unit.invariant us same) (ap (λ f. f.entries) here) (ap (map (λ e. e.now)) c.as_slice.ensures ∙ ap (λ f. f.exports) here) ∙ ap program_of (sym next)

pub returns : goal.returns
returns c = λ us. λ same.
    let size : length us ≡ length c.args.units.now = sym (length-map us flat_unit) ∙ ap length (sym same) ∙ length-map c.args.units.now unit_flat in
    let all : length us ≤ c.loop-unit.unit-index = omega (arith, size, c.loop-unit-test.false) in
    c.in_ok-linkage.ensures ∙ c.loop-unit.invariant us same ∙ ap program_of (take_all c.loop-unit.unit-index us all)
