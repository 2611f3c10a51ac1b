use Rattle.std.proofs.Common.{◌≡◌, List, ap, length, map, sym, ◌∙◌}
use Rattle.cmm_static_semantics.specs.Declarations.{NamedUnit}
use Rattle.cmm_static_semantics.specs.Linking.{has_main}
use Rattle.cmm_check_units.specs.declared.unit_names.UnitNames.{UnitNames}
use Rattle.cmm_check_units.specs.inside.Flat.{flat_unit, some_starts}
use Rattle.cmm_check_units.specs.inside.Units.{unit_flat}
use Rattle.cmm_check_units.proofs.FlatUnits.{has_main_flat}
use Rattle.cmm_check_units.proofs.Numbering.{as_many}
use Rattle.cmm_check_units.proofs.Totals.{by_sums, no_main}
use Rattle.cmm_check_units.proofs.together.fault_of_all.Goals as goal

starts : (us : List NamedUnit) (xs : List UnitNames) → map unit_flat xs ≡ map flat_unit us → has_main us ≡ some_starts (map unit_flat xs)
starts us xs are = has_main_flat us ∙ ap some_starts (sym are)

pub returns-then-not-some_starts : goal.returns-then-not-some_starts
returns-then-not-some_starts c = λ us. λ are. λ knows. λ sums.
    c.at_beginning.ensures ∙ sym (no_main us (starts us c.args.units.now are ∙ sym c.some_starts.ensures ∙ c.if-not-some_starts.true))

pub returns-then-not-are_within : goal.returns-then-not-are_within
returns-then-not-are_within c = λ us. λ are. λ knows. λ sums.
    c.at_beginning-then-not-are_within.ensures
    ∙ sym (by_sums us c.args.sums.now (length c.args.units.now) c.args.linkage.now _ (starts us c.args.units.now are ∙ sym c.some_starts.ensures ∙ c.if-not-some_starts.false)
    (sym (as_many unit_flat c.args.units.now us are)) knows sums (sym c.are_within.ensures ∙ c.if-not-are_within.true))

pub returns : goal.returns
returns c = λ us. λ are. λ knows. λ sums.
    sym (by_sums us c.args.sums.now (length c.args.units.now) c.args.linkage.now _ (starts us c.args.units.now are ∙ sym c.some_starts.ensures ∙ c.if-not-some_starts.false)
    (sym (as_many unit_flat c.args.units.now us are)) knows sums (sym c.are_within.ensures ∙ c.if-not-are_within.false))
