use Rattle.std.proofs.Common.{◌+◌, ◌||◌, map, drop, sym, ap, ◌∙◌}
use Rattle.cmm_static_semantics.specs.Linking.{starts}
use Rattle.cmm_check_units.specs.inside.Flat.{some_starts}
use Rattle.cmm_symbols.specs.Shown.{shown}
use Rattle.cmm_check_units.specs.inside.Units.{unit_flat}
use Rattle.cmm_static_semantics.proofs.Shared.{rest_next}
use Rattle.cmm_check_units.proofs.together.some_starts.Goals as goal

pub loop-unit-preserved : goal.loop-unit-preserved
loop-unit-preserved c =
    sym (ap some_starts (rest_next unit_flat c.args.units.now c.loop-unit.unit-index c.unit-item.result c.loop-unit-test.true c.unit-item.is)
    ∙ ap (λ b. b || some_starts (map unit_flat (drop (c.loop-unit.unit-index + 1) c.args.units.now)))
    (sym (c.starts.ensures ∙ ap (λ es. starts (map shown c.unit-item.result.table.declared) (map (λ e. e.now) es)) c.as_slice.ensures) ∙ c.if-starts.false))
    ∙ c.loop-unit.invariant

pub returns-then-starts : goal.returns-then-starts
returns-then-starts c =
    sym (sym c.loop-unit.invariant
    ∙ ap some_starts (rest_next unit_flat c.args.units.now c.loop-unit.unit-index c.unit-item.result c.loop-unit-test.true c.unit-item.is)
    ∙ ap (λ b. b || some_starts (map unit_flat (drop (c.loop-unit.unit-index + 1) c.args.units.now)))
    (sym (c.starts.ensures ∙ ap (λ es. starts (map shown c.unit-item.result.table.declared) (map (λ e. e.now) es)) c.as_slice.ensures) ∙ c.if-starts.true))
