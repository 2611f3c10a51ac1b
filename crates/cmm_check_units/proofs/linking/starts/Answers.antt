use Rattle.std.proofs.Common.{◌+◌, ◌||◌, map, drop, sym, ap, ◌∙◌}
use Rattle.cmm_static_semantics.specs.Linking.{starts}
use Rattle.cmm_symbols.specs.Shown.{shown}
use Rattle.cmm_static_semantics.proofs.Shared.{rest_next}
use Rattle.cmm_check_units.proofs.linking.starts.Goals as goal

pub loop-export-preserved : goal.loop-export-preserved
loop-export-preserved c =
    let ds = map shown c.args.table.now.declared in
    sym (ap (starts ds) (rest_next (λ e. e.now) c.args.exports.now c.loop-export.export-index c.export-item.result c.loop-export-test.true c.export-item.is)
    ∙ ap (λ b. b || starts ds (map (λ e. e.now) (drop (c.loop-export.export-index + 1) c.args.exports.now))) (sym c.is_main.ensures ∙ c.if-is_main.false))
    ∙ c.loop-export.invariant

pub returns-then-is_main : goal.returns-then-is_main
returns-then-is_main c =
    let ds = map shown c.args.table.now.declared in
    sym (sym c.loop-export.invariant
    ∙ ap (starts ds) (rest_next (λ e. e.now) c.args.exports.now c.loop-export.export-index c.export-item.result c.loop-export-test.true c.export-item.is)
    ∙ ap (λ b. b || starts ds (map (λ e. e.now) (drop (c.loop-export.export-index + 1) c.args.exports.now))) (sym c.is_main.ensures ∙ c.if-is_main.true))
