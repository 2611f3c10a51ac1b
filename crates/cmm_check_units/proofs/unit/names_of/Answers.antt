use Rattle.std.proofs.Common.{◌∙◌, map, ap}
use Rattle.cmm_symbols.specs.Shown.{shown}
use Rattle.cmm_check_units.proofs.Numbering.{flat_of}
use Rattle.cmm_check_units.proofs.unit.names_of.Goals as goal

pub returns : goal.returns
returns c =
    flat_of c.args.first.procedures c.args.first.labels c.args.unit.now c.in_ok-flat.flat c.things.result.now c.things-2.result.now (map shown c.in_ok-table.table.declared)
    (map (λ e. e.now) c.in_ok-exports.exports) c.in_ok-flat.ensures c.things.ensures c.things-2.ensures
    (ap (map shown) c.in_ok-table.ensures.declared ∙ c.in_ok-declared.ensures) c.in_ok-exports.ensures
