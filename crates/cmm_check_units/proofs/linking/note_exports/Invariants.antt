use Rattle.std.proofs.Common.{◌≡◌, map, take}
use Rattle.std.specs.Prelude.{flat_map}
use Rattle.cmm_static_semantics.specs.Spots.{first_of}
use Rattle.cmm_static_semantics.specs.Linking.{export_spots}
use Rattle.cmm_symbols.specs.Shown.{shown}
use Rattle.cmm_check_units.proofs.linking.note_exports.Given as goal

abbrev pub invariant-loop-export : goal.invariant-loop-export
invariant-loop-export l = l.best ≡ first_of l.fn.best (flat_map (export_spots (map shown l.table.declared)) (map (λ e. e.now) (take l.export-index l.exports)))
