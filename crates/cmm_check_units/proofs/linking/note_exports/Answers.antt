use Rattle.std.proofs.Common.{map}
use Rattle.cmm_static_semantics.specs.Linking.{export_spots}
use Rattle.cmm_symbols.specs.Shown.{shown}
use Rattle.cmm_static_semantics.proofs.Shared.{noted_next_of}
use Rattle.cmm_check_units.proofs.linking.note_exports.Goals as goal

pub loop-export-preserved : goal.loop-export-preserved
loop-export-preserved c = rw (c.unless.ensures, c.has_address.ensures, c.entry_of-entry.ensures, c.loop-export.invariant)
    (noted_next_of (λ e. e.now) (export_spots (map shown c.args.table.now.declared)) c.args.best.now c.args.exports.now c.loop-export.export-index c.export-item.result c.loop-export-test.true c.export-item.is)
