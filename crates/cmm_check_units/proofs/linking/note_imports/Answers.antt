use Rattle.cmm_static_semantics.specs.Linking.{import_spots}
use Rattle.cmm_linkage.specs.Exports.{exported_links}
use Rattle.cmm_symbols.specs.Shown.{shown}
use Rattle.cmm_static_semantics.proofs.Shared.{noted_next_of}
use Rattle.cmm_check_units.proofs.linking.note_imports.Goals as goal

pub loop-named-preserved : goal.loop-named-preserved
loop-named-preserved c = rw (c.note_import.ensures, c.loop-named.invariant)
    (noted_next_of shown (import_spots (exported_links c.args.linkage.now)) c.args.best.now c.args.declared.now c.loop-named.named-index c.named-item.result c.loop-named-test.true c.named-item.is)
