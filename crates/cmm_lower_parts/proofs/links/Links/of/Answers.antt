use Rattle.cmm_lower_parts.specs.Exported.{links_at}
use Rattle.cmm_lower_parts.proofs.Linking.{links_next}
use Rattle.cmm_lower_parts.proofs.links.Links.of.Goals as goal

pub loop-export-preserved : goal.loop-export-preserved
loop-export-preserved c = λ x.
    links_next x c.args.exports.now c.loop-export.export-index c.export-item.result c.as_bytes-name.result.now c.export_link.result.now
    (links_at c.loop-export.table x) (links_at c.add_link.new.table x) c.loop-export-test.true c.export-item.is c.as_bytes-name.ensures c.export_link.ensures
    (c.in_ok-add_link.ensures x) (c.loop-export.invariant x)
