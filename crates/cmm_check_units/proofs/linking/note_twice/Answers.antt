use Rattle.cmm_check_units.proofs.Links.{links_step, twice_step}
use Rattle.cmm_check_units.proofs.linking.note_twice.Goals as goal

pub loop-export-preserved : goal.loop-export-preserved
loop-export-preserved c = (
  λ before. λ are.
      links_step (λ e. e.now) c.loop-export.earlier c.add.new.self before c.args.exports.now c.loop-export.export-index c.export-item.result c.export_link.result.now
      c.loop-export-test.true c.export-item.is c.export_link.ensures (c.loop-export.invariant.0 before are) c.in_ok-new.ensures.names,
  λ before. λ are.
      twice_step (λ e. e.now) c.loop-export.earlier c.args.best.now c.loop-export.best c.unless.new.best before c.args.exports.now c.loop-export.export-index c.export-item.result
      c.export_link.result.now c.in_ok-new.new c.loop-export-test.true c.export-item.is c.export_link.ensures (c.loop-export.invariant.0 before are)
      c.in_ok-new.ensures.new (c.loop-export.invariant.1 before are) c.unless.ensures,
)
