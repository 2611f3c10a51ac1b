use Rattle.std.specs.Prelude.{slice_index}
use Rattle.cmm_link.proofs.Codes.{filled_more}
use Rattle.cmm_link.proofs.filling.fill_all.Goals as goal

pub loop-fix-preserved : goal.loop-fix-preserved
loop-fix-preserved c =
    filled_more c.fixes_in_turn.ensures (λ q. slice_index c.args.codes.now q) c.args.fixes.now c.loop-fix.fix-index _ c.args.bytes.now.items c.loop-fix.bytes.items
    c.fill.new.bytes.items c.address_of.result c.loop-fix-test.true c.requires c.address_of.ensures c.loop-fix.invariant.0 c.loop-fix.invariant.1 c.fill.ensures
