use Rattle.std.proofs.Common.{◌∙◌}
use Rattle.cmm_snapshot.proofs.WritingLaws.{written-so}
use Rattle.cmm_snapshot.proofs.writing.write_snapshot.Goals as goal

pub returns : goal.returns
returns c =
    let put = c.in_ok-put_snapshot.ensures in
    written-so c.args.image.now c.args.regs.now c.args.memory.now put.held put.kept c.requires.initial c.requires.stack c.deref.result.now c.put_snapshot.new.out.items
    (c.deref.ensures.value ∙ c.in_ok-header.ensures) (rw c.new-out.ensures.items at put.bytes) put.fits
