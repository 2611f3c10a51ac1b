use Rattle.cmm_elf.proofs.WritingLaws.{from_parts, written_so}
use Rattle.cmm_elf.proofs.writing.write_elf.Goals as goal

pub returns : goal.returns
returns c =
    written_so c.args.image.now c.put_elf.new.out.items c.parts.ensures.kept
    (from_parts c.args.image.now c.parts.result.now c.new-out.result.items c.put_elf.new.out.items c.parts.ensures.same c.new-out.ensures.items c.in_ok-put_elf.ensures)
