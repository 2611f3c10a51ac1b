use Rattle.cmm_command.proofs.Simple.{elf_simple}
use Rattle.cmm_command.proofs.words.elf.Goals as goal

pub two_files-requires : goal.two_files-requires
two_files-requires c = elf_simple _ c.in_ok-elf.ensures
