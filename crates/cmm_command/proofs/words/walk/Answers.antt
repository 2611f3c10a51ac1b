use Rattle.cmm_command.proofs.Simple.{walk_simple}
use Rattle.cmm_command.proofs.words.walk.Goals as goal

pub two_files-requires : goal.two_files-requires
two_files-requires c = walk_simple _ c.in_ok-walk.ensures
