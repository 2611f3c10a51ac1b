use Rattle.cmm_command.proofs.Simple.{migrate_simple}
use Rattle.cmm_command.proofs.words.migrate.Goals as goal

pub two_files-requires : goal.two_files-requires
two_files-requires c = migrate_simple _ c.in_ok-migrate.ensures
