use Rattle.std.proofs.Common.{subst}
use Rattle.cmm_format.proofs.Shared.{long-breaks}
use Rattle.cmm_snapshot.specs.Snapshots.{snapshot_ends}
use Rattle.cmm_snapshot.specs.declared.reading.TheConstants.{SNAPSHOT_LIMIT}
use Rattle.cmm_work.specs.declared.reading.FileBytes.{FileBytes}
use Rattle.cmm_work.specs.Reading.{IsFileOf}
use Rattle.cmm_work.proofs.walking.halted_of.Goals as goal

pub returns-in-TooLong-clause-err : goal.returns-in-TooLong-clause-err
returns-in-TooLong-clause-err c = λ bytes is. long-breaks snapshot_ends bytes (subst (λ (r : FileBytes). IsFileOf SNAPSHOT_LIMIT bytes r) c.in-TooLong.is is)
