use Rattle.cmm_snapshot.proofs.StateLaws.{snapshots_keep_states}
use Rattle.cmm_snapshot.proofs.laws.snapshots_keep_states.Goals as goal

pub returns : goal.returns
returns c = snapshots_keep_states
