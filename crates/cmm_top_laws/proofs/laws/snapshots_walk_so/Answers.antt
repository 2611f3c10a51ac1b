use Rattle.cmm_top_laws.proofs.Snapshots.{snapshots_walk_so}
use Rattle.cmm_top_laws.proofs.laws.snapshots_walk_so.Goals as goal

pub returns : goal.returns
returns c = snapshots_walk_so c.bytes_mean_one_snapshot.ensures.one c.snapshots_keep_states.ensures
