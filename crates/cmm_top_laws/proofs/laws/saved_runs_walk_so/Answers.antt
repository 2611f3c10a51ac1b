use Rattle.cmm_top_laws.proofs.Snapshots.{saved_runs_walk_so}
use Rattle.cmm_top_laws.proofs.laws.saved_runs_walk_so.Goals as goal

pub returns : goal.returns
returns c = saved_runs_walk_so c.bytes_mean_one_thing.ensures.one c.snapshots_walk_so.ensures
