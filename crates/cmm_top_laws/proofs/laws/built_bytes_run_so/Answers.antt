use Rattle.cmm_top_laws.proofs.Calling.{built_bytes_run_so}
use Rattle.cmm_top_laws.proofs.laws.built_bytes_run_so.Goals as goal

pub returns : goal.returns
returns c = built_bytes_run_so c.bytes_mean_one_thing.ensures.one
