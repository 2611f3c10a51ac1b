use Rattle.cmm_top_laws.proofs.Calling.{built_files_run_so}
use Rattle.cmm_top_laws.proofs.laws.built_files_run_so.Goals as goal

pub returns : goal.returns
returns c = built_files_run_so c.built_bytes_run_so.ensures
