use Rattle.cmm_top_laws.proofs.Accepting.{accepted_generated_unit_runs}
use Rattle.cmm_top_laws.proofs.accepted.accepted_generated_unit_is_run.Goals as goal

pub returns : goal.returns
returns c = accepted_generated_unit_runs c.units_mean_one_thing.ensures.not_both
