use Rattle.cmm_top_laws.proofs.Accepting.{accepted_units_run, accepted_units_run_with_scripts}
use Rattle.cmm_top_laws.proofs.accepted.accepted_units_are_run.Goals as goal

pub returns-clause-run : goal.returns-clause-run
returns-clause-run c = accepted_units_run c.units_mean_one_thing.ensures.not_both

pub returns-clause-scripts : goal.returns-clause-scripts
returns-clause-scripts c = accepted_units_run_with_scripts c.units_mean_one_thing.ensures.not_both c.bytes_mean_one_thing.ensures.not_both
