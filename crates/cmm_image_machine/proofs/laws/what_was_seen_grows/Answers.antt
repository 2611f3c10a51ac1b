use Rattle.cmm_image_machine.proofs.Growing.{step_grows, run_grows}
use Rattle.cmm_image_machine.proofs.laws.what_was_seen_grows.Goals as goal

pub returns-clause-step : goal.returns-clause-step
returns-clause-step c = step_grows

pub returns-clause-run : goal.returns-clause-run
returns-clause-run c = run_grows
