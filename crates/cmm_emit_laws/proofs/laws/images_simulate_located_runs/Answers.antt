use Rattle.cmm_emit_laws.proofs.Simulating.{images_simulate_located_runs}
use Rattle.cmm_emit_laws.proofs.laws.images_simulate_located_runs.Goals as goal

pub returns : goal.returns
returns c = images_simulate_located_runs c.switches_lead.ensures
