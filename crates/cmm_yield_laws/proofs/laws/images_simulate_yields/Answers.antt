use Rattle.cmm_yield_laws.proofs.Simulating.{images_simulate_yields}
use Rattle.cmm_yield_laws.proofs.laws.images_simulate_yields.Goals as goal

pub returns : goal.returns
returns c = images_simulate_yields c.switches_lead.ensures c.what_is_seen_lasts.ensures.line
