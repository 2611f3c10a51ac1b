use Rattle.cmm_top_laws.proofs.Accepting.{accepted_units_are_built}
use Rattle.cmm_top_laws.proofs.accepted.accepted_units_are_built.Goals as goal

pub returns : goal.returns
returns c = accepted_units_are_built c.units_mean_one_thing.ensures.not_both
