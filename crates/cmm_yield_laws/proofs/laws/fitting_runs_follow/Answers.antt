use Rattle.cmm_yield_laws.proofs.Composing.{fitting_runs_follow}
use Rattle.cmm_yield_laws.proofs.laws.fitting_runs_follow.Goals as goal

pub returns : goal.returns
returns c = fitting_runs_follow c.every_state_is_sound.ensures
