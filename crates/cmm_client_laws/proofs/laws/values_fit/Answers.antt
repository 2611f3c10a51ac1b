use Rattle.cmm_client_laws.proofs.Events.{sound_events_fit}
use Rattle.cmm_client_laws.proofs.Fits.{fitting_is_walked}
use Rattle.cmm_client_laws.proofs.laws.values_fit.Goals as goal

pub returns-clause-events : goal.returns-clause-events
returns-clause-events c = sound_events_fit

pub returns-clause-walked : goal.returns-clause-walked
returns-clause-walked c = fitting_is_walked
