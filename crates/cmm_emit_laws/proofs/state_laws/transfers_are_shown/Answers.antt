use Rattle.cmm_emit_laws.proofs.Carrying.{given_shows}
use Rattle.cmm_emit_laws.proofs.Leaving.{called_shows, cut_shows}
use Rattle.cmm_emit_laws.proofs.state_laws.transfers_are_shown.Goals as goal

pub returns-clause-values : goal.returns-clause-values
returns-clause-values c = λ y rest s m h store values address_of operands t u is_for gives is_given shows. given_shows y rest s m is_for h store values address_of operands t u gives is_given shows

pub returns-clause-calls : goal.returns-clause-calls
returns-clause-calls c = called_shows

pub returns-clause-cuts : goal.returns-clause-cuts
returns-clause-cuts c = cut_shows
