use Rattle.cmm_effects.proofs.Places.{kept_is_reachable, kept_is_read, put_is_read}
use Rattle.cmm_effects.proofs.laws.places_are_read.Goals as goal

pub returns-clause-put : goal.returns-clause-put
returns-clause-put c = put_is_read

pub returns-clause-kept : goal.returns-clause-kept
returns-clause-kept c = kept_is_read

pub returns-clause-reachable : goal.returns-clause-reachable
returns-clause-reachable c = kept_is_reachable
