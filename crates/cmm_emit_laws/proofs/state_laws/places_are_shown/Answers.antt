use Rattle.cmm_emit_laws.proofs.Reading.{held_is_read, place_is_reachable}
use Rattle.cmm_emit_laws.proofs.state_laws.places_are_shown.Goals as goal

pub returns-clause-read : goal.returns-clause-read
returns-clause-read c = λ y rest s m h store carried a older t is_for youngest shows. held_is_read y rest s m is_for h store carried a older t youngest shows

pub returns-clause-reached : goal.returns-clause-reached
returns-clause-reached c = λ y rest s m h store carried a older t is_for youngest shows. place_is_reachable y rest s m is_for h store carried a older t youngest shows
