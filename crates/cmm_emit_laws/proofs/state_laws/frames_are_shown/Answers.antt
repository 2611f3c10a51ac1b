use Rattle.cmm_emit_laws.proofs.Leaving.{left_shows}
use Rattle.cmm_emit_laws.proofs.Making.{made_shows}
use Rattle.cmm_emit_laws.proofs.state_laws.frames_are_shown.Goals as goal

pub returns-clause-come : goal.returns-clause-come
returns-clause-come c = λ y rest s m plan q h store carried a room address_of landings t u is_for is_made sound makes shows.
    made_shows y rest s m is_for plan q h store carried a room address_of landings t u is_made sound.registers makes shows

pub returns-clause-go : goal.returns-clause-go
returns-clause-go c = λ y rest s m plan q h store carried a older t u is_for youngest size saves leaves shows.
    left_shows y rest s m is_for plan q h store carried a older t u youngest size saves leaves shows
