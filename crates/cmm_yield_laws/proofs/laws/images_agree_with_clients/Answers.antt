use Rattle.cmm_image_machine.proofs.Shared.{images_last}
use Rattle.cmm_yield_laws.proofs.Agreeing.{images_agree_with_clients, lines_are_logged}
use Rattle.cmm_yield_laws.proofs.laws.images_agree_with_clients.Goals as goal

pub returns-clause-agrees : goal.returns-clause-agrees
returns-clause-agrees c = images_agree_with_clients c.switches_lead.ensures c.what_is_seen_lasts.ensures.line images_last c.every_state_is_sound.ensures c.what_is_seen_lasts.ensures.last

pub returns-clause-lines : goal.returns-clause-lines
returns-clause-lines c = lines_are_logged c.switches_lead.ensures c.what_is_seen_lasts.ensures.line images_last c.every_state_is_sound.ensures c.what_is_seen_lasts.ensures.last
