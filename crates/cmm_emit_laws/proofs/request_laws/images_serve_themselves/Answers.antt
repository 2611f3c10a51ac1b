use Rattle.cmm_emit_laws.proofs.Itself.{steps_are_done, images_simulate_themselves}
use Rattle.cmm_emit_laws.proofs.request_laws.images_serve_themselves.Goals as goal

pub returns-clause-done : goal.returns-clause-done
returns-clause-done c = steps_are_done

pub returns-clause-simulates : goal.returns-clause-simulates
returns-clause-simulates c = images_simulate_themselves
