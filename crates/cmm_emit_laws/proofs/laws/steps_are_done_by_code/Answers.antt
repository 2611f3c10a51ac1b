use Rattle.cmm_emit_laws.proofs.Stepping.{ends_are_represented, steps_are_done_by_code}
use Rattle.cmm_emit_laws.proofs.laws.steps_are_done_by_code.Goals as goal

pub returns-clause-steps : goal.returns-clause-steps
returns-clause-steps c = steps_are_done_by_code c.switches_lead.ensures

pub returns-clause-ends : goal.returns-clause-ends
returns-clause-ends c = ends_are_represented
