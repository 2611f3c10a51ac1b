use Rattle.cmm_emit_laws.proofs.Beginning.{code_begins, images_follow_located_runs}
use Rattle.cmm_emit_laws.proofs.laws.images_follow_located_runs.Goals as goal

pub returns-clause-begins : goal.returns-clause-begins
returns-clause-begins c = code_begins

pub returns-clause-follows : goal.returns-clause-follows
returns-clause-follows c = images_follow_located_runs c.switches_lead.ensures
