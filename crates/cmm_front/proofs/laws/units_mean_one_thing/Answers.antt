use Rattle.cmm_front.proofs.Meanings.{never_both, one_fault, one_program}
use Rattle.cmm_front.proofs.laws.units_mean_one_thing.Goals as goal

pub returns-clause-program : goal.returns-clause-program
returns-clause-program c = one_program c.units_are_one.ensures

pub returns-clause-fault : goal.returns-clause-fault
returns-clause-fault c = one_fault c.units_are_one.ensures c.units_have_one_answer.ensures

pub returns-clause-not_both : goal.returns-clause-not_both
returns-clause-not_both c = never_both c.units_are_one.ensures c.units_have_one_answer.ensures
