use Rattle.rv_table.proofs.EffectFacts.{effects_are_done}
use Rattle.rv_table.proofs.Running.{instruction_step-standing, instruction_step-set, steps-add, straight_runs}
use Rattle.rv_table.proofs.laws.runs.Goals as goal

pub returns-clause-done : goal.returns-clause-done
returns-clause-done c = instruction_step-standing

pub returns-clause-set : goal.returns-clause-set
returns-clause-set c = instruction_step-set

pub returns-clause-effects : goal.returns-clause-effects
returns-clause-effects c = effects_are_done

pub returns-clause-join : goal.returns-clause-join
returns-clause-join c = steps-add

pub returns-clause-straight : goal.returns-clause-straight
returns-clause-straight c = straight_runs
