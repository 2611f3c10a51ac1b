use Rattle.rv_table.proofs.Decodes.{instr_of-is}
use Rattle.rv_table.proofs.Encodes.{word_of-lt}
use Rattle.rv_table.proofs.laws.words_and_instructions.Goals as goal

pub returns-clause-exact : goal.returns-clause-exact
returns-clause-exact c = instr_of-is

pub returns-clause-fit : goal.returns-clause-fit
returns-clause-fit c = word_of-lt
