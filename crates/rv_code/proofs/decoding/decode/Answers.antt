use Rattle.rv_table.proofs.Shared.{instr_of-is, instr_of-none}
use Rattle.rv_code.proofs.decoding.decode.Goals as goal

pub returns-clause-exact : goal.returns-clause-exact
returns-clause-exact c = rw c.read_word.ensures (λ i. instr_of-is c.args.word i c.ranges.word.fits)

pub returns-clause-none : goal.returns-clause-none
returns-clause-none c = rw c.read_word.ensures (instr_of-none c.args.word c.ranges.word.fits)
