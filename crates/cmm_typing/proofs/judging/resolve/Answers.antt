use Rattle.cmm_typing.proofs.Aligning.{in_program}
use Rattle.cmm_typing.proofs.judging.resolve.Goals as goal

pub returns-clause-in_program : goal.returns-clause-in_program
returns-clause-in_program g c = in_program (g.N.Names.senses c.args.names.now) c.judge_by.result c.args.e.now c.judge_by.ensures.value
