use Rattle.cmm_static_semantics.specs.Typing.{of_memory}
use Rattle.cmm_typing.proofs.Aligning.{in_program}
use Rattle.cmm_typing.proofs.judging.resolve_memory.Goals as goal

pub returns-clause-in_program : goal.returns-clause-in_program
returns-clause-in_program g c = in_program (g.N.Names.senses c.args.names.now) c.judge_memory.result (of_memory 0 c.args.memory.now) c.judge_memory.ensures.value
