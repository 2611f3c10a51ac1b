use Rattle.cmm_program.specs.Machine.{start}
use Rattle.cmm_program.specs.Todo.{todo_control}
use Rattle.cmm_machine_laws.proofs.Growing.{step_grows, steps_grow}
use Rattle.cmm_machine_laws.proofs.runs.what_was_seen_grows.Goals as goal

pub returns-clause-step : goal.returns-clause-step
returns-clause-step c = λ s. step_grows (todo_control s.program) s

pub returns-clause-run : goal.returns-clause-run
returns-clause-run c = λ s input m n. steps_grow (todo_control s.program) s m n (start s input)
