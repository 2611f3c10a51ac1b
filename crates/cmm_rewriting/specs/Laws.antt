-- What is rewritten is simulated: the C-- machine is a rewriting of itself, in which nothing is passed over and no chain is added.
use Rattle.std.specs.Prelude.{◌≡◌}
use Rattle.cmm_machine_laws.specs.Observed.{machine_of}
use Rattle.cmm_program.specs.State.{Setting}
use Rattle.cmm_program.specs.Todo.{todo_control}
use Rattle.cmm_simulation.specs.Simulation.{SimulatesLazily}
use Rattle.cmm_rewriting.specs.States.{TogetherAt}

abbrev pub MachineIsItself : Type 0
MachineIsItself = (s : Setting) → let m = machine_of (todo_control s.program) s in
    SimulatesLazily m (λ _. 1) m (λ _. 1) 1 (TogetherAt (λ store c d. d ≡ c) (λ c d. d ≡ c) (λ st. Unit {0}) (λ c. 0))
