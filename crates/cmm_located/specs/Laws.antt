-- What holds of states of the located machine and of the machine over graphs that stand for one another.
use Rattle.std.specs.Prelude.{◌≡◌, ℕ, length, Some}
use Rattle.cmm_program.specs.declared.procedure.Proc.{Proc}
use Rattle.cmm_program.specs.Control.{State}
use Rattle.cmm_program.specs.Frames.{procedure_at}
use Rattle.cmm_program.specs.State.{Setting}
use Rattle.cmm_simulation.specs.Observing.{Level}
use Rattle.cmm_machine_laws.specs.Observed.{machine_of}
use Rattle.cmm_graph.specs.GraphControl.{Position, graph_control}
use Rattle.cmm_located.specs.Compiled.{Compiled, Located}
use Rattle.cmm_located.specs.LocatedMachine.{located_machine}
use Rattle.cmm_located.specs.Relation.{Liveness, Related, variable_count}
use Rattle.cmm_located.specs.ShownWalks.{KnowsLive}

-- each graph has the variables of its procedure
abbrev pub HasVariables : Setting → Compiled → Type 0
HasVariables s c = (q : ℕ) (p : Proc) → procedure_at s q ≡ Some p → variable_count c.graphs q ≡ length p.vars

-- Related states are level: the same has been seen of both, they are wrong together, and they wait for the client with the same values
-- and the same walk, or are over with the same ending.
abbrev pub RelatedAreLevel : Type 0
RelatedAreLevel = (s : Setting) (c : Compiled) (live : Liveness) (st : State Position) (at : Located) → HasVariables s c → KnowsLive s c →
    Related s c live st at → Level (machine_of (graph_control c.graphs) s) (located_machine s c) st at
