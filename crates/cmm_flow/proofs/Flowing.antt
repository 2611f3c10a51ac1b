-- The laws: runs over the graphs of a program are runs of the C-- machine.
use Rattle.std.proofs.Common.{◌≡◌, ℕ, ◌+◌, List, subst, arith}
use Rattle.cmm_simulation.proofs.Agreements.{agrees_lazily}
use Rattle.cmm_simulation.proofs.Followings.{follows_of_simulates}
use Rattle.cmm_simulation.specs.Simulation.{Simulates}
use Rattle.cmm_machine_laws.proofs.Shared.{machine_lasts, starts_right}
use Rattle.cmm_machine_laws.specs.Fitting.{ExpressionsFit, IsSetUp, StatesAreSound}
use Rattle.cmm_machine_laws.specs.Observed.{machine_of}
use Rattle.cmm_program.specs.Control.{State}
use Rattle.cmm_program.specs.State.{Setting}
use Rattle.cmm_program.specs.Todo.{todo_control}
use Rattle.cmm_graph.specs.declared.graph.Graph.{Graph}
use Rattle.cmm_graph.specs.GraphControl.{Position, graph_control}
use Rattle.cmm_graph.specs.GraphMachine.{tokens_of_youngest}
use Rattle.cmm_flow.specs.Laws.{AreCosts, AreFlows, FlowAgrees, FlowFollows, FlowFollowsAt, FlowSimulates, FlowSimulatesAt}
use Rattle.cmm_flow.specs.Relation.{SoundlyRelated, longest}
use Rattle.cmm_flow.proofs.Counting.{longest_positive}
use Rattle.cmm_flow.proofs.Simulating.{run_simulates, starts_related}
use Rattle.cmm_flow.proofs.Steps.{Run}

-- a run at these costs
at_costs : (s : Setting) (graphs : List Graph) (cost : State Position → ℕ) (more : ℕ) → AreCosts s graphs cost more → Run
at_costs s graphs cost more costs = record { graphs = graphs; setting = s; cost = cost; more = more; costs = costs }

pub flow_simulates_at : StatesAreSound → ExpressionsFit → FlowSimulatesAt
unfolding at_costs
flow_simulates_at sound fit s graphs cost more set flows costs = run_simulates sound fit (at_costs s graphs cost more costs) set flows

pub flow_follows_at : StatesAreSound → ExpressionsFit → FlowFollowsAt
unfolding at_costs
flow_follows_at sound fit s graphs input cost more set bytes flows costs =
    follows_of_simulates (flow_simulates_at sound fit s graphs cost more set flows costs)
    (starts_related sound fit (at_costs s graphs cost more costs) set flows input bytes)

-- nothing is dearer
abbrev simulates_for : StatesAreSound → ExpressionsFit → (s : Setting) (graphs : List Graph) (cost : State Position → ℕ) → IsSetUp s → AreFlows s graphs →
    AreCosts s graphs cost 0 →
    Simulates (machine_of (todo_control s.program) s) (λ _. longest s.program) (machine_of (graph_control graphs) s) cost (SoundlyRelated s graphs)
simulates_for sound fit s graphs cost set flows costs =
    let same : longest s.program + 0 ≡ longest s.program = omega arith in
    subst (λ n. Simulates (machine_of (todo_control s.program) s) (λ _. n) (machine_of (graph_control graphs) s) cost (SoundlyRelated s graphs)) same
    (flow_simulates_at sound fit s graphs cost 0 set flows costs)

-- each node at the cost of its tokens, and every step at the same cost
by_tokens : (s : Setting) (graphs : List Graph) → AreCosts s graphs (tokens_of_youngest graphs) 0
by_tokens s graphs = record { leading = λ st runs leads. omega arith; running = λ st runs. omega arith; resting = λ st. omega arith }

by_steps : (s : Setting) (graphs : List Graph) → AreCosts s graphs (λ _. 1) 0
by_steps s graphs = record {
  leading = λ st runs leads. omega arith;
  running = λ st runs. omega arith;
  resting = λ st. (let least = longest_positive s.program.procs in omega arith);
}

pub flow_simulates : StatesAreSound → ExpressionsFit → FlowSimulates
flow_simulates sound fit s graphs set flows = simulates_for sound fit s graphs (tokens_of_youngest graphs) set flows (by_tokens s graphs)

pub flow_follows : StatesAreSound → ExpressionsFit → FlowFollows
unfolding at_costs
flow_follows sound fit s graphs input set bytes flows =
    follows_of_simulates (flow_simulates sound fit s graphs set flows)
    (starts_related sound fit (at_costs s graphs (tokens_of_youngest graphs) 0 (by_tokens s graphs)) set flows input bytes)

pub flow_agrees : StatesAreSound → ExpressionsFit → FlowAgrees
unfolding at_costs
flow_agrees sound fit s graphs input set bytes flows =
    agrees_lazily (machine_lasts (todo_control s.program) s) (machine_lasts (graph_control graphs) s)
    (starts_right (todo_control s.program) s input)
    (follows_of_simulates (simulates_for sound fit s graphs (λ _. 1) set flows (by_steps s graphs))
    (starts_related sound fit (at_costs s graphs (λ _. 1) 0 (by_steps s graphs)) set flows input bytes))
