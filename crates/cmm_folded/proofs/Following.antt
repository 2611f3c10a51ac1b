-- Runs over folded flows follow runs of the C-- machine, since they are runs over the flows.
use Rattle.std.proofs.Common.{◌≡◌, ℕ, ◌+◌, refl, sym, ◌∙◌, ap, subst, arith, Bool, false, List, [], ◌∷◌, is_some}
use Rattle.std.specs.List.{AllZip}
use Rattle.cmm_simulation.specs.Following.{Follows}
use Rattle.cmm_machine_laws.specs.Observed.{machine_of}
use Rattle.cmm_program.specs.declared.procedure.Proc.{Proc}
use Rattle.cmm_program.specs.Control.{State}
use Rattle.cmm_program.specs.Machine.{start}
use Rattle.cmm_program.specs.State.{Setting}
use Rattle.cmm_program.specs.Todo.{todo_control}
use Rattle.cmm_graph.specs.declared.graph.Graph.{Graph}
use Rattle.cmm_graph.specs.Acting.{led}
use Rattle.cmm_graph.specs.GraphControl.{Position, graph_control, kind_here}
use Rattle.cmm_graph.specs.GraphMachine.{graph_start, tokens_of_youngest}
use Rattle.cmm_fold.specs.Graphs.{GraphStandsFor}
use Rattle.cmm_flow.specs.Flow.{HasTokens, IsFlow}
use Rattle.cmm_flow.specs.Laws.{AnswersAreFlows, AreCosts, AreFlows, FlowFollowsAt, leads_on}
use Rattle.cmm_flow.specs.Relation.{longest}
use Rattle.cmm_folded.specs.Flow.{IsFoldedFlow}
use Rattle.cmm_folded.specs.Laws.{FoldedFlowsFollow, FoldedFlowsHaveTokens}
use Rattle.cmm_folded.proofs.Counts.{tokens_after}
use Rattle.cmm_folded.proofs.Machines.{folded_graphs_do_the_same, kind_stands}
use Rattle.cmm_folded.proofs.Nodes.{kind_same}

-- the flows of which graphs are the folded ones
record AreFolded (procs : List Proc) (graphs : List Graph) : Type 0 where
  flows : List Graph
  are : AllZip IsFlow procs flows
  stand : AllZip GraphStandsFor flows graphs

folded_of : (procs : List Proc) (graphs : List Graph) → AllZip IsFoldedFlow procs graphs → AreFolded procs graphs
folded_of [] [] all = record { flows = []; are = tt; stand = tt }
folded_of [] (g ∷ graphs) all = absurd all
folded_of (q ∷ procs) [] all = absurd all
folded_of (q ∷ procs) (g ∷ graphs) all =
    let rest = folded_of procs graphs all.1 in
    record { flows = all.0.flow ∷ rest.flows; are = (all.0.is_flow, rest.are); stand = (all.0.stands, rest.stand) }

all_tokens_after : (procs : List Proc) (flows graphs : List Graph) → AllZip HasTokens procs flows → AllZip GraphStandsFor flows graphs → AllZip HasTokens procs graphs
all_tokens_after [] [] [] have stand = tt
all_tokens_after [] [] (g ∷ graphs) have stand = absurd stand
all_tokens_after [] (f ∷ flows) graphs have stand = absurd have
all_tokens_after (q ∷ procs) [] graphs have stand = absurd have
all_tokens_after (q ∷ procs) (f ∷ flows) [] have stand = absurd stand
all_tokens_after (q ∷ procs) (f ∷ flows) (g ∷ graphs) have stand = (tokens_after q f g stand.0 have.0, all_tokens_after procs flows graphs have.1 stand.1)

-- ---- costs

module _ (s : Setting) (old new : List Graph) (stand : AllZip GraphStandsFor old new) where
  leads_same : (st : State Position) → leads_on new st ≡ leads_on old st
  leads_same st = by st.controls
    where
      by : (cs : List Position) →
          ◌≡◌ {A = Bool} (elim cs [ [] ↦ false | c ∷ _ ↦ is_some (led 0 (kind_here new c)) ]) (elim cs [ [] ↦ false | c ∷ _ ↦ is_some (led 0 (kind_here old c)) ])
      by [] = refl
      by (c ∷ cs) =
          ap (λ o. is_some o)
          (kind_same (led 0) (λ to value folded next. refl) (kind_here old c) (kind_here new c) (kind_stands old new stand c.procedure c.node))

  costs_before : (cost : State Position → ℕ) (more : ℕ) → AreCosts s new cost more → AreCosts s old cost more
  costs_before cost more are = record {
    leading = λ st running leads. (let same = tokens st in let bound = are.leading st running (leads_same st ∙ leads) in omega (arith, same, bound));
    running = λ st running. (let same = tokens st in let bound = are.running st running in omega (arith, same, bound));
    resting = λ st. (let same = tokens st in let bound = are.resting st in omega (arith, same, bound));
  }
    where
      tokens : (st : State Position) → tokens_of_youngest new st ≡ tokens_of_youngest old st
      tokens st = ap (λ f. f st) (folded_graphs_do_the_same s old new stand).costs

-- ---- whole runs

pub folded_flows_have_tokens : AnswersAreFlows → FoldedFlowsHaveTokens
folded_flows_have_tokens law p graphs range all =
    let of = folded_of p.procs graphs all in
    let s : Setting = record { program = p; placement = record { rows = [] }; stack_base = 0; stack_size = 0; script = record { blocks = [] } } in
    all_tokens_after p.procs of.flows graphs (law s of.flows range of.are).tokens of.stand

pub folded_flows_follow : FlowFollowsAt → AnswersAreFlows → FoldedFlowsFollow
folded_flows_follow follows law s graphs input cost more set bytes all costs =
    let of = folded_of s.program.procs graphs all in
    let same = folded_graphs_do_the_same s of.flows graphs of.stand in
    let flows : AreFlows s of.flows = law s of.flows set.program of.are in
    let run = follows s of.flows input cost more set bytes flows (costs_before s of.flows graphs of.stand cost more costs) in
    let begins = ap (λ f. f input) same.start in
    subst (λ m. Follows (machine_of (todo_control s.program) s) (λ _. longest s.program + more) m cost (start s input) (graph_start graphs s input)) (sym same.machine)
    (subst (λ t. Follows (machine_of (todo_control s.program) s) (λ _. longest s.program + more) (machine_of (graph_control of.flows) s) cost (start s input) t) (sym begins) run)
