-- Located runs follow runs of the C-- machine: by way of the runs over graphs, at their costs.
use Rattle.std.proofs.Common.{◌≡◌, ℕ, ◌+◌, ◌<◌, ◌≤◌, max, Bool, true, false, Some, List, [], ◌∷◌, get_or, is_some, length, slice_get, refl, ap, sym, ◌∙◌, arith}
use Rattle.std.proofs.lemmas.List.{length-map}
use Rattle.std.proofs.lemmas.List.Elements.{All-head, All-tail}
use Rattle.std.proofs.lemmas.Option.{slice_get-get_or}
use Rattle.std.specs.List.{All, AllZip}
use Rattle.cmm_simulation.proofs.Composing.{lazily_trans}
use Rattle.cmm_program.specs.declared.procedure.Cont.{Cont}
use Rattle.cmm_program.specs.declared.procedure.Proc.{Proc}
use Rattle.cmm_program.specs.declared.program.Program.{Program}
use Rattle.cmm_program.specs.InRange.{IsProcInRange}
use Rattle.cmm_program.specs.Control.{State}
use Rattle.cmm_program.specs.Frames.{procedure_at}
use Rattle.cmm_program.specs.State.{Running, Setting, Status}
use Rattle.cmm_graph.specs.declared.graph.Graph.{Graph}
use Rattle.cmm_graph.specs.declared.node.NodeKind.{NodeKind}
use Rattle.cmm_graph.specs.declared.node.NodeKind.TheVariants.{Stop}
use Rattle.cmm_graph.specs.Acting.{led}
use Rattle.cmm_graph.specs.Counterpart.{parameter_targets, taken_at}
use Rattle.cmm_graph.specs.GraphControl.{Position, kind_here}
use Rattle.cmm_graph.specs.GraphMachine.{tokens_of_youngest}
use Rattle.cmm_located.specs.Compiled.{Compiled}
use Rattle.cmm_located.specs.LocatedMachine.{located_start}
use Rattle.cmm_located.specs.Simulating.{LocatedRunsFollowGraphs, step_cost}
use Rattle.cmm_located.specs.Steps.{kind_of_youngest, leads_on}
use Rattle.cmm_hoisted.specs.Flow.{IsHoistedFlow}
use Rattle.cmm_flow.specs.Laws as flow
use Rattle.cmm_hoisted.specs.Laws.{AreCostsWithin, FlowsWithinAreFewer, HoistedFlowsAreBounded, HoistedFlowsAreGraphs, HoistedFlowsFollow, HoistedFlowsHaveRoom}
use Rattle.cmm_flow.specs.Relation.{longest}
use Rattle.cmm_allocate.specs.Compiling.{compiled, live_before}
use Rattle.cmm_allocate.specs.Places.{CanBePlaced}
use Rattle.cmm_allocate.specs.Laws.{FlowsCanBePlaced, PlacesAreCompiled, PlacesAreShowable, LocatedRunsFollowPrograms, RunsBeginCheaply}

-- ---- room

can_be_placed : HoistedFlowsAreGraphs → HoistedFlowsAreBounded → HoistedFlowsHaveRoom → (program : Program) (p : Proc) (g : Graph) → IsProcInRange program p → IsHoistedFlow p g → CanBePlaced p g
can_be_placed are_graphs are_bounded have_room program p g range is = record {
  frames = range.frames;
  bounded = are_bounded program p g range is;
  entry = (have_room program p g range is).frame;
  continuations = sym (length-map g.continuations (taken_at g))
      ∙ (ap (λ l. length l) (are_graphs program p g range is).continuations ∙ length-map p.conts (λ (c : Cont). Some (parameter_targets p c)));
}

all_can : HoistedFlowsAreGraphs → HoistedFlowsAreBounded → HoistedFlowsHaveRoom → (program : Program) (procs : List Proc) (graphs : List Graph) → All (IsProcInRange program) procs → AllZip IsHoistedFlow procs graphs →
    AllZip CanBePlaced procs graphs
all_can are_graphs are_bounded have_room program [] [] range are = tt
all_can are_graphs are_bounded have_room program [] (g ∷ graphs) range are = are
all_can are_graphs are_bounded have_room program (p ∷ procs) [] range are = are
all_can are_graphs are_bounded have_room program (p ∷ procs) (g ∷ graphs) range are = (
  can_be_placed are_graphs are_bounded have_room program p g (All-head (IsProcInRange program) p procs range) are.0,
  all_can are_graphs are_bounded have_room program procs graphs (All-tail (IsProcInRange program) p procs range) are.1,
)

pub flows_can_be_placed : HoistedFlowsAreGraphs → HoistedFlowsAreBounded → HoistedFlowsHaveRoom → FlowsCanBePlaced
flows_can_be_placed are_graphs are_bounded have_room program graphs range are = all_can are_graphs are_bounded have_room program program.procs graphs range.procedures are

-- ---- costs

-- both layers speak of the same nodes
same_node_leads : (graphs : List Graph) (cs : List Position) →
    is_some (led 0 (elim cs as (λ _. NodeKind) [ [] ↦ Stop | p ∷ _ ↦ kind_here graphs p ])) ≡ elim cs as (λ _. Bool) [ [] ↦ false | c ∷ _ ↦ is_some (led 0 (kind_here graphs c)) ]
same_node_leads graphs [] = refl
same_node_leads graphs (c ∷ cs) = refl

module _ (c : Compiled) (most : ℕ) (st : State Position) where
  abbrev tokens : ℕ
  tokens = tokens_of_youngest c.graphs st

  abbrev running_cost : Bool → ℕ
  running_cost leads = elim leads as (λ _. ℕ) [ true ↦ tokens | false ↦ tokens + most ]

  abbrev cost_by : Status → ℕ
  cost_by status = elim status as (λ _. ℕ) [ Running ↦ running_cost (leads_on (kind_of_youngest c st)) | _ ↦ most + most ]

  leading_cost : st.store.status ≡ Running → flow.leads_on c.graphs st ≡ true → step_cost c most st ≡ tokens
  leading_cost running leads = ap cost_by running ∙ ap running_cost (same_node_leads c.graphs st.controls ∙ leads)

  at_most : (leads : Bool) → running_cost leads ≤ tokens + most
  at_most true = omega arith
  at_most false = omega arith

  running_is : st.store.status ≡ Running → step_cost c most st ≤ tokens + most
  running_is running = let cost : step_cost c most st ≡ running_cost (leads_on (kind_of_youngest c st)) = ap cost_by running in omega (arith, cost, at_most (leads_on (kind_of_youngest c st)))

  resting_is : (status : Status) → cost_by status ≤ max most tokens + most
  resting_is Running = omega (arith, at_most (leads_on (kind_of_youngest c st)))
  resting_is status = omega arith

pub are_costs : (c : Compiled) (most : ℕ) → AreCostsWithin c.graphs (step_cost c most) most
are_costs c most = record {
  leading = λ st running leads. (let cost = leading_cost c most st running leads in omega (arith, cost));
  running = λ st running. omega (arith, running_is c most st running);
  resting = λ st. resting_is c most st st.store.status;
}

-- ---- runs

main_there : (s : Setting) → s.program.main < length s.program.procs → (p : Proc) × (procedure_at s s.program.main ≡ Some p)
main_there s less = by s.program.procs less
  where
    by : (procs : List Proc) → s.program.main < length procs → (p : Proc) × (slice_get procs s.program.main ≡ Some p)
    by [] less = absurd (omega arith)
    by (p ∷ procs) less = (get_or (p ∷ procs) s.program.main p, slice_get-get_or (p ∷ procs) s.program.main p less)

pub places_follow_programs : LocatedRunsFollowGraphs → HoistedFlowsFollow → PlacesAreCompiled → PlacesAreShowable → LocatedRunsFollowPrograms
places_follow_programs located_runs_follow_graphs hoisted_flows_follow are_compiled are_showable s graphs found input set bytes runs =
    let c = compiled graphs found in
    let main = main_there s runs.range.main in
    let most = runs.within.most in
    lazily_trans (hoisted_flows_follow s graphs input (step_cost c most) runs.within set bytes (are_costs c most))
    (located_runs_follow_graphs s c (live_before found) most main.0 input (are_compiled s graphs found runs) (are_showable s graphs found runs) main.1
    (runs.range.main_formals main.0 main.1))

pub runs_begin_cheaply : PlacesAreCompiled → FlowsWithinAreFewer → RunsBeginCheaply
runs_begin_cheaply are_compiled fewer s graphs found input runs =
    let c = compiled graphs found in
    let at = located_start s c input in
    let few = (are_compiled s graphs found runs).within (record { procedure = at.procedure; node = at.node; temporaries = λ t. 0 }) in
    omega (arith, few, fewer s.program graphs runs.range runs.within)
