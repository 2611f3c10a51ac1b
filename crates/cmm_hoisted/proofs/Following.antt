-- Runs over hoisted flows follow runs of the C-- machine: they are a rewriting of the folded flows, which do.
use Rattle.std.proofs.Common.{◌≡◌, ℕ, zero, suc, ◌+◌, ◌-◌, ◌*◌, ◌/◌, ◌≤◌, inl, inr, refl, subst, arith, List, [], ◌∷◌, length}
use Rattle.std.proofs.lemmas.Option.{slice_get_cases}
use Rattle.std.specs.Prelude.{slice_get, Some}
use Rattle.std.specs.List.{All, AllZip}
use Rattle.cmm_simulation.proofs.Scaling.{follows_scaled}
use Rattle.cmm_simulation.specs.Following.{Follows}
use Rattle.cmm_simulation.specs.Machine.{Machine}
use Rattle.cmm_machine_laws.proofs.Shared.{machine_lasts, starts_right}
use Rattle.cmm_machine_laws.specs.Fitting.{IsSetUp}
use Rattle.cmm_machine_laws.specs.Observed.{Call, Ending, machine_of}
use Rattle.cmm_program.proofs.Shared.{all_get}
use Rattle.cmm_program.specs.Bounds as bounds
use Rattle.cmm_program.specs.Control.{State}
use Rattle.cmm_program.specs.Frames.{procedure_at}
use Rattle.cmm_program.specs.InRange.{IsProcInRange}
use Rattle.cmm_program.specs.Machine.{start}
use Rattle.cmm_program.specs.Memory.{IsByte}
use Rattle.cmm_program.specs.State.{Setting}
use Rattle.cmm_program.specs.Todo.{Todo, todo_control}
use Rattle.cmm_program.specs.declared.procedure.Proc.{Proc}
use Rattle.cmm_rewriting.proofs.Shared.{follows_rewritten}
use Rattle.cmm_graph.specs.GraphControl.{Position, graph_control}
use Rattle.cmm_graph.specs.GraphMachine.{graph_start}
use Rattle.cmm_graph.specs.Laws.{OrderIsByReads, ValueIsByReads}
use Rattle.cmm_graph.specs.declared.graph.Graph.{Graph}
use Rattle.cmm_hoist.specs.Graphs.{IsHoistedFrom}
use Rattle.cmm_flow.specs.Relation.{longest}
use Rattle.cmm_folded.specs.Flow.{IsFoldedFlow}
use Rattle.cmm_folded.specs.Laws.{FoldedFlowsAreGraphs, FoldedFlowsFollow}
use Rattle.cmm_hoisted.specs.Flow.{AreFlowsWithin, IsFlowWithin}
use Rattle.cmm_hoisted.specs.Laws.{AreCostsWithin, HoistedFlowsFollow}
use Rattle.cmm_hoisted.proofs.Costs.{are_costs, are_rewriting_costs, cost_before}
use Rattle.cmm_hoisted.proofs.Relation.{HasGraphs, Hoisted}
use Rattle.cmm_hoisted.proofs.Rewritten.{are_rewritten}
use Rattle.cmm_hoisted.proofs.Within.{longest_is}

-- ---- the folded flows

-- the folded flow of a procedure, and its graph
record AreOf (most greatest : ℕ) (folded graphs : List Graph) (n : ℕ) (q : Proc) : Type 0 where
  old : Graph
  new : Graph
  is_old : slice_get folded n ≡ Some old
  is_new : slice_get graphs n ≡ Some new
  flow : IsFoldedFlow q old
  hoisted : IsHoistedFrom old new
  spared : most + 2 * length hoisted.kept ≤ greatest

record HaveFolded (most greatest : ℕ) (procs : List Proc) (graphs : List Graph) : Type 0 where
  folded : List Graph
  are : AllZip IsFoldedFlow procs folded
  each : (n : ℕ) (q : Proc) → slice_get procs n ≡ Some q → AreOf most greatest folded graphs n q

and_folded : (most greatest : ℕ) (q : Proc) (procs : List Proc) (g : Graph) (graphs : List Graph) → IsFlowWithin most greatest q g →
    HaveFolded most greatest procs graphs → HaveFolded most greatest (q ∷ procs) (g ∷ graphs)
and_folded most greatest q procs g graphs is rest = record { folded = is.flow.folded ∷ rest.folded; are = (is.flow.is_folded, rest.are); each = by }
  where
    by : (n : ℕ) (r : Proc) → slice_get (q ∷ procs) n ≡ Some r → AreOf most greatest (is.flow.folded ∷ rest.folded) (g ∷ graphs) n r
    by zero r there =
        let same : q ≡ r = cc in
        record {
          old = is.flow.folded;
          new = g;
          is_old = refl;
          is_new = refl;
          flow = subst (λ (x : Proc). IsFoldedFlow x is.flow.folded) same is.flow.is_folded;
          hoisted = is.flow.hoisted;
          spared = is.spared;
        }
    by (suc n) r there =
        let of = rest.each n r there in
        record { old = of.old; new = of.new; is_old = of.is_old; is_new = of.is_new; flow = of.flow; hoisted = of.hoisted; spared = of.spared }

folded_of : (most greatest : ℕ) (procs : List Proc) (graphs : List Graph) → AllZip (IsFlowWithin most greatest) procs graphs →
    HaveFolded most greatest procs graphs
folded_of most greatest [] [] all = record { folded = []; are = tt; each = λ n q is. absurd (cc) }
folded_of most greatest [] (g ∷ graphs) all = absurd all
folded_of most greatest (q ∷ procs) [] all = absurd all
folded_of most greatest (q ∷ procs) (g ∷ graphs) all = and_folded most greatest q procs g graphs all.0 (folded_of most greatest procs graphs all.1)

-- ---- whole runs

module _ (s : Setting) (graphs : List Graph) (input : List ℕ) (cost : State Position → ℕ) (within : AreFlowsWithin s.program graphs) (set : IsSetUp s)
    (bytes : All IsByte input) (costs : AreCostsWithin graphs cost within.most) where
  abbrev most : ℕ
  most = within.most

  abbrev greatest : ℕ
  greatest = bounds.longest s.program.procs

  abbrev have : HaveFolded most greatest s.program.procs graphs
  have = folded_of most greatest s.program.procs graphs within.all

  -- half of what is left is as many constants as any graph keeps
  abbrev r : Hoisted
  r = record { setting = s; olds = have.folded; news = graphs; chained = (greatest - most) / 2 }

  small : most ≤ greatest
  small = elim (slice_get_cases s.program.procs s.program.main).1 [
    | inl found ↦ omega (arith, (have.each s.program.main found.0 found.2).spared)
    | inr past ↦ absurd (omega (arith, past.0, set.program.main))
  ]

  enough : longest s.program + (most + r.chained) + r.chained ≤ longest s.program + longest s.program
  enough = omega (arith, small, longest_is s.program.procs)

  abbrev told : Machine (State Todo) ℕ Call Ending
  told = machine_of (todo_control s.program) s

  module _ (by_values : ValueIsByReads) (by_reads : OrderIsByReads) (are_graphs : FoldedFlowsAreGraphs) (follow : FoldedFlowsFollow) where
    have_graphs : (n : ℕ) (q : Proc) → procedure_at s n ≡ Some q → HasGraphs r n
    have_graphs n q there =
        let of = have.each n q there in
        record {
          procedure = q;
          old = of.old;
          new = of.new;
          is_old = of.is_old;
          is_new = of.is_new;
          of = are_graphs s.program q of.old (all_get (IsProcInRange s.program) s.program.procs n q set.program.procedures there) of.flow;
          hoisted = of.hoisted;
          few = omega (arith, of.spared, small);
        }

    -- what the C-- machine does, the folded flows do, and with the chain of `main` the hoisted ones
    follows : Follows told (λ _. longest s.program + longest s.program) (machine_of (graph_control graphs) s) cost (start s input) (graph_start graphs s input)
    follows =
        let before = are_costs r most (omega (arith, small, longest_is s.program.procs)) in
        follows_scaled 1 (λ u. omega (arith, enough)) (λ u. omega arith)
        (follows_rewritten (are_rewritten r most by_values by_reads have_graphs) (are_rewriting_costs r costs) {H = λ st. Unit {0}}
        record { next = λ st is. tt; known = λ store c cs running is. tt } input tt
        (machine_lasts (todo_control s.program) s) (starts_right (todo_control s.program) s input)
        (follow s r.olds input (cost_before r most) (most + r.chained) set bytes have.are before))

pub hoisted_flows_follow : ValueIsByReads → OrderIsByReads → FoldedFlowsAreGraphs → FoldedFlowsFollow → HoistedFlowsFollow
hoisted_flows_follow by_values by_reads are_graphs follow s graphs input cost within set bytes costs =
    follows s graphs input cost within set bytes costs by_values by_reads are_graphs follow
