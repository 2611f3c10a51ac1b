-- A notation for graphs and layouts of worked rows. Their programs come from the sample programs.
use Rattle.std.proofs.Common.{ℕ, Bool, List, [], ◌∷◌, length}
use Rattle.std.specs.Prelude.{nat_lt, slice_index_or}
use Rattle.cmm_words.specs.declared.operators.Op2.TheVariants.{Add}
use Rattle.cmm_program.specs.State.{Setting, Status}
use Rattle.cmm_program.proofs.Shared.{variables_of}
use Rattle.cmm_simulation.specs.Machine.{after}
use Rattle.cmm_graph.specs.declared.number.NodeId.{NodeId}
use Rattle.cmm_graph.specs.declared.operand.Operand.{Operand}
use Rattle.cmm_graph.specs.declared.operand.Rvalue.{Rvalue}
use Rattle.cmm_graph.specs.declared.operand.Rvalue.TheVariants.{Copy}
use Rattle.cmm_graph.specs.declared.node.NodeKind.{NodeKind}
use Rattle.cmm_graph.specs.declared.node.NodeKind.TheVariants.{Entry, CopyIn, Return}
use Rattle.cmm_graph.specs.declared.graph.Graph.{Graph}
use Rattle.cmm_graph.proofs.Shared.{n, v, t, num, arg, set_variable, set_temporary, op, graph, status_after}
use Rattle.cmm_chain.specs.declared.frame.Frame.{Frame}
use Rattle.cmm_chain.specs.declared.frame.Location.{Location}
use Rattle.cmm_chain.specs.declared.frame.Location.TheVariants.{Temp}
use Rattle.cmm_located.specs.Compiled.{Compiled, Located}
use Rattle.cmm_located.specs.LocatedMachine.{located_machine, located_start}

-- ---- graphs

abbrev pub sum : Operand → Operand → Rvalue
sum left right = op Add left right

-- a graph with two variables and a temporary: the first variable has a value, and the sum of both is returned after a site whose
-- result the second one takes; from node 6 on stand others
abbrev pub added_to : ℕ → NodeKind → List NodeKind → List NodeId → Graph
added_to value waits others continuations = graph 2 1
    (Entry [] (n 1)
    ∷ set_variable 0 (Copy (num value)) (n 2)
    ∷ waits
    ∷ CopyIn (variables_of (1 ∷ [])) (n 4)
    ∷ set_temporary 0 (sum (v 0) (v 1)) (n 5)
    ∷ Return 0 0 (arg (t 0) ∷ [])
    ∷ others)
    continuations

-- ---- layouts

abbrev pub laid : ℕ → ℕ → List (ℕ × ℕ) → List ℕ → Frame
laid size return_at saved pairs = record { size = size; return_at = return_at; saved = saved; pairs = pairs; stack = [] }

-- all callee-saves registers, in words from an offset on
abbrev pub all_saved : List (ℕ × ℕ)
all_saved = (9, 16) ∷ (18, 24) ∷ (19, 32) ∷ (20, 40) ∷ (21, 48) ∷ (22, 56) ∷ (23, 64) ∷ (24, 72) ∷ (25, 80) ∷ (26, 88) ∷ (27, 96) ∷ []

-- procedures by their frames and the places of their locals, and of each the locals that are live at a site
abbrev pub compiled : List Graph → List Frame → List (List Location) → (ℕ → ℕ → ℕ → Bool) → List (List ℕ) → Compiled
compiled graphs frames places live zeroed = record {
  graphs = graphs;
  plan = record {
    is_procedure = λ q. nat_lt q (length graphs);
    frame = λ q. slice_index_or frames q (laid 16 0 [] []);
    place = λ q v. slice_index_or (slice_index_or places q []) v (Temp 28);
    live = live;
  };
  zeroed = λ q. slice_index_or zeroed q [];
}

-- ---- runs

-- where runs without input are after n steps
abbrev pub located_after : Setting → Compiled → ℕ → Located
located_after setting c steps = after (located_machine setting c) steps (located_start setting c [])

abbrev pub located_status : Setting → Compiled → ℕ → Status
located_status setting c steps = (located_after setting c steps).store.status

abbrev pub graph_status : Setting → Compiled → ℕ → Status
graph_status setting c steps = status_after c.graphs setting steps
