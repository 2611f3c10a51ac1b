-- Hoisted flows have what the layers above use of flows.
use Rattle.std.proofs.Common.{ℕ, ◌≤◌, arith, List, [], ◌∷◌}
use Rattle.std.proofs.lemmas.Bool.Decides.{nat_tests}
use Rattle.std.proofs.lemmas.List.Elements.{All-cons, All-nil}
use Rattle.std.specs.Prelude.{nat_le, IsTrue}
use Rattle.std.specs.List.{All, AllZip}
use Rattle.cmm_program.specs.declared.procedure.Proc.{Proc}
use Rattle.cmm_program.specs.Bounds.{longest}
use Rattle.cmm_graph.specs.declared.graph.Graph.{Graph}
use Rattle.cmm_graph.specs.declared.node.Node.{Node}
use Rattle.cmm_hoist.specs.Graphs.{BeginsAtEntry, HasTokensWithin, IsHoistedWithin}
use Rattle.cmm_flow.specs.Flow.{HasTokens}
use Rattle.cmm_folded.specs.Flow.{IsFoldedFlow}
use Rattle.cmm_folded.specs.Laws.{FoldedFlowsAreBounded, FoldedFlowsAreCovered, FoldedFlowsAreGraphs, FoldedFlowsAreShort, FoldedFlowsHaveEntries, FoldedFlowsHaveTokens, FoldedFlowsPassFew, FoldedFlowsWaitAtEach, FoldedFlowsWaitOnce, FoldedFlowsYieldThere, FoldedFlowsHaveSites}
use Rattle.cmm_hoisted.specs.Flow.{IsFlowWithin, IsHoistedFlow}
use Rattle.cmm_hoisted.specs.Laws.{FlowsHoist, FlowsWithinAreHoisted, FoldedFlowsCanBeHoisted, HoistedFlowsAreBounded, HoistedFlowsAreCovered, HoistedFlowsAreGraphs, HoistedFlowsAreShort, HoistedFlowsHaveEntries, HoistedFlowsHaveRoom, HoistedFlowsHaveSites, HoistedFlowsPassFew, HoistedFlowsWaitAtEach, HoistedFlowsWaitOnce, HoistedFlowsYieldThere}
use Rattle.cmm_hoisted.proofs.Counts.{begins_after, covered_after, room_after, short_after}
use Rattle.cmm_hoisted.proofs.Graphs.{graph_after, sites_after}
use Rattle.cmm_hoisted.proofs.Lists.{list_all_more}
use Rattle.cmm_hoisted.proofs.Waits.{few_after, once_after, waited_after, yields_after}

-- ---- the graphs of a program

begin_at_entries : FoldedFlowsHaveEntries → (procs : List Proc) (graphs : List Graph) → AllZip IsFoldedFlow procs graphs → All BeginsAtEntry graphs
begin_at_entries law [] [] are = All-nil BeginsAtEntry
begin_at_entries law [] (g ∷ graphs) are = absurd are
begin_at_entries law (q ∷ procs) [] are = absurd are
begin_at_entries law (q ∷ procs) (g ∷ graphs) are =
    let entry = law q g are.0 in
    All-cons BeginsAtEntry g graphs (record { tokens = q.tokens; formals = entry.formals; next = entry.next; node = entry.node })
    (begin_at_entries law procs graphs are.1)

-- no procedure has more tokens than the longest
have_tokens_within : (most : ℕ) (procs : List Proc) (graphs : List Graph) → longest procs ≤ most → AllZip HasTokens procs graphs →
    All (HasTokensWithin most) graphs
have_tokens_within most [] [] within have = All-nil (HasTokensWithin most)
have_tokens_within most [] (g ∷ graphs) within have = absurd have
have_tokens_within most (q ∷ procs) [] within have = absurd have
have_tokens_within most (q ∷ procs) (g ∷ graphs) within have =
    All-cons (HasTokensWithin most) g graphs (list_all_more (λ node. nat_le node.tokens q.tokens) (λ node. nat_le node.tokens most) more g.nodes have.0)
    (have_tokens_within most procs graphs (omega (arith, within)) have.1)
  where
    more : (node : Node) → IsTrue (nat_le node.tokens q.tokens) → IsTrue (nat_le node.tokens most)
    more node fits =
        let fewer : node.tokens ≤ q.tokens = grind (arith, nat_tests, fits) in
        let now : node.tokens ≤ most = omega (arith, fewer, within) in
        grind (arith, nat_tests, now)

pub folded_flows_can_be_hoisted : FoldedFlowsHaveEntries → FoldedFlowsHaveTokens → FoldedFlowsCanBeHoisted
folded_flows_can_be_hoisted entries tokens p graphs range are = record {
  begin = begin_at_entries entries p.procs graphs are;
  tokens = have_tokens_within (longest p.procs) p.procs graphs (omega arith) (tokens p graphs range are);
}

flows_within : (most greatest : ℕ) (procs : List Proc) (folded graphs : List Graph) → AllZip IsFoldedFlow procs folded →
    AllZip (IsHoistedWithin most greatest) folded graphs → AllZip (IsFlowWithin most greatest) procs graphs
flows_within most greatest [] [] [] are hoisted = tt
flows_within most greatest [] [] (g ∷ graphs) are hoisted = absurd hoisted
flows_within most greatest [] (f ∷ folded) graphs are hoisted = absurd are
flows_within most greatest (q ∷ procs) [] graphs are hoisted = absurd are
flows_within most greatest (q ∷ procs) (f ∷ folded) [] are hoisted = absurd hoisted
flows_within most greatest (q ∷ procs) (f ∷ folded) (g ∷ graphs) are hoisted = (
  record { flow = record { folded = f; is_folded = are.0; hoisted = hoisted.0.hoisted }; tokens = hoisted.0.tokens; spared = hoisted.0.spared },
  flows_within most greatest procs folded graphs are.1 hoisted.1,
)

pub flows_hoist : FlowsHoist
flows_hoist p folded graphs are hoisted = record {
  most = hoisted.most;
  all = flows_within hoisted.most (longest p.procs) p.procs folded graphs are hoisted.all;
}

each_hoisted : (most greatest : ℕ) (procs : List Proc) (graphs : List Graph) → AllZip (IsFlowWithin most greatest) procs graphs →
    AllZip IsHoistedFlow procs graphs
each_hoisted most greatest [] [] are = tt
each_hoisted most greatest [] (g ∷ graphs) are = absurd are
each_hoisted most greatest (q ∷ procs) [] are = absurd are
each_hoisted most greatest (q ∷ procs) (g ∷ graphs) are = (are.0.flow, each_hoisted most greatest procs graphs are.1)

pub flows_within_are_hoisted : FlowsWithinAreHoisted
flows_within_are_hoisted p graphs within = each_hoisted within.most (longest p.procs) p.procs graphs within.all

-- ---- hoisted flows

pub hoisted_flows_are_graphs : FoldedFlowsAreGraphs → HoistedFlowsAreGraphs
hoisted_flows_are_graphs law p q g range is = graph_after is.folded g is.hoisted p q (law p q is.folded range is.is_folded)

pub hoisted_flows_have_room : FoldedFlowsHaveEntries → FoldedFlowsAreBounded → HoistedFlowsHaveRoom
hoisted_flows_have_room entries law p q g range is =
    let shortest = range.shortest in
    room_after q is.folded g is.hoisted (entries q is.folded is.is_folded) (omega (arith, shortest)) (law p q is.folded range is.is_folded)

pub hoisted_flows_are_bounded : HoistedFlowsHaveRoom → HoistedFlowsAreBounded
hoisted_flows_are_bounded law p q g range is = let room = law p q g range is in let frame = room.frame in let fewer = room.fewer in omega (arith, frame, fewer)

pub hoisted_flows_wait_once : FoldedFlowsWaitOnce → HoistedFlowsWaitOnce
hoisted_flows_wait_once law p q g range is = once_after is.folded g is.hoisted (law p q is.folded range is.is_folded)

pub hoisted_flows_have_sites : FoldedFlowsHaveSites → HoistedFlowsHaveSites
hoisted_flows_have_sites law p q g range is = sites_after is.folded g is.hoisted q (law p q is.folded range is.is_folded)

pub hoisted_flows_wait_at_each : FoldedFlowsWaitAtEach → HoistedFlowsWaitAtEach
hoisted_flows_wait_at_each law p q g site range is less = waited_after is.folded g is.hoisted site (law p q is.folded site range is.is_folded less)

pub hoisted_flows_are_covered : FoldedFlowsHaveEntries → FoldedFlowsAreCovered → HoistedFlowsAreCovered
hoisted_flows_are_covered entries law p q g range is =
    covered_after q is.folded g is.hoisted (entries q is.folded is.is_folded) (law p q is.folded range is.is_folded)

pub hoisted_flows_are_short : FoldedFlowsAreShort → HoistedFlowsAreShort
hoisted_flows_are_short law p q g range is = short_after q is.folded g is.hoisted (law p q is.folded range is.is_folded)

pub hoisted_flows_have_entries : HoistedFlowsHaveEntries
hoisted_flows_have_entries q g is = begins_after q is.folded g is.hoisted

pub hoisted_flows_pass_few : FoldedFlowsPassFew → HoistedFlowsPassFew
hoisted_flows_pass_few law p q g range is = few_after is.folded g is.hoisted (law p q is.folded range is.is_folded)

pub hoisted_flows_yield_there : FoldedFlowsYieldThere → HoistedFlowsYieldThere
hoisted_flows_yield_there law p q g range is = yields_after is.folded g is.hoisted q (law p q is.folded range is.is_folded)
