-- Folded flows have what the layers above use of flows.
use Rattle.std.proofs.Common.{[], ◌∷◌}
use Rattle.cmm_graph.specs.Counterpart.{HasSite}
use Rattle.cmm_flow.specs.Laws.{AnswersAreBounded, AnswersAreCovered, AnswersAreGraphs, AnswersAreShort, AnswersHaveSites, AnswersPassFew, AnswersWaitAtEach, AnswersWaitOnce, AnswersYieldThere}
use Rattle.cmm_flow.specs.Liveness.{AnswersAreInRange, AreSetsAtSite, SetsAreOfProcedure, SitesKeepLiveness}
use Rattle.cmm_folded.specs.Laws.{FlowsFold, FoldedFlowsAreBounded, FoldedFlowsAreCovered, FoldedFlowsAreGraphs, FoldedFlowsAreShort, FoldedFlowsHaveEntries, FoldedFlowsHaveSites, FoldedFlowsKeepSites, FoldedFlowsPassFew, FoldedFlowsWaitAtEach, FoldedFlowsWaitOnce, FoldedFlowsYieldThere, FoldedSetsAreOfProcedure}
use Rattle.cmm_folded.proofs.Counts.{bounded_after, covered_after, entry_after, few_after, once_after, short_after, waited_after, yields_after}
use Rattle.cmm_folded.proofs.Liveness.{folded_graphs_keep_liveness, kept_after}
use Rattle.cmm_folded.proofs.Nodes.{facts_through}
use Rattle.cmm_folded.proofs.Ranges.{graph_after, has_site}

pub flows_fold : FlowsFold
flows_fold [] [] [] are stand = tt
flows_fold [] [] (g ∷ graphs) are stand = absurd stand
flows_fold [] (f ∷ flows) graphs are stand = absurd are
flows_fold (q ∷ procs) [] graphs are stand = absurd are
flows_fold (q ∷ procs) (f ∷ flows) [] are stand = absurd stand
flows_fold (q ∷ procs) (f ∷ flows) (g ∷ graphs) are stand = (record { flow = f; is_flow = are.0; stands = stand.0 }, flows_fold procs flows graphs are.1 stand.1)

pub folded_flows_are_graphs : AnswersAreGraphs → FoldedFlowsAreGraphs
folded_flows_are_graphs law p q g range is = graph_after is.flow g is.stands p q (law p q is.flow range is.is_flow)

pub folded_flows_are_bounded : AnswersAreBounded → FoldedFlowsAreBounded
folded_flows_are_bounded law p q g range is = bounded_after q is.flow g is.stands (law p q is.flow range is.is_flow)

pub folded_flows_wait_once : AnswersWaitOnce → FoldedFlowsWaitOnce
folded_flows_wait_once law p q g range is = once_after q is.flow g is.stands (law p q is.flow range is.is_flow)

pub folded_flows_have_sites : AnswersHaveSites → FoldedFlowsHaveSites
folded_flows_have_sites law p q g range is =
    facts_through (λ node. HasSite q is.flow node.kind) (λ node. HasSite q g node.kind) (has_site is.flow g is.stands q) is.flow.nodes g.nodes is.stands.nodes
    (law p q is.flow range is.is_flow)

pub folded_flows_wait_at_each : AnswersWaitAtEach → FoldedFlowsWaitAtEach
folded_flows_wait_at_each law p q g site range is less = waited_after q is.flow g is.stands site (law p q is.flow site range is.is_flow less)

pub folded_flows_are_covered : AnswersAreCovered → FoldedFlowsAreCovered
folded_flows_are_covered law p q g range is = covered_after q is.flow g is.stands (law p q is.flow range is.is_flow)

pub folded_flows_are_short : AnswersAreShort → FoldedFlowsAreShort
folded_flows_are_short law p q g range is = short_after q is.flow g is.stands (law p q is.flow range is.is_flow)

pub folded_flows_have_entries : FoldedFlowsHaveEntries
folded_flows_have_entries q g is =
    let begun = is.is_flow.flow.begun in entry_after q is.flow g is.stands record { formals = begun.formals; next = begun.next; node = begun.node }

pub folded_flows_pass_few : AnswersPassFew → FoldedFlowsPassFew
folded_flows_pass_few law p q g range is = few_after q is.flow g is.stands (law p q is.flow range is.is_flow)

pub folded_flows_yield_there : AnswersYieldThere → FoldedFlowsYieldThere
folded_flows_yield_there law p q g range is = yields_after q is.flow g is.stands (law p q is.flow range is.is_flow)

pub folded_flows_keep_sites : AnswersAreInRange → AnswersWaitOnce → SitesKeepLiveness → FoldedFlowsKeepSites
folded_flows_keep_sites in_range once law p q g range is site v less =
    kept_after is.flow g is.stands q site v (law p q is.flow (in_range p q is.flow range is.is_flow) (once p q is.flow range is.is_flow) site v less)

-- a variable has the same number in both graphs, so the sets say the same of it
pub folded_sets_are_of_procedure : AnswersAreInRange → AnswersWaitOnce → SetsAreOfProcedure → FoldedSetsAreOfProcedure
folded_sets_are_of_procedure in_range once law p q g found range is sets site v is_site is_variable =
    let of : AreSetsAtSite q is.flow found site v =
    law p q is.flow found (in_range p q is.flow range is.is_flow) (once p q is.flow range is.is_flow)
    ((folded_graphs_keep_liveness is.flow g found is.stands).before sets) site v is_site is_variable in
    record { live = of.live; live_on_cut = of.live_on_cut; tested = of.tested }
