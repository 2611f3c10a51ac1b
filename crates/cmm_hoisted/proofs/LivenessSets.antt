-- The sets of a hoisted flow have just the variables of its procedure that are live at a site, and on its cut exits.
use Rattle.std.proofs.Common.{◌≡◌, ◌↔◌, true, arith}
use Rattle.std.proofs.lemmas.Bool.{lt-ltb}
use Rattle.std.proofs.lemmas.Bool.Decides.{same_from_decides}
use Rattle.cmm_program.specs.Laws.{LivenessIsByPaths}
use Rattle.cmm_program.specs.Liveness.{is_live_at}
use Rattle.cmm_program.specs.LivePaths
use Rattle.cmm_graph.specs.Ranges.{is_local}
use Rattle.cmm_live.specs.Exact.{is_at}
use Rattle.cmm_flow.specs.Liveness.{site_id, variable}
use Rattle.cmm_folded.specs.Laws.{FoldedFlowsAreGraphs, FoldedFlowsKeepSites, FoldedFlowsWaitAtEach}
use Rattle.cmm_hoisted.specs.Laws.{HoistedSetsAreOfProcedure}
use Rattle.cmm_hoisted.proofs.Liveness.{live_at_same, live_on_cut_same}
use Rattle.cmm_hoisted.proofs.Waits.{waited_after}

pub hoisted_sets_are_of_procedure : LivenessIsByPaths → FoldedFlowsAreGraphs → FoldedFlowsWaitAtEach → FoldedFlowsKeepSites → HoistedSetsAreOfProcedure
hoisted_sets_are_of_procedure by_paths graphs wait keep p q g found range is sets site v is_site is_variable =
    let old = is.folded in
    let graph = graphs p q old range is.is_folded in
    let kept = keep p q old range is.is_folded site v is_site in
    let at_same = live_at_same old g is.hoisted graph.valid record { number = v } (site_id site) in
    let cut_same = live_on_cut_same old g is.hoisted graph.valid record { number = v } (site_id site) in
    let there = waited_after old g is.hoisted site (wait p q old site range is.is_folded is_site) in
    let local : is_local g (variable v) ≡ true = lt-ltb v g.variables (omega (arith, graph.variables, is.hoisted.variables, is_variable)) in
    let at = (sets.sites.each (site_id site) (sets.sites.listed there.at there.node (site_id site) there.is_there there.waits)).exact (variable v) local in
    let cut = (sets.cuts.each (site_id site) (sets.cuts.listed there.at there.node (site_id site) there.is_there there.waits)).exact (variable v) local in
    let live : (is_at g found (site_id site) (variable v) ≡ true) ↔ LivePaths.IsLiveAt q site v =
    (λ has. kept.live.1 (at_same.1 (at.0 has)), λ lives. at.1 (at_same.0 (kept.live.0 lives))) in
    record {
      live = live;
      live_on_cut = (λ has. kept.live_on_cut.1 (cut_same.1 (cut.0 has)), λ lives. cut.1 (cut_same.0 (kept.live_on_cut.0 lives)));
      tested = same_from_decides (is_at g found (site_id site) (variable v)) (is_live_at q site v) live (by_paths p q site v range);
    }
