use Rattle.std.proofs.Common.{◌+◌, ◌∷◌, ◌++◌, [], sym, subst, take}
use Rattle.std.proofs.lemmas.List.{take_more}
use Rattle.std.proofs.lemmas.Slice.Zip.{all_zipped_more}
use Rattle.std.specs.List.{AllZip}
use Rattle.cmm_live.specs.Exact.{AreLiveSets}
use Rattle.cmm_live.proofs.live_sets.liveness_of_all.Goals as goal

pub loop-graph-preserved : goal.loop-graph-preserved
loop-graph-preserved c =
    let graphs = c.args.graphs.now in
    let i = c.loop-graph.graph-index in
    let one = all_zipped_more AreLiveSets (take i graphs) c.loop-graph.found c.graph-item.result c.in_ok-liveness.field-0 c.loop-graph.invariant c.in_ok-liveness.ensures in
    subst (AllZip AreLiveSets (take (i + 1) graphs)) (sym c.in_ok-push.ensures.ok)
    (subst (λ gs. AllZip AreLiveSets gs (c.loop-graph.found ++ c.in_ok-liveness.field-0 ∷ [])) (sym (take_more graphs i c.graph-item.result c.loop-graph-test.true))
    (subst (λ g. AllZip AreLiveSets (take i graphs ++ g ∷ []) (c.loop-graph.found ++ c.in_ok-liveness.field-0 ∷ [])) c.graph-item.is one))
