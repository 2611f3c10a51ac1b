use Rattle.std.proofs.Common.{◌≡◌, ℕ, ◌++◌, arith, ap, refl, sym, ◌∙◌, subst, drop, length, take, List, Some}
use Rattle.std.specs.Prelude.{slice_get}
use Rattle.std.specs.List.{All}
use Rattle.std.proofs.Math.Seq.{take-append_seam}
use Rattle.std.proofs.lemmas.Option.{slice_get_read}
use Rattle.cmm_graph.specs.declared.graph.Graph.{Graph}
use Rattle.cmm_fold.specs.Graphs.{GraphStandsFor, IsFolded}
use Rattle.cmm_fold.proofs.Graphs.{all_begin, all_end, all_step}
use Rattle.cmm_fold.proofs.folding.fold_all.Goals as goal

pub loop-g-init : goal.loop-g-init
loop-g-init c = rw (c.deref_mut-g-items.ensures.value, c.into_vec-graphs.ensures) (all_begin c.args.graphs)

pub loop-g-preserved : goal.loop-g-preserved
loop-g-preserved c =
    let graphs = c.loop-g.g-items in
    let i = c.loop-g.g-index in
    let g = c.g-item.result in
    let there : slice_get graphs i ≡ Some g = slice_get_read graphs (length graphs) i g refl (omega (arith, c.loop-g-test.true, c.loop-g.auto.g-items)) c.g-item.is in
    let stands : GraphStandsFor g c.fold.new.g = subst (λ (x : Graph). GraphStandsFor x c.fold.new.g) (sym c.g-item.is) c.fold.ensures.stands in
    all_step c.args.graphs graphs i g c.fold.new.g there stands c.fold.ensures.folded c.loop-g.invariant

pub returns-clause-folded : goal.returns-clause-folded
returns-clause-folded c =
    let graphs = c.loop-g.g-items in
    let left = drop (length graphs) c.into_vec-graphs.result.items in
    let count : length graphs ≡ c.into_vec-graphs.result.len =
    omega (arith, c.loop-g.auto.g-items, ap (λ (l : List Graph). length l) c.deref_mut-g-items.ensures.value, c.into_vec-graphs.result.ok.0) in
    let whole : c.from_vec.result ≡ graphs = c.from_vec.ensures ∙ (ap (λ (n : ℕ). take n (graphs ++ left)) (sym count) ∙ take-append_seam graphs left) in
    let folded : All IsFolded graphs = all_end c.args.graphs graphs c.loop-g.g-index (omega (arith, c.loop-g-test.false, c.loop-g.auto.g-items)) c.loop-g.invariant in
    subst (All IsFolded) (sym whole) folded
