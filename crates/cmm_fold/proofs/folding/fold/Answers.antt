use Rattle.std.proofs.Common.{◌≡◌, arith, refl, length, Some}
use Rattle.std.specs.Prelude.{slice_get}
use Rattle.std.proofs.lemmas.Option.{slice_get_read}
use Rattle.cmm_fold.proofs.Graphs.{fold_begins, fold_ends, fold_passes, fold_stands, fold_steps}
use Rattle.cmm_fold.proofs.folding.fold.Goals.{in-Some, in_default}
use Rattle.cmm_fold.proofs.folding.fold.Goals as goal

pub loop-index-init : goal.loop-index-init
loop-index-init c = rw c.len-index-end.ensures (fold_begins c.args.g.now)

pub loop-index-preserved : goal.loop-index-preserved
loop-index-preserved c =
    let i = c.loop-index.index in
    let nodes = c.loop-index.g.nodes in
    let node = c.index-as_slice-index.result in
    let there : slice_get nodes i ≡ Some node =
    slice_get_read nodes (length nodes) i node refl (omega (arith, c.loop-index.invariant.same, c.loop-index-test.true)) (rw c.as_slice.ensures at c.index-as_slice-index.is) in
    elim c.match-fold_node.branch [
      | in-Some w ↦
          let h = w.in-Some.ensures.some in
          rw (w.g-is, w.set.ensures) (fold_steps c.args.g.now c.loop-index.g c.len-index-end.result i node w.in-Some.node there h.0 h.1 c.loop-index.invariant)
      | in_default w ↦
          rw w.g-is (fold_passes c.args.g.now c.loop-index.g c.len-index-end.result i node there (w.in_default.ensures.none) c.loop-index.invariant)
    ]

pub returns-clause-stands : goal.returns-clause-stands
returns-clause-stands c =
    fold_stands c.args.g.now c.loop-index.g c.len-index-end.result c.loop-index.index c.loop-index.invariant

pub returns-clause-folded : goal.returns-clause-folded
returns-clause-folded c =
    fold_ends c.args.g.now c.loop-index.g c.len-index-end.result c.loop-index.index (omega (arith, c.loop-index-test.false)) c.loop-index.invariant
