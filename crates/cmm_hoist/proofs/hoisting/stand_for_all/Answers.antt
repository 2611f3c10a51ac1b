use Rattle.std.proofs.Common.{◌≡◌, arith, refl, length, length-set, sym, ◌∙◌, Some}
use Rattle.std.specs.Prelude.{slice_get}
use Rattle.std.proofs.lemmas.Option.{slice_get_read}
use Rattle.cmm_hoist.specs.Keeping.{NodeStandsFor, SameKind}
use Rattle.cmm_hoist.proofs.Walk.{walk_begins, walk_passes, walk_steps}
use Rattle.cmm_hoist.proofs.hoisting.stand_for_all.Goals.{in-Some, in_default}
use Rattle.cmm_hoist.proofs.hoisting.stand_for_all.Goals as goal

pub loop-index-init : goal.loop-index-init
loop-index-init c = record {
  count = sym c.len-index-end.ensures;
  walked = walk_begins (NodeStandsFor c.args.first c.args.kept.now) (λ node. record { tokens = refl; kind = SameKind node.kind }) c.args.nodes.now;
}

pub loop-index-preserved : goal.loop-index-preserved
loop-index-preserved c =
    let i = c.loop-index.index in
    let old = c.args.nodes.now in
    let nodes = c.loop-index.nodes in
    let node = c.index-as_slice-index.result in
    let count = c.loop-index.invariant.count in
    let there : slice_get nodes i ≡ Some node =
    slice_get_read nodes (length nodes) i node refl (omega (arith, count, c.loop-index-test.true)) (rw c.as_slice.ensures at c.index-as_slice-index.is) in
    elim c.match-node_for.branch [
      | in-Some w ↦ rw (w.nodes-is, w.set.ensures) record {
        count = length-set nodes i w.in-Some.node ∙ count;
        walked = walk_steps (NodeStandsFor c.args.first c.args.kept.now) old nodes i node w.in-Some.node there w.in-Some.ensures.some c.loop-index.invariant.walked;
      }
      | in_default w ↦ rw w.nodes-is record {
        count = count;
        walked = walk_passes (NodeStandsFor c.args.first c.args.kept.now) old nodes i c.loop-index.invariant.walked;
      }
    ]

pub returns : goal.returns
returns c = c.loop-index.invariant.walked.stand
