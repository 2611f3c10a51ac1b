use Rattle.std.proofs.Common.{[], ◌<◌, ◌≤◌, ◌≡◌, length, get_or, arith}
use Rattle.std.proofs.lemmas.List.{get_or_default, get_or_read}
use Rattle.cmm_live.specs.inside.Edges.{list_at}
use Rattle.cmm_live.proofs.Edges.{adds_more, adds_skip}
use Rattle.cmm_live.proofs.predecessors.add_to.Goals.{then-index-len+in_ok-push, else-index-len}
use Rattle.cmm_live.proofs.predecessors.add_to.Goals as goal

pub loop-node-preserved : goal.loop-node-preserved
loop-node-preserved c =
    let nodes = c.args.nodes.now in
    let i = c.loop-node.node-index in
    let n = get_or nodes i (record { number = 0 }) in
    let lists = c.loop-node.lists.items in
    elim c.if-index-len.branch [
      | then-index-len+in_ok-push w ↦
          let low : n.number < length lists = omega (arith, w.if-index-len.true, c.len.ensures, c.loop-node.lists.ok.0) in
          let was : w.index_mut.result.now ≡ list_at lists n.number = get_or_read lists n.number w.index_mut.result.now low w.index_mut.ensures.value [] in
          rw (w.lists-is, w.in_ok-push.ensures.ok, was) (adds_more c.args.lists.now.items c.args.from lists nodes i n c.loop-node-test.true
          (get_or_default _ _ _ _ c.loop-node-test.true) c.loop-node.invariant c.requires.from low)
      | else-index-len w ↦
          let past : length lists ≤ n.number = omega (arith, w.if-index-len.false, c.len.ensures, c.loop-node.lists.ok.0) in
          rw w.lists-is (adds_skip c.args.lists.now.items c.args.from lists nodes i n c.loop-node-test.true
          (get_or_default _ _ _ _ c.loop-node-test.true) c.loop-node.invariant past)
    ]
