use Rattle.std.proofs.Common.{◌∙◌, true, false, sym, get_or}
use Rattle.cmm_digraph.proofs.Releasing.{test_is, numbered_by}
use Rattle.cmm_digraph.proofs.waiting.nodes_that.Goals as goal
use Rattle.cmm_digraph.proofs.waiting.nodes_that.Goals.{then-count-wait+in_ok-push, else-count-wait}

pub loop-node-preserved : goal.loop-node-preserved
loop-node-preserved c =
    let i = c.loop-node.node in
    let waiting = c.args.waiting.now in
    let test = test_is c.args.wait (get_or waiting i 0) in elim c.if-count-wait.branch [
      | then-count-wait+in_ok-push w ↦ numbered_by c.args.wait waiting i c.loop-node.nodes c.if-count-wait.nodes true c.loop-node-test.true c.loop-node.invariant
          (sym test ∙ w.if-count-wait.true) (w.nodes-is ∙ w.in_ok-push.ensures.ok)
      | else-count-wait w ↦ numbered_by c.args.wait waiting i c.loop-node.nodes c.if-count-wait.nodes false c.loop-node-test.true c.loop-node.invariant (sym test ∙ w.if-count-wait.false) w.nodes-is
    ]
