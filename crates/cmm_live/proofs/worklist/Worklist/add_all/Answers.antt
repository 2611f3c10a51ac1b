use Rattle.std.proofs.Common.{true, false, ◌≡◌, ◌<◌, length, get_or, ◌∙◌, sym, arith}
use Rattle.std.proofs.lemmas.List.{get_or_default, get_or_read, length_push}
use Rattle.cmm_bitset.specs.Sets.{has}
use Rattle.cmm_live.proofs.Worklists.{list_adds, woken_more, woken_skip}
use Rattle.cmm_live.proofs.worklist.Worklist.add_all.Goals.{then-not-index+in_ok-push, else-not-index}
use Rattle.cmm_live.proofs.worklist.Worklist.add_all.Goals as goal

pub loop-node-preserved : goal.loop-node-preserved
loop-node-preserved c =
    let old = c.args.self.now.waits.items in
    let nodes = c.loop-node.self.nodes.items in
    let waits = c.loop-node.self.waits.items in
    let i = c.loop-node.node-index in
    let n = get_or c.args.nodes.now i 0 in
    let within : n < length waits = omega (arith, c.requires.within i 0 c.loop-node-test.true, c.loop-node.invariant.woken.size) in
    let is : n ≡ get_or c.args.nodes.now i n = get_or_default c.args.nodes.now i 0 n c.loop-node-test.true in
    elim c.if-not-index.branch [
      | then-not-index+in_ok-push w ↦ rw (w.self-is, w.in_ok-push.ensures.items) (record {
        list = list_adds nodes n waits c.loop-node.invariant.list within;
        woken = woken_more old waits c.args.nodes.now i n c.loop-node-test.true is within c.loop-node.invariant.woken;
        bound = omega (arith, length_push nodes n, c.loop-node.invariant.bound);
      })
      | else-not-index w ↦
          let already : has waits n ≡ true = sym (get_or_read waits n c.index.result.now within c.index.ensures false) ∙ w.if-not-index.false in
          rw w.self-is (record {
            list = c.loop-node.invariant.list;
            woken = woken_skip old waits c.args.nodes.now i n c.loop-node-test.true is already c.loop-node.invariant.woken;
            bound = omega (arith, c.loop-node.invariant.bound);
          })
    ]
