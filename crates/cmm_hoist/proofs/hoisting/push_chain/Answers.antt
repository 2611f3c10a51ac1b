use Rattle.std.proofs.Common.{◌∙◌, length, length-append, ap, arith, List}
use Rattle.cmm_words.specs.declared.constant.Constant.{Constant}
use Rattle.cmm_words.specs.declared.constant.Constant.TheVariants.{Number}
use Rattle.cmm_words.specs.declared.width.Width.TheVariants.{W8}
use Rattle.cmm_graph.specs.declared.node.Node.{Node}
use Rattle.cmm_hoist.proofs.Chain.{nodes_more, start_more}
use Rattle.cmm_hoist.proofs.hoisting.push_chain.Goals as goal

pub loop-index-preserved : goal.loop-index-preserved
loop-index-preserved c =
    let old = c.args.nodes.now in
    let kept = c.args.kept.now in
    let i = c.loop-index.index in
    let none : Constant = Number 0 W8 in
    let state = c.loop-index.invariant in
    let less = c.loop-index-test.true in
    record {
      count = omega (arith, state.count, ap (λ (nodes : List Node). length nodes) c.in_ok-push.ensures.ok, length-append {A = Node});
      start = start_more c.args.first old c.args.next kept i none less c.len-number.result (c.len-number.ensures ∙ state.count);
      pushed = c.in_ok-push.ensures.ok
          ∙ nodes_more c.args.first old c.args.next kept i none less c.loop-index.nodes c.loop-index.start state.start state.pushed;
    }
