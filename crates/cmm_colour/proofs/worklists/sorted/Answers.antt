use Rattle.std.proofs.Common.{refl}
use Rattle.cmm_ilist.proofs.Shared.{has_none}
use Rattle.cmm_colour.proofs.Sorting.{sorted_free, sorted_pushed}
use Rattle.cmm_colour.proofs.worklists.sorted.Goals as goal

pub push_back-requires-clause-free : goal.push_back-requires-clause-free
push_back-requires-clause-free c =
    has_none c.loop-node.node c.loop-node.lists.lists (sorted_free c.args.k c.args.degrees.now c.loop-node.node c.loop-node.lists c.loop-node.invariant)

pub loop-node-preserved : goal.loop-node-preserved
loop-node-preserved c =
    sorted_pushed c.args.k c.args.degrees.now c.loop-node.node c.loop-node.lists c.push_back.new.self c.list_for.result c.loop-node.node c.loop-node.invariant c.loop-node-test.true c.list_for.ensures refl
    c.push_back.ensures.nodes c.push_back.ensures.lists
