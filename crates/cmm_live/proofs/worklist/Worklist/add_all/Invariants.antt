use Rattle.std.proofs.Common.{◌≤◌, ◌+◌, length, take}
use Rattle.cmm_live.specs.inside.Worklists.{IsList, Woken}
use Rattle.cmm_live.proofs.worklist.Worklist.add_all.Given as goal

abbrev pub invariant-loop-node : goal.invariant-loop-node
invariant-loop-node l = record {
  list : IsList l.self.nodes.items l.self.waits.items;
  woken : Woken l.fn.self.waits.items l.self.waits.items (take l.node-index l.nodes);
  bound : length l.self.nodes.items ≤ length l.fn.self.nodes.items + l.node-index;
}
