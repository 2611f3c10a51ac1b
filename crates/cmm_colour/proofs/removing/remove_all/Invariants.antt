use Rattle.std.proofs.Common.{◌<◌, ◌≤◌, ◌-◌, length, take}
use Rattle.std.specs.List.{All}
use Rattle.cmm_colour.specs.inside.Removing.{IsLeft}
use Rattle.cmm_colour.proofs.Ordering.{AreStuck, HadFew}
use Rattle.cmm_colour.proofs.removing.remove_all.Given as goal

abbrev pub invariant-loop-node : goal.invariant-loop-node
invariant-loop-node l = record {
  left : IsLeft l.rows l.k l.order l.degrees.items l.lists;
  few : HadFew l.rows l.k l.order (length l.order);
}

abbrev pub decreases-loop-node : goal.decreases-loop-node
decreases-loop-node l = length l.rows - length l.order

abbrev pub invariant-loop-node-2 : goal.invariant-loop-node-2
invariant-loop-node-2 l = record {
  left : IsLeft l.rows l.k l.order l.degrees.items l.lists;
  front : l.peeled ≤ length l.order;
  few : HadFew l.rows l.k l.order l.peeled;
  stuck : AreStuck l.rows l.k (take l.peeled l.order);
  below : All (λ candidate. candidate.node < length l.rows) l.candidates.waiting.items;
}

abbrev pub decreases-loop-node-2 : goal.decreases-loop-node-2
decreases-loop-node-2 l = length l.rows - length l.order
