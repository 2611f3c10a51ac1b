use Rattle.std.proofs.Common.{take}
use Rattle.cmm_digraph.specs.inside.Listed.{AreAdded}
use Rattle.cmm_digraph.proofs.users.add_user.Given as goal

abbrev pub invariant-loop-node : goal.invariant-loop-node
invariant-loop-node l = AreAdded l.fn.user (take l.node-index l.mentioned) l.fn.users.items l.users.items
