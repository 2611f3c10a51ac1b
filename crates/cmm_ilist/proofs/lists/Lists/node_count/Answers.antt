use Rattle.std.proofs.Common.{subst}
use Rattle.cmm_ilist.specs.NodeLists.{AreApart}
use Rattle.cmm_ilist.proofs.Answering.{are_apart}
use Rattle.cmm_ilist.proofs.lists.Lists.node_count.Goals as goal

pub returns-clause-apart : goal.returns-clause-apart
returns-clause-apart c = subst AreApart c.self.view_is (are_apart _ _ c.self.invariant)
