use Rattle.cmm_colour.proofs.Telling.{free_without}
use Rattle.cmm_colour.proofs.worklists.lower.Goals as goal

pub push_back-requires-clause-free : goal.push_back-requires-clause-free
push_back-requires-clause-free c = free_without c.args.node c.args.lists.now.lists c.unlink.new.self.lists c.unlink.ensures.lists
