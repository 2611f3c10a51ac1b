use Rattle.std.proofs.Common.{◌∙◌}
use Rattle.cmm_colour.proofs.Ordering.{is_left_by}
use Rattle.cmm_colour.proofs.worklists.is_left.Goals as goal

pub returns : goal.returns
returns c = c.is_some.ensures ∙ is_left_by c.args.node c.args.lists.now c.list_of.result c.requires.two c.list_of.ensures.list
