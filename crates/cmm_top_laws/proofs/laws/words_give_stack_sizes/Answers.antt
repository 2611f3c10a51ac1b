use Rattle.cmm_top_laws.proofs.Asking.{words_give_stack_sizes}
use Rattle.cmm_top_laws.proofs.laws.words_give_stack_sizes.Goals as goal

pub returns : goal.returns
returns c = words_give_stack_sizes c.commands_are_in_range.ensures
