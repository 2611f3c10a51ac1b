use Rattle.cmm_linkage.proofs.Gathering.{names_sorted}
use Rattle.cmm_linkage.proofs.register_names.put_in_order.Goals as goal

pub returns-clause-names : goal.returns-clause-names
returns-clause-names c =
    names_sorted c.args.names.now.keys c.sort.new.self.keys c.sort.ensures.reordered.0 c.in_ok-sort.ensures.sorted c.sort.ensures.unique
