use Rattle.std.proofs.Common.{sym, ◌∙◌}
use Rattle.cmm_check_procedure.specs.Extents.{shown}
use Rattle.cmm_check_procedure.proofs.Ordered.{last_by, none_by}
use Rattle.cmm_check_procedure.proofs.Sets.{none_of_pairs}
use Rattle.cmm_check_procedure.proofs.extents.Extents.meets_no_sorted.Goals as goal

pub returns-in-Some : goal.returns-in-Some
returns-in-Some c = let x = c.args.extent in let rs = c.args.self.now.sorted.entries in
    sym (none_of_pairs (shown x) rs ∙ last_by x.low x.high rs _ _ c.requires c.args.self.now.in_order (sym (c.range.ensures.between tt) ∙ c.in-Some.ensures.steps))

pub returns-in-None : goal.returns-in-None
returns-in-None c = let x = c.args.extent in let rs = c.args.self.now.sorted.entries in
    sym (none_of_pairs (shown x) rs ∙ none_by x.low x.high rs (sym (c.range.ensures.between tt) ∙ c.in-None.ensures.steps.0))
