use Rattle.cmm_rules.proofs.RuleLemmas.{each_is_listed, one_rule, texts_are_lines}
use Rattle.cmm_rules.proofs.laws.rules_are_told_apart.Goals as goal

pub returns : goal.returns
returns c = record { numbers = one_rule; listed = each_is_listed; texts = texts_are_lines }
