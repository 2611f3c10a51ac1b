use Rattle.std.proofs.Common.{◌∙◌, ap, refl, length}
use Rattle.cmm_flow.specs.inside.Counts.{capped}
use Rattle.cmm_flow.proofs.Passing.{tokens_of_exit}
use Rattle.cmm_flow.proofs.counts.normal_tokens.Goals as goal

pub returns-else-site : goal.returns-else-site
returns-else-site c =
    c.sum.ensures (length c.args.site.now.results) 1 (c.count_of.ensures ∙ ap capped c.len.ensures) refl ∙ tokens_of_exit c.args.site.now c.if-site.false
