use Rattle.std.proofs.Common.{ap, ◌∙◌}
use Rattle.std.specs.Prelude.{is_some}
use Rattle.cmm_static_semantics.specs.Linking.{Program, is_among}
use Rattle.cmm_linkage.specs.Exports.{exported_links}
use Rattle.cmm_linkage.proofs.Gathering.{under_among}
use Rattle.cmm_linkage.proofs.linkage.Linkage.is_exported.Goals as goal

pub returns : goal.returns
returns c =
    c.is_some.ensures ∙ ap is_some (c.get.ensures ∙ c.self.invariant.0 c.args.link.now) ∙ under_among c.args.link.now c.self.inside.exports
    ∙ ap (λ (p : Program). is_among c.args.link.now (exported_links p)) c.self.view_is
