use Rattle.std.proofs.Common.{ap, sym}
use Rattle.cmm_static_semantics.specs.Linking.{Program}
use Rattle.cmm_linkage.proofs.Gathering.{imported_is}
use Rattle.cmm_linkage.proofs.linkage.LinkageLinked.imported.Goals as goal

pub returns-in-None-clause-value : goal.returns-in-None-clause-value
returns-in-None-clause-value c =
    imported_is c.args.link.now c.self.inside.exports c.self.inside.links c.args.self.now.exports c.get.result c.unwrap_or.result c.address.result
    c.in-None.ensures c.self.invariant.0 (ap (λ (p : Program). p.exports) (sym c.self.view_is)) c.get.ensures c.unwrap_or.ensures c.address.ensures.value
