use Rattle.std.proofs.Common.{List, ℕ, ap, map, ◌∙◌}
use Rattle.cmm_static_semantics.specs.Linking.{Program}
use Rattle.cmm_linkage.specs.inside.Linkages.{exported_shown}
use Rattle.cmm_linkage.proofs.linkage.Gathered.numbered.Goals as goal

pub returns : goal.returns
returns c =
    ap (λ (names : List (List ℕ)). let p : Program = record { exports = map exported_shown c.self.inside.exports; registers = names } in p) c.in_ok-put_in_order.ensures.names
    ∙ c.self.view_is
