use Rattle.std.proofs.Common.{◌≡◌, ℕ, List, map, take}
use Rattle.cmm_elaboration.specs.Data.{links_of}
use Rattle.cmm_lower_parts.specs.Exported.{links_at}
use Rattle.cmm_lower_parts.proofs.links.Links.of.Given as goal

abbrev pub invariant-loop-export : goal.invariant-loop-export
invariant-loop-export l = (x : List ℕ) → links_at l.table x ≡ links_of (map (λ e. e.now) (take l.export-index l.exports)) x
