use Rattle.std.proofs.Common.{◌≡◌, ◌++◌, map, take}
use Rattle.cmm_elaboration.specs.Data.{label_at}
use Rattle.cmm_lower_parts.proofs.labels.add_at.Given as goal

abbrev pub invariant-loop-name : goal.invariant-loop-name
invariant-loop-name l = l.to ≡ l.initial.to ++ map (λ i. label_at (map (λ e. e.now) l.links.exports.now) i.now record { datum = l.datum; at_end = l.at_end }) (take l.name-index l.names)
