use Rattle.std.proofs.Common.{◌≡◌, map, take}
use Rattle.cmm_data.specs.inside.Walking.{address_in}
use Rattle.cmm_data.proofs.labels.addresses_of.Given as goal

abbrev pub invariant-loop-label : goal.invariant-loop-label
invariant-loop-label l = l.addresses.items ≡ map (address_in l.datums) (take l.label-index l.labels)
