use Rattle.std.proofs.Common.{◌≡◌, take}
use Rattle.std.specs.Prelude.{flat_map}
use Rattle.cmm_static_semantics.specs.Spots.{first_of}
use Rattle.cmm_static_semantics.specs.Units.{property_spots}
use Rattle.cmm_check_units.proofs.target.note_properties.Given as goal

abbrev pub invariant-loop-property : goal.invariant-loop-property
invariant-loop-property l = l.best ≡ first_of l.fn.best (flat_map property_spots (take l.property-index l.properties))
