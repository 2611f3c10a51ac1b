-- What a switch is over falls.
use Rattle.std.specs.Prelude.{ℕ, nat_le, List, [], Option, Some, None}
use Rattle.cmm_rules.specs.declared.rule.Rule.TheVariants.{ArmsOverlap}
use Rattle.cmm_static_semantics.specs.declared.spot.Spot.{Spot}
use Rattle.cmm_static_semantics.specs.Spots.{unless}
use Rattle.cmm_static_semantics.specs.Switches.{Extent}

abbrev pub falling_spots : Option Extent → ℕ → List Spot
falling_spots (Some x) token = unless (nat_le x.low x.high) ArmsOverlap token
falling_spots None token = []
