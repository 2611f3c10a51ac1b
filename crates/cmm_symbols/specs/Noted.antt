-- The first fault of some and of names that are too long.
use Rattle.std.specs.Prelude.{List, flat_map, Option}
use Rattle.cmm_ast.specs.declared.token.Ident.{Ident}
use Rattle.cmm_static_semantics.specs.declared.spot.Spot.{Spot}
use Rattle.cmm_static_semantics.specs.Spots.{first_of}
use Rattle.cmm_static_semantics.specs.LongNames.{long_spots}

unfoldable pub long_of : Option Spot → List Ident → Option Spot
long_of best names = first_of best (flat_map long_spots names)
