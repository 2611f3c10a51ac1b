use Rattle.std.proofs.Common.{◌≡◌, List, Option, take}
use Rattle.std.specs.Prelude.{option_map}
use Rattle.cmm_static_semantics.specs.Spots.{first_of}
use Rattle.cmm_static_semantics.specs.Switches.{Extent, ranges_spots, with_extents}
use Rattle.cmm_check_procedure.specs.Extents.{shown}
use Rattle.cmm_check_procedure.specs.inside.Earlier.{AreEarlier}
use Rattle.cmm_check_procedure.proofs.ranges.Switch.note_ranges.Given as goal

abbrev pub invariant-loop-range : goal.invariant-loop-range
invariant-loop-range g l = (earlier : List (Option Extent)) → AreEarlier l.fn.seen earlier →
    (l.best ≡ first_of l.fn.best (ranges_spots (g.N.Names.senses l.self.names.now) l.self.width (option_map shown l.self.whole) earlier (take l.range-index l.ranges)))
    × AreEarlier l.seen (with_extents (g.N.Names.senses l.self.names.now) l.self.width (take l.range-index l.ranges) earlier)
