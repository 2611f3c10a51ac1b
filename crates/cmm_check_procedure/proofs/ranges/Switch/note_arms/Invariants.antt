use Rattle.std.proofs.Common.{◌≡◌, false, List, Option, take, map}
use Rattle.std.specs.Prelude.{option_map}
use Rattle.cmm_static_semantics.specs.Spots.{first_of}
use Rattle.cmm_static_semantics.specs.Switches.{Extent, arms_spots}
use Rattle.cmm_check_procedure.specs.Extents.{shown}
use Rattle.cmm_check_procedure.specs.Heads.{arm_head}
use Rattle.cmm_check_procedure.specs.inside.Arms.{before, with_arms}
use Rattle.cmm_check_procedure.specs.inside.Earlier.{AreEarlier}
use Rattle.cmm_check_procedure.proofs.ranges.Switch.note_arms.Given as goal

abbrev pub invariant-loop-arm : goal.invariant-loop-arm
invariant-loop-arm g l = (earlier : List (Option Extent)) → AreEarlier l.fn.seen earlier →
    let state = with_arms (g.N.Names.senses l.self.names.now) l.self.width (before earlier false) (map arm_head (take l.arm-index l.arms)) in
    (l.best ≡ first_of l.fn.best (arms_spots (g.N.Names.senses l.self.names.now) l.self.width (option_map shown l.self.whole) earlier false (map arm_head (take l.arm-index l.arms))))
    × AreEarlier l.seen state.extents
    × (l.defaulted ≡ state.defaulted)
