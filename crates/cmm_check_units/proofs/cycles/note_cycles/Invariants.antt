use Rattle.std.proofs.Common.{◌≡◌, map, take}
use Rattle.std.specs.Prelude.{flat_map}
use Rattle.cmm_static_semantics.specs.Spots.{first_of}
use Rattle.cmm_symbols.specs.Shown.{shown}
use Rattle.cmm_check_units.specs.inside.Cyclic.{AreNoted, entry_cycle_spots}
use Rattle.cmm_check_units.proofs.cycles.note_cycles.Given as goal

abbrev pub invariant-loop-number : goal.invariant-loop-number
invariant-loop-number l = AreNoted l.fn.best (map shown l.declared) →
    l.best ≡ first_of l.fn.best (flat_map (entry_cycle_spots (map shown l.declared)) (map shown (take l.number l.declared)))
