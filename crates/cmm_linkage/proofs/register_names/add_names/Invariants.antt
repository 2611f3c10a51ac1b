use Rattle.std.proofs.Common.{◌<◌, ◌^◌, length, map, take}
use Rattle.cmm_linkage.specs.inside.Linkages.{AreAdded, names_shown}
use Rattle.cmm_linkage.proofs.register_names.add_names.Given as goal

abbrev pub invariant-loop-register : goal.invariant-loop-register
invariant-loop-register l = record {
  names : AreAdded (map (λ r. r.name.now.name) (take l.register-index l.registers)) (names_shown l.initial.to) (names_shown l.to);
  fits : length l.to.keys < 2 ^ 32;
}
