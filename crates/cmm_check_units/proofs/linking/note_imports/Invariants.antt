use Rattle.std.proofs.Common.{◌≡◌, map, take}
use Rattle.std.specs.Prelude.{flat_map}
use Rattle.cmm_static_semantics.specs.Spots.{first_of}
use Rattle.cmm_static_semantics.specs.Linking.{import_spots}
use Rattle.cmm_linkage.specs.Exports.{exported_links}
use Rattle.cmm_symbols.specs.Shown.{shown}
use Rattle.cmm_check_units.proofs.linking.note_imports.Given as goal

abbrev pub invariant-loop-named : goal.invariant-loop-named
invariant-loop-named l = l.best ≡ first_of l.fn.best (flat_map (import_spots (exported_links l.linkage)) (map shown (take l.named-index l.declared)))
