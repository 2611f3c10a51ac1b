use Rattle.std.proofs.Common.{◌≡◌, map, take}
use Rattle.std.specs.Prelude.{flat_map}
use Rattle.cmm_static_semantics.specs.Spots.{first_of}
use Rattle.cmm_static_semantics.specs.Declarations.{host_again}
use Rattle.cmm_symbols.specs.Shown.{shown}
use Rattle.cmm_check_units.proofs.host.note_hosts.Given as goal

abbrev pub invariant-loop-named : goal.invariant-loop-named
invariant-loop-named l = l.best ≡ first_of l.fn.best (flat_map host_again (map shown (take l.named-index l.declared)))
