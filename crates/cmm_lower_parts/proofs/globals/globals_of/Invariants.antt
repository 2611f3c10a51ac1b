use Rattle.std.proofs.Common.{◌≡◌, map, take}
use Rattle.cmm_symbols.specs.Indexed.{indexed}
use Rattle.cmm_lower_parts.specs.Registers.{global_by}
use Rattle.cmm_lower_parts.proofs.globals.globals_of.Given as goal

abbrev pub invariant-loop-name : goal.invariant-loop-name
invariant-loop-name l = l.globals ≡ map (global_by (indexed l.widths)) (map (λ n. n.now) (take l.name-index l.names))
