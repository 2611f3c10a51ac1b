use Rattle.std.proofs.Common.{◌≡◌, map, take}
use Rattle.std.specs.Prelude.{flat_map}
use Rattle.cmm_static_semantics.specs.Spots.{first_of}
use Rattle.cmm_symbols.specs.Shown.{shown}
use Rattle.cmm_check_declarations.specs.EntryFaults.{entry_value_spots}
use Rattle.cmm_check_declarations.proofs.entries.note_entries.Given as goal

abbrev pub invariant-loop-named : goal.invariant-loop-named
invariant-loop-named g l = l.best ≡ first_of l.fn.best (flat_map (λ d. entry_value_spots (g.N.Names.senses l.names) d.as_what) (map shown (take l.named-index l.declared)))
