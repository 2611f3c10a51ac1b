use Rattle.std.proofs.Common.{◌≡◌, map, drop}
use Rattle.cmm_static_semantics.specs.Linking.{starts}
use Rattle.cmm_symbols.specs.Shown.{shown}
use Rattle.cmm_check_units.proofs.linking.starts.Given as goal

abbrev pub invariant-loop-export : goal.invariant-loop-export
invariant-loop-export l = starts (map shown l.table.declared) (map (λ e. e.now) (drop l.export-index l.exports)) ≡ starts (map shown l.table.declared) (map (λ e. e.now) l.exports)
