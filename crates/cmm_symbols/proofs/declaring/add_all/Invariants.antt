use Rattle.std.proofs.Common.{◌≡◌, ◌++◌, map, take}
use Rattle.cmm_symbols.proofs.declaring.add_all.Given as goal

abbrev pub invariant-loop-export : goal.invariant-loop-export
invariant-loop-export l = map (λ e. e.now) l.to ≡ map (λ e. e.now) l.initial.to ++ take l.export-index l.exports
