use Rattle.std.proofs.Common.{◌≡◌, Some, map, take}
use Rattle.cmm_symbols.specs.Shown.{shown, entry_shown}
use Rattle.cmm_unit_scope.specs.Types.{type_sense}
use Rattle.cmm_unit_scope.proofs.types.sensed.Given as goal

abbrev pub invariant-loop-number : goal.invariant-loop-number
invariant-loop-number l = l.senses ≡ map (λ n. type_sense (map shown l.declared) (Some (entry_shown n.what))) (take l.number l.declared)
