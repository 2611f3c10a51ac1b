use Rattle.std.proofs.Common.{◌≡◌, Some, length, map, take}
use Rattle.std.specs.List.{All}
use Rattle.cmm_static_semantics.specs.Linking.{Program}
use Rattle.cmm_symbols.specs.Shown.{shown}
use Rattle.cmm_typing.specs.Fitting.{FitsSense}
use Rattle.cmm_unit_scope.specs.inside.Evaluating.{first_sense}
use Rattle.cmm_unit_scope.proofs.Setting.{IsOnTheWay}
use Rattle.cmm_unit_scope.proofs.evaluating.evaluate.Given as goal

abbrev pub invariant-loop-node : goal.invariant-loop-node
invariant-loop-node l =
    (length l.senses ≡ length l.table.declared) × All (λ s. FitsSense (Some s)) l.senses
    × ((program : Program) → l.fn.senses ≡ map (first_sense program (map shown l.table.declared)) (map shown l.table.declared) →
    IsOnTheWay program (map shown l.table.declared) (take l.node-index l.node-items) l.senses)
