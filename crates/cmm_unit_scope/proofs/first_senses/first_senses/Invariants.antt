use Rattle.std.proofs.Common.{◌≡◌, Some, map, take}
use Rattle.std.specs.List.{All}
use Rattle.cmm_symbols.specs.Shown.{shown}
use Rattle.cmm_typing.specs.Fitting.{FitsSense}
use Rattle.cmm_unit_scope.specs.inside.Evaluating.{first_sense}
use Rattle.cmm_unit_scope.proofs.first_senses.first_senses.Given as goal

abbrev pub invariant-loop-named : goal.invariant-loop-named
invariant-loop-named g l =
    (l.senses ≡ map (first_sense (g.L.Linked.program l.linked) (map shown l.declared)) (map shown (take l.named-index l.declared)))
    × All (λ s. FitsSense (Some s)) l.senses
