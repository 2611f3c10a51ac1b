use Rattle.std.proofs.Common.{◌≡◌, None, replicate}
use Rattle.cmm_unit_scope.proofs.widths.no_widths.Given as goal

abbrev pub invariant-loop : goal.invariant-loop
invariant-loop l = l.widths ≡ replicate l.counter None
