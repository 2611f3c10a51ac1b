use Rattle.std.proofs.Common.{◌≡◌, ℕ, ◌<◌, true}
use Rattle.cmm_image.specs.inside.Seen.{agree_at}
use Rattle.cmm_image.proofs.differing.differing.Given as goal

abbrev pub invariant-loop-variable : goal.invariant-loop-variable
invariant-loop-variable l = (u : ℕ) → u < l.variable → agree_at l.seen l.at_site u ≡ true
