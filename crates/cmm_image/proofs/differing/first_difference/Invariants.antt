use Rattle.std.proofs.Common.{◌≡◌, ℕ, ◌<◌, false, map, take}
use Rattle.cmm_image.specs.Migration.{differs}
use Rattle.cmm_image.specs.inside.Seen.{AreSeen}
use Rattle.cmm_image.proofs.differing.first_difference.Given as goal

-- no variable differs so far, and the places of all are seen
abbrev pub invariant-loop-number : goal.invariant-loop-number
invariant-loop-number l = record {
  before : (j v : ℕ) → j < l.number → differs l.sites j v ≡ false;
  seen : AreSeen l.procedures (map (λ places. places.items) l.seen.items) (take l.number l.sites);
}
