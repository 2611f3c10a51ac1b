use Rattle.std.proofs.Common.{◌≡◌, ◌*◌, take}
use Rattle.cmm_effects.specs.Pieces.{Adds}
use Rattle.cmm_calls.proofs.Homes.{GivesSoFar}
use Rattle.cmm_calls.specs.inside.Giving.{count_in}
use Rattle.cmm_calls.proofs.giving.give_each.Given as goal

-- those of the values so far went out
abbrev pub invariant-loop-index : goal.invariant-loop-index
invariant-loop-index l = record {
  gives : Adds (12 * count_in l.area 0 (take l.index l.values)) l.fn.asm.parts l.asm.parts (GivesSoFar (12 * count_in l.area 0 (take l.index l.values)) l.frame.size l.area l.index l.values);
  labels : l.asm.labels ≡ l.fn.asm.labels;
}
