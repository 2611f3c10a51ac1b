use Rattle.std.proofs.Common.{◌≡◌, take}
use Rattle.cmm_effects.specs.Pieces.{Adds}
use Rattle.cmm_calls.proofs.Stored.{StoresSome}
use Rattle.cmm_calls.specs.inside.Arriving.{store_cost, stored_count}
use Rattle.cmm_calls.proofs.copying.store_each.Given as goal

-- the values so far that come to memory are there
abbrev pub invariant-loop-index : goal.invariant-loop-index
invariant-loop-index l = record {
  copies : Adds (store_cost (take l.index l.to)) l.fn.asm.parts l.asm.parts (StoresSome (stored_count (take l.index l.to)) (store_cost (take l.index l.to)) l.frame.size l.to (take l.index l.to));
  labels : l.asm.labels ≡ l.fn.asm.labels;
}
