use Rattle.std.proofs.Common.{◌≡◌, ◌≤◌, ◌-◌}
use Rattle.cmm_effects.specs.Pieces.{Adds}
use Rattle.cmm_calls.proofs.Arrived.{LoadsSome, left}
use Rattle.cmm_calls.specs.inside.Arriving.{load_cost}
use Rattle.cmm_calls.proofs.copying.load_each.Given as goal

-- the values so far that come from the area to registers are there
abbrev pub invariant-loop-index : goal.invariant-loop-index
invariant-loop-index l = record {
  copies : Adds (load_cost 0 l.to - left l.index l.to) l.fn.asm.parts l.asm.parts (LoadsSome (load_cost 0 l.to - left l.index l.to) l.frame.size l.index l.to);
  less : left l.index l.to ≤ load_cost 0 l.to;
  labels : l.asm.labels ≡ l.fn.asm.labels;
}
