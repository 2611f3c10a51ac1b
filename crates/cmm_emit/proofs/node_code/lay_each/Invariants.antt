use Rattle.std.proofs.Common.{◌≡◌, ℕ, ◌<◌, None, get_or, true}
use Rattle.cmm_bitset.specs.Sets.{has}
use Rattle.cmm_emit.specs.LaidNodes.{IsBetween, IsLaidBehind}
use Rattle.cmm_emit.proofs.node_code.lay_each.Given as goal

-- what is laid so far has its code, and the nodes so far have their places
abbrev pub invariant-loop-node : goal.invariant-loop-node
invariant-loop-node l = record {
  between : IsBetween l.context l.targets l.graph l.asm.labels l.placed l.asm.parts;
  each : (k : ℕ) → k < l.node-index → has l.placed (get_or l.nodes k (record { number = 0 })).number ≡ true;
  behind : IsLaidBehind l.context l.targets l.graph None l.fn.asm.labels l.asm.labels l.fn.placed l.placed l.fn.asm.parts l.asm.parts;
}
