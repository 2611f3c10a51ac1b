use Rattle.std.proofs.Common.{◌≡◌, ℕ, ◌<◌, ◌≤◌, length, true, None}
use Rattle.cmm_bitset.specs.Sets.{has}
use Rattle.cmm_emit.specs.LaidNodes.{IsBetween, IsLaidBehind}
use Rattle.cmm_emit.proofs.node_code.lay_nodes.Given as goal

-- the nodes from this one on have their code
abbrev pub invariant-loop-number : goal.invariant-loop-number
invariant-loop-number l = record {
  between : IsBetween l.context l.targets l.graph l.asm.labels l.placed l.asm.parts;
  from : (k : ℕ) → l.number ≤ k → k < length l.graph.nodes → has l.placed k ≡ true;
  behind : IsLaidBehind l.context l.targets l.graph None l.initial.asm.labels l.asm.labels l.initial.placed l.placed l.initial.asm.parts l.asm.parts;
}
