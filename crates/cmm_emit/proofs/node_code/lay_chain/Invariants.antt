use Rattle.std.proofs.Common.{◌≡◌, ℕ, ◌<◌, ◌≤◌, Some, true}
use Rattle.rv_asm.specs.Appending.{Appends}
use Rattle.cmm_bitset.specs.Sets.{has, member_count}
use Rattle.cmm_emit.specs.LaidNodes.{IsPending, PlacesOwn, size_with}
use Rattle.cmm_emit.proofs.node_code.lay_chain.Given as goal

-- the last node of the chain so far is still to come, and each turn gives one more its place
abbrev pub invariant-loop : goal.invariant-loop
invariant-loop l =
    IsPending l.context l.targets l.graph l.asm.labels l.placed l.at l.asm.parts
    × ((k : ℕ) → has l.initial.placed k ≡ true → has l.placed k ≡ true) × (l.counter < member_count l.placed)
    × Appends l.initial.asm.parts l.asm.parts (λ x from to. Unit {0}) × PlacesOwn l.context l.initial.asm.labels l.asm.labels
    × (size_with l.context l.targets l.graph l.asm.parts l.placed (Some l.at) ≤ size_with l.context l.targets l.graph l.initial.asm.parts l.initial.placed (Some l.initial.at))
