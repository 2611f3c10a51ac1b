use Rattle.std.proofs.Common.{◌≡◌, ◌+◌, map}
use Rattle.std.specs.List.{range_with_len}
use Rattle.cmm_flow.proofs.procedure.nodes_from.Given as goal

abbrev pub invariant-loop : goal.invariant-loop
invariant-loop l = (l.number ≡ l.first + l.counter) × (map (λ n. n.number) l.nodes ≡ range_with_len l.first l.counter)
