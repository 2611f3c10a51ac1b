use Rattle.std.proofs.Common.{◌≡◌, replicate}
use Rattle.cmm_flow.proofs.procedure.repeated.Given as goal

abbrev pub invariant-loop : goal.invariant-loop
invariant-loop l = l.nodes ≡ replicate l.counter l.node
