use Rattle.std.proofs.Common.{◌<◌, length}
use Rattle.std.specs.List.{All}
use Rattle.cmm_colour.proofs.candidates.Candidates.of_left.Given as goal

abbrev pub invariant-loop-node : goal.invariant-loop-node
invariant-loop-node l = All (λ candidate. candidate.node < length l.degrees) l.waiting.items
