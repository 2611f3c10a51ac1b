use Rattle.std.proofs.Common.{◌<◌}
use Rattle.std.specs.List.{All}
use Rattle.cmm_colour.proofs.candidates.Candidates.next.Given as goal

abbrev pub invariant-loop-candidate : goal.invariant-loop-candidate
invariant-loop-candidate l = All (λ candidate. candidate.node < l.lists.nodes) l.self.waiting.items

abbrev pub decreases-loop-candidate : goal.decreases-loop-candidate
decreases-loop-candidate l = goal.left-loop-candidate l
