use Rattle.std.proofs.Common.{◌≡◌, map, length, take}
use Rattle.cmm_digraph.proofs.waiting.waiting_in.Given as goal

abbrev pub invariant-loop-mentioned : goal.invariant-loop-mentioned
invariant-loop-mentioned l = l.waiting.items ≡ map length (take l.mentioned-index l.graph)
