use Rattle.std.proofs.Common.{◌≡◌, drop}
use Rattle.cmm_elaboration.specs.Sites.{innermost}
use Rattle.cmm_lower.proofs.spans.innermost.Given as goal

abbrev pub invariant-loop-index : goal.invariant-loop-index
invariant-loop-index l = l.inside ≡ innermost (drop l.index l.spans)
