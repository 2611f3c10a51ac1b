use Rattle.std.proofs.Common.{drop}
use Rattle.cmm_limits.specs.inside.InForce.{HasTokens}
use Rattle.cmm_limits.proofs.span_tokens.add_around.Given as goal

-- the tokens from this one on are there
abbrev pub invariant-loop-index : goal.invariant-loop-index
invariant-loop-index l = HasTokens l.tokens l.different (drop l.index l.around)
