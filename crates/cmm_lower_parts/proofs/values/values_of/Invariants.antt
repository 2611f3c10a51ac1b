use Rattle.std.proofs.Common.{◌≡◌, take}
use Rattle.cmm_elaboration.specs.Resolving.{values_of}
use Rattle.cmm_lower_parts.specs.Fitting.{ActualsFit}
use Rattle.cmm_lower_parts.proofs.values.values_of.Given as goal

abbrev pub invariant-loop-actual : goal.invariant-loop-actual
invariant-loop-actual g l = ActualsFit l.actuals → l.values ≡ values_of (g.N.Names.senses l.names) (take l.actual-index l.actuals)
