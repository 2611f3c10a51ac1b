use Rattle.std.proofs.Common.{length}
use Rattle.cmm_flow.proofs.builder.Builder.+values.Given as goal

abbrev pub decreases-values : goal.decreases-values
decreases-values l = length l.values.now
