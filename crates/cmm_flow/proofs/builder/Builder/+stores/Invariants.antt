use Rattle.std.proofs.Common.{length}
use Rattle.cmm_flow.proofs.builder.Builder.+stores.Given as goal

abbrev pub decreases-stores : goal.decreases-stores
decreases-stores l = length l.to.now
