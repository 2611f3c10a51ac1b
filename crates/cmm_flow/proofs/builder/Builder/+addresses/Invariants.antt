use Rattle.std.proofs.Common.{length}
use Rattle.cmm_flow.proofs.builder.Builder.+addresses.Given as goal

abbrev pub decreases-addresses : goal.decreases-addresses
decreases-addresses l = length l.to.now
