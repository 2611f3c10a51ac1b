use Rattle.std.proofs.Common.{length}
use Rattle.cmm_flow.proofs.builder.Builder.+operands.Given as goal

abbrev pub decreases-operands : goal.decreases-operands
decreases-operands l = length l.es.now
