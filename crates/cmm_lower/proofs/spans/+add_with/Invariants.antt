use Rattle.std.proofs.Common.{length}
use Rattle.cmm_lower.proofs.spans.+add_with.Given as goal

abbrev pub decreases-add_with : goal.decreases-add_with
decreases-add_with l = length l.around.now
