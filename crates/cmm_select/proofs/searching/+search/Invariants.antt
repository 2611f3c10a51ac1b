use Rattle.std.proofs.Common.{length}
use Rattle.cmm_select.proofs.searching.+search.Given as goal

abbrev pub decreases-search : goal.decreases-search
decreases-search l = length l.spans.now
