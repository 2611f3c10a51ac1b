use Rattle.std.proofs.Common.{◌∙◌}
use Rattle.clap.proofs.WalkLemmas.{both}
use Rattle.cmm_command.proofs.Sorting.{sorted-refused, sorted-taken}
use Rattle.cmm_command.proofs.sorted.sorted.Goals as goal

pub returns-in-Ok : goal.returns-in-Ok
returns-in-Ok c = sorted-taken _ _ _ (c.in-Ok.ensures.kinds c.requires) (c.in-Ok.ensures.matches (both _ _ c.requires).0).0

pub returns : goal.returns
returns c = sorted-refused _ _ c.in-Err.error (c.in-Err.ensures.kinds c.requires) (λ e. c.in_default.not-OutOfMemory (c.kind.ensures ∙ e))
