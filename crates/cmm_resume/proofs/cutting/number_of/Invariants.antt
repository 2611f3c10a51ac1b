use Rattle.std.proofs.Common.{◌≡◌, find, drop}
use Rattle.cmm_resume.specs.inside.CutPaths.{has_pair}
use Rattle.cmm_resume.proofs.cutting.number_of.Given as goal

abbrev pub invariant-loop-number : goal.invariant-loop-number
invariant-loop-number l = find (has_pair l.a.frame l.procedure l.to) l.number-items ≡ find (has_pair l.a.frame l.procedure l.to) (drop l.number-index l.number-items)
