use Rattle.std.proofs.Common.{◌≡◌, drop}
use Rattle.cmm_program.specs.Commands.{all_fit}
use Rattle.cmm_resume.proofs.values.check_widths.Given as goal

abbrev pub invariant-loop-k : goal.invariant-loop-k
invariant-loop-k l = all_fit l.widths l.values ≡ all_fit (drop l.k l.widths) (drop l.k l.values)
