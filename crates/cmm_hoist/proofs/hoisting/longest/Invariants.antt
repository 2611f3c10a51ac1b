use Rattle.std.proofs.Common.{◌≡◌, drop}
use Rattle.std.specs.Prelude.{max}
use Rattle.cmm_program.specs.Bounds.{longest}
use Rattle.cmm_hoist.proofs.hoisting.longest.Given as goal

abbrev pub invariant-loop-proc : goal.invariant-loop-proc
invariant-loop-proc l = max l.most (longest (drop l.proc-index l.procs)) ≡ longest l.procs
