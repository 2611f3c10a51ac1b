use Rattle.std.proofs.Common.{◌≡◌, drop}
use Rattle.cmm_program.specs.Placed.{are_rows_placed}
use Rattle.cmm_program.proofs.placement.rows_are_placed.Given as goal

-- the answer depends on what is left alone
abbrev pub invariant-loop-p : goal.invariant-loop-p
invariant-loop-p l = are_rows_placed l.procs l.rows ≡ are_rows_placed (drop l.p-index l.procs) l.left
