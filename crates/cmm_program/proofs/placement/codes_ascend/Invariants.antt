use Rattle.std.proofs.Common.{◌≡◌, drop}
use Rattle.cmm_program.specs.Placed.{ascend_from}
use Rattle.cmm_program.proofs.placement.codes_ascend.Given as goal

-- the answer depends on the last code and on what is left alone
abbrev pub invariant-loop-row : goal.invariant-loop-row
invariant-loop-row l = ascend_from 0 l.rows ≡ ascend_from l.last (drop l.row-index l.rows)
