use Rattle.std.proofs.Common.{◌≤◌, ◌^◌, length}
use Rattle.part_rows.proofs.code.machine.Machine.new.Given as goal

abbrev pub invariant-loop-fix : goal.invariant-loop-fix
invariant-loop-fix l = length l.code.items ≤ 2 ^ 20
