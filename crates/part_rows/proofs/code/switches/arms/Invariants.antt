use Rattle.std.proofs.Common.{◌≡◌, ◌*◌, ◌<◌}
use Rattle.std.specs.List.{All}
use Rattle.cmm_select.specs.Switches.{ranges_in}
use Rattle.part_rows.proofs.code.switches.arms.Given as goal

-- the arms so far
abbrev pub invariant-loop-number : goal.invariant-loop-number
invariant-loop-number l = record {
  to : All (λ arm. arm.to.number < l.number) l.arms.items;
  ranges : ranges_in l.arms.items ≡ 2 * l.number;
}
