use Rattle.std.proofs.Common.{◌≡◌, suc, [], drop, length}
use Rattle.std.specs.List.{slice_split}
use Rattle.cmm_script.specs.Words.{ends_line, said_from, said_in}
use Rattle.cmm_script.specs.inside.Building.{blocks_after}
use Rattle.cmm_script.proofs.reader.blocks_of.Given as goal

-- the lines that are left, after the blocks so far, make what all lines make
abbrev pub invariant-loop-line : goal.invariant-loop-line
invariant-loop-line l = record {
  number : l.number ≡ length l.yielded;
  so_far : blocks_after l.blocks.items (said_from (suc l.number) (drop l.number (slice_split ends_line l.bytes))) ≡ blocks_after [] (said_in l.bytes);
}
