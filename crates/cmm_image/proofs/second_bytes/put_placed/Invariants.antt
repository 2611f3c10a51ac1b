use Rattle.std.proofs.Common.{◌≡◌, ◌++◌, length, flat_map}
use Rattle.cmm_format.specs.Formats.{number_bytes}
use Rattle.cmm_image.proofs.SecondByteLaws.{both}
use Rattle.cmm_image.proofs.second_bytes.put_placed.Given as goal

abbrev pub invariant-loop-row : goal.invariant-loop-row
invariant-loop-row l = l.out.items ≡ l.fn.out.items ++ (number_bytes 2 (length l.rows) ++ flat_map both l.yielded)
