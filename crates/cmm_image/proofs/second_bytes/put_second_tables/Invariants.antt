use Rattle.std.proofs.Common.{◌≡◌, ◌++◌, flat_map}
use Rattle.cmm_image.proofs.SecondByteLaws.{owner_bytes}
use Rattle.cmm_image.proofs.second_bytes.put_second_tables.Given as goal

abbrev pub invariant-loop-procedure : goal.invariant-loop-procedure
invariant-loop-procedure l = l.out.items ≡ l.fn.out.items ++ flat_map owner_bytes l.yielded
