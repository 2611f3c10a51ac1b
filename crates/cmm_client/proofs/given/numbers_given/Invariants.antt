use Rattle.std.proofs.Common.{◌≡◌, length}
use Rattle.cmm_client.proofs.Numbers.{SoFar}
use Rattle.cmm_client.proofs.given.numbers_given.Given as goal

abbrev pub invariant-loop-k : goal.invariant-loop-k
invariant-loop-k l = record {
  so_far : SoFar l.yielded' l.values l.k l.numbers;
  count : length l.numbers ≡ 64;
}
