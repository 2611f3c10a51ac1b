use Rattle.cmm_bitset.proofs.Joining.{Joining}
use Rattle.cmm_bitset.proofs.words.join.Given as goal

abbrev pub invariant-loop-i : goal.invariant-loop-i
invariant-loop-i l = Joining l.initial.words.items l.words.items l.others l.i l.grew
