use Rattle.cmm_bitset.proofs.Membership.{has-replicate, has-set_same, has-set_other, has-union, union_settled, same_from_has}
use Rattle.cmm_bitset.proofs.laws.sets_are_their_members.Goals as goal

pub returns : goal.returns
returns c = record {
  empty = has-replicate;
  set = has-set_same;
  others = has-set_other;
  union = has-union;
  settled = union_settled;
  same = same_from_has;
}
