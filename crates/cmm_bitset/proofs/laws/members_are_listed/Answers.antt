use Rattle.cmm_bitset.proofs.Membership.{member_count-le}
use Rattle.cmm_bitset.proofs.MemberLists.{members_had, members_ascend}
use Rattle.cmm_bitset.proofs.laws.members_are_listed.Goals as goal

pub returns : goal.returns
returns c = record {
  exact = members_had;
  ascending = members_ascend;
  bounded = member_count-le;
}
