-- What proofs of other crates may cite: what each call does to membership, and the list of members.
pub use Rattle.cmm_bitset.proofs.Membership.{has-replicate, has-set_same, has-set_other, has-union, length-union, same_from_has, union_settled, union_grows, member_count-le, member_count-union, members_from-none, members_from-least}
pub use Rattle.cmm_bitset.proofs.MemberLists.{members_had, members_ascend}
