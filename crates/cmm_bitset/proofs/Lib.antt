pub mod Membership
pub mod MemberLists
pub mod WordBits
pub mod Joining
mod Rows
pub mod Shared
