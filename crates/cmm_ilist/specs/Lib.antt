pub mod NodeLists
pub mod inside
