pub mod Rows
pub mod Labels
pub mod Rooms
pub mod Linked
pub mod Laws
pub mod inside
