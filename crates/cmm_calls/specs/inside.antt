pub mod Rooms
pub mod Pairs
pub mod Taking
pub mod Giving
pub mod Jumps
pub mod Moves
pub mod Arriving
pub mod Zeroing
