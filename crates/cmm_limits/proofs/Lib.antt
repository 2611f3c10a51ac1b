pub mod Rooms
pub mod Counts
pub mod Spans
pub mod Sums
pub mod Shared
