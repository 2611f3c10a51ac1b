pub mod inside
pub mod InOrder
pub mod Extents
pub mod Heads
