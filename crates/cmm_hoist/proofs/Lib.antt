pub mod Named
pub mod Walk
pub mod Chain
pub mod Within
pub mod Hoisted
pub mod HoistRows
pub mod Shared
