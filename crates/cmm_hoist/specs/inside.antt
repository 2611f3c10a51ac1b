pub mod Worth
pub mod Room
