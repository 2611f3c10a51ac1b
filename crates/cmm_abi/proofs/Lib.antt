pub mod Roles
pub mod Words
pub mod Shared
mod PlaceRows
