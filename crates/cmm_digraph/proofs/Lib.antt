pub mod Counting
pub mod Listing
pub mod Releasing
pub mod Steps
pub mod Evaluating
mod PeeledRows
pub mod Leading
pub mod Shortening
pub mod Due
pub mod Starting
pub mod Working
pub mod Entering
pub mod Leaving
pub mod Beginning
pub mod Joining
mod CycleRows
pub mod Shared
