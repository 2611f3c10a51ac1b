mod Ends
mod Addresses
mod Placing
mod Sizes
mod Words
mod Fixes
mod Waiting
mod Layable
mod Images
mod Rows
pub mod Shared
