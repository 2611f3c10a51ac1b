mod Ending
mod Places
mod Following
mod Labels
mod Requesting
mod Globals
mod Storing
mod Going
pub mod Shared
mod Rows
