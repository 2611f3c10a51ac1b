pub mod Kept
pub mod Arriving
pub mod Transfers
pub mod Doing
pub mod Alike
pub mod StackKept
pub mod Commands
pub mod Steps
pub mod Growing
pub mod Stacking
pub mod Addresses
pub mod Cells
pub mod StoredWords
pub mod Lasting
mod FittingActs
mod Bodies
mod FittingExits
mod FittingExpressions
mod Lists
mod FittingStores
mod FittingLandings
mod FittingStart
pub mod Fitting
pub mod Shared
