pub mod ShowingWalks
pub mod Levels
pub mod Ordering
pub mod Parts
pub mod Following
pub mod Staying
pub mod LeadingOn
pub mod Entries
pub mod Suspending
pub mod Walkable
pub mod Yields
pub mod Calls
pub mod GoingOn
pub mod Returns
pub mod Cuts
pub mod Assembling
pub mod Resting
pub mod Asking
pub mod Standing
pub mod ClientSets
pub mod Resuming
pub mod Commands
pub mod Clients
pub mod Simulating
mod Notation
mod Rows
mod PremiseRows
mod ExitSample
mod ExitNodes
mod ExitRows
mod ExitShown
