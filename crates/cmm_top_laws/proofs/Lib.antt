pub mod Explaining
pub mod Calling
pub mod Snapshots
pub mod Asking
pub mod Accepting
mod CallRows
