pub mod Stops
pub mod SnapshotFormat
pub mod Snapshots
pub mod Laws
pub mod inside
