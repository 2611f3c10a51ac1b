pub mod Frames
pub mod Walks
pub mod Changes
pub mod Machine
pub mod Observed
pub mod Laws
pub mod Tables
pub mod Versions
